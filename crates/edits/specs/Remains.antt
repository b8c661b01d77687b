-- What remains of a container without the item that a path finds in it, by its bytes: `remains` of Delete.antt, for the contracts of
-- src/delete.rt.
use Rattle.std.specs.Prelude.{List, [], Some, None, Option}
use Rattle.layout.specs.Bytes.{Bytes}
use Rattle.layout.specs.Answer.{Answer, gives, refused}
use Rattle.layout.specs.Tree.{Tree}
use Rattle.layout.specs.Encode.{payload}
use Rattle.layout.specs.Read.{nested}
use Rattle.edits.specs.Keypath.{Step}
use Rattle.edits.specs.Delete.{remains}

-- The bytes of what is left of a container, by its bytes.
abbrev pub remains_payload : Option Tree → Bytes
remains_payload None = []
remains_payload (Some t) = payload t

abbrev pub remains_in : Answer Tree → List Step → Bytes
remains_in (gives t) p = remains_payload (remains p t)
remains_in (refused r) p = []

unfoldable pub remains_of : Bytes → List Step → Bytes
remains_of s p = remains_in (nested 64 s) p
