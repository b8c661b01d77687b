-- The members that are searched, as the code holds them.
use Rattle.std.specs.Prelude.{List}
use Rattle.layout.specs.Parts.{members_at}
use Rattle.layout.specs.declared.parts.MemberAt.{MemberAt}
use Rattle.builders.specs.Search.{kept_of}
use Rattle.builders.specs.declared.search.Members.{Members}

abbrev pub searched : Members → List MemberAt
searched w = kept_of w.kept 0 (members_at w.keys.now w.vals.now w.from w.count)
