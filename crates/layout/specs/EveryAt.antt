-- The questions of Every.antt by places in the bytes, as the code goes: `every_at` asks them of a record down to some level. That both
-- answer alike is `every_record` of proofs/Asks.antt.
use Rattle.std.specs.Prelude.{ℕ, zero, suc, ◌+◌, Bool, true, ◌&&◌, List, [], ◌∷◌, Ok, Err, Result}
use Rattle.layout.specs.Bytes.{Bytes}
use Rattle.layout.specs.Encode.{Part}
use Rattle.layout.specs.Read.{header}
use Rattle.layout.specs.Every.{Ask, sound_ask, kinds_ask, names_ask}
use Rattle.layout.specs.Parts.{parts_of, names_of}
use Rattle.layout.specs.declared.item.Kind.{Kind}
use Rattle.layout.specs.declared.item.Kind.TheVariants.{Null, String, Number, False, True, Container, Extension}
use Rattle.layout.specs.declared.util.Header.{Header}
use Rattle.layout.specs.declared.util.Header.TheVariants.{Array, Object, Scalar}
use Rattle.layout.specs.declared.refusal.Refusal.{Refusal}

-- One part, where `f` is the answer for a nested container.
unfoldable pub every_part : Ask → (Bytes → Bool) → Kind → Bytes → Bool
every_part a f Null b = true
every_part a f String b = true
every_part a f Number b = a.number b
every_part a f False b = true
every_part a f True b = true
every_part a f Container b = f b
every_part a f Extension b = a.extension b

unfoldable pub every_parts : Ask → (Bytes → Bool) → List Part → Bool
every_parts a f [] = true
every_parts a f (p ∷ ps) = every_part a f p.kind p.bytes && every_parts a f ps

-- A record by its header. A scalar record is its one part, and holds no container: rule 3, "code 5 is also 2".
abbrev pub every_by : Ask → (Bytes → Bool) → Result Header Refusal → Bytes → Bool
every_by a f (Err r) s = true
every_by a f (Ok (Scalar n)) s = every_parts a (λ b. true) (parts_of s 1)
every_by a f (Ok (Array n)) s = every_parts a f (parts_of s n)
every_by a f (Ok (Object n)) s = a.names (names_of s n) && every_parts a f (parts_of s (n + n))

-- Down to `k` levels.
unfoldable pub every_at : Ask → ℕ → Bytes → Bool
every_at a zero s = true
every_at a (suc k) s = every_by a (every_at a k) (header s) s

-- Two questions at once: that this asks both is `every_both` of proofs/Questions.antt.
abbrev pub both_ask : Ask → Ask → Ask
both_ask a b =
    record {
      number = λ p. a.number p && b.number p;
      extension = λ p. a.extension p && b.extension p;
      names = λ ns. a.names ns && b.names ns;
    }

-- Soundness, names of 1 to so many characters, and kinds: what the code asks of a record for document 02's profile.
abbrev pub profile_ask : ℕ → Ask
profile_ask longest = both_ask sound_ask (both_ask (names_ask 1 longest) kinds_ask)

-- Soundness, down to `k` levels.
abbrev pub sound_at : ℕ → Bytes → Bool
sound_at k s = every_at sound_ask k s
