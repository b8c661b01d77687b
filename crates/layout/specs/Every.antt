-- A question asked of everything in the tree that a record reads as: of each number, of each extension and of the names of each
-- object, at every level. Soundness is one such question; document 02 asks others. The code asks them by places in the bytes
-- (EveryAt.antt).
use Rattle.std.specs.Prelude.{ℕ, Bool, true, false, ◌&&◌, List, [], ◌∷◌, Some, None, Option}
use Rattle.layout.specs.Bytes.{Bytes}
use Rattle.layout.specs.Tree.{Tree, null, boolean, number, string, extension, array, object, Items, none, item, Members, empty, member, names}
use Rattle.layout.specs.Text.{between, code_points}
use Rattle.layout.specs.Number.{is_integer}
use Rattle.layout.specs.Order.{rising}

-- What is asked of a number's payload, of an extension's, and of the names of an object in stored order.
pub record Ask : Type 0 where
  pub number : Bytes → Bool
  pub extension : Bytes → Bool
  pub names : List Bytes → Bool

abbrev mutual
  pub every : Ask → Tree → Bool
  every a null = true
  every a (boolean x) = true
  every a (number b) = a.number b
  every a (string b) = true
  every a (extension b) = a.extension b
  every a (array ts) = every_items a ts
  every a (object ms) = a.names (names ms) && every_members a ms

  pub every_items : Ask → Items → Bool
  every_items a none = true
  every_items a (item t ts) = every a t && every_items a ts

  pub every_members : Ask → Members → Bool
  every_members a empty = true
  every_members a (member n t ms) = every a t && every_members a ms

-- Soundness: document 01, "names in strictly rising byte order in every object".
abbrev pub sound_ask : Ask
sound_ask = record { number = λ b. true; extension = λ b. true; names = rising }

-- That this says what `Sound` says is `sound_test` of proofs/Sounds.antt.
abbrev pub is_sound : Tree → Bool
is_sound t = every sound_ask t

-- Document 02 §5: "holds no extension, float, decimal, NaN or infinity"; §12 asks it too. Names are free.
abbrev pub kinds_ask : Ask
kinds_ask = record { number = is_integer; extension = λ b. false; names = λ ns. true }

-- Names "of 1 to 32 characters", which are code points by document 02 §2: of `low` to `high`. Nothing else is asked.
abbrev pub is_between : ℕ → ℕ → Option ℕ → Bool
is_between low high None = false
is_between low high (Some n) = between low high n

unfoldable pub has_characters : ℕ → ℕ → Bytes → Bool
unfolding code_points
has_characters low high n = is_between low high (code_points n)

abbrev pub each : (Bytes → Bool) → List Bytes → Bool
each f [] = true
each f (n ∷ ns) = f n && each f ns

abbrev pub names_ask : ℕ → ℕ → Ask
names_ask low high = record { number = λ b. true; extension = λ b. true; names = each (has_characters low high) }
