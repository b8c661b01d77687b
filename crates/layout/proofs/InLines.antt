-- Definitions that are now said by others, in the lines that they had, each with the law that it says the same. That of
-- rule 5 is `entry_in_lines` of Entries.antt; the lines that fields of four bytes had are in `be32_is` and `word_is` of
-- Words.antt and `word_at_drop` of Fields.antt.
use Prim.Native.Nat.{ℕ, zero, suc, ◌+◌, ◌*◌}
use mathlib.Core.Path.{◌≡◌, refl, sym, ap, ap₂}
use mathlib.Core.Bool.{Bool, true, ◌&&◌}
use mathlib.Core.List.{List, [], ◌∷◌}
use Rattle.layout.specs.Bytes.{Bytes}
use Rattle.layout.specs.Tree.{Tree, null, boolean, number, string, extension, array, object, Items, none, item, Members, empty, member, names}
use Rattle.layout.specs.Encode.{Part}
use Rattle.layout.specs.Read.{header}
use Rattle.layout.specs.Order.{rising}
use Rattle.layout.specs.Place.{parts_at, rising_parts}
use Rattle.layout.specs.Every.{every_items, every_members, sound_ask, is_sound}
use Rattle.layout.specs.EveryAt.{every_part, every_parts, every_by, every_at, sound_at}
use Rattle.layout.specs.declared.item.Kind.{Kind}
use Rattle.layout.specs.declared.item.Kind.TheVariants.{Null, String, Number, False, True, Container, Extension}
use Rattle.layout.specs.declared.util.Header.{Header}
use Rattle.layout.specs.declared.util.Header.TheVariants.{Array, Object, Scalar}
use Rattle.layout.proofs.Sounds.{texts_rise}
use Rattle.std.specs.Prelude.{Ok, Err, Result}
use Rattle.layout.specs.declared.refusal.Refusal.{Refusal}

-- ---- the test of soundness, which is `every sound_ask`

abbrev mutual
  pub sound_in_lines : Tree → Bool
  sound_in_lines null = true
  sound_in_lines (boolean x) = true
  sound_in_lines (number b) = true
  sound_in_lines (string b) = true
  sound_in_lines (extension b) = true
  sound_in_lines (array ts) = items_in_lines ts
  sound_in_lines (object ms) = rising (names ms) && members_in_lines ms

  items_in_lines : Items → Bool
  items_in_lines none = true
  items_in_lines (item t ts) = sound_in_lines t && items_in_lines ts

  members_in_lines : Members → Bool
  members_in_lines empty = true
  members_in_lines (member n t ms) = sound_in_lines t && members_in_lines ms

mutual
  pub is_sound_is : (t : Tree) → is_sound t ≡ sound_in_lines t
  is_sound_is null = refl
  is_sound_is (boolean x) = refl
  is_sound_is (number b) = refl
  is_sound_is (string b) = refl
  is_sound_is (extension b) = refl
  is_sound_is (array ts) = items_are ts
  is_sound_is (object ms) = ap (λ b. rising (names ms) && b) (members_are ms)

  items_are : (ts : Items) → every_items sound_ask ts ≡ items_in_lines ts
  items_are none = refl
  items_are (item t ts) = ap₂ ◌&&◌ (is_sound_is t) (items_are ts)

  members_are : (ms : Members) → every_members sound_ask ms ≡ members_in_lines ms
  members_are empty = refl
  members_are (member n t ms) = ap₂ ◌&&◌ (is_sound_is t) (members_are ms)

-- ---- the same by places, which is `every_at sound_ask`

abbrev part_in_lines : (Bytes → Bool) → Kind → Bytes → Bool
part_in_lines f Null b = true
part_in_lines f String b = true
part_in_lines f Number b = true
part_in_lines f False b = true
part_in_lines f True b = true
part_in_lines f Container b = f b
part_in_lines f Extension b = true

abbrev parts_in_lines : (Bytes → Bool) → List Part → Bool
parts_in_lines f [] = true
parts_in_lines f (p ∷ ps) = part_in_lines f p.kind p.bytes && parts_in_lines f ps

abbrev by_in_lines : (Bytes → Bool) → Result Header Refusal → Bytes → Bool
by_in_lines f (Err r) s = true
by_in_lines f (Ok (Scalar n)) s = true
by_in_lines f (Ok (Array n)) s = parts_in_lines f (parts_at s 0 (4 + 4 * n) n)
by_in_lines f (Ok (Object n)) s =
    rising_parts (parts_at s 0 (4 + 4 * (n + n)) n) && parts_in_lines f (parts_at s 0 (4 + 4 * (n + n)) (n + n))

abbrev pub sound_at_in_lines : ℕ → Bytes → Bool
sound_at_in_lines zero s = true
sound_at_in_lines (suc k) s = by_in_lines (sound_at_in_lines k) (header s) s

scalar_passes : (k : Kind) (b : Bytes) → (every_part sound_ask (λ b. true) k b && true) ≡ true
unfolding every_part
scalar_passes Null b = refl
scalar_passes String b = refl
scalar_passes Number b = refl
scalar_passes False b = refl
scalar_passes True b = refl
scalar_passes Container b = refl
scalar_passes Extension b = refl

-- One part, where both have one answer for a nested container.
module _ (f g : Bytes → Bool) (same : (b : Bytes) → f b ≡ g b) where
  part_is : (k : Kind) (b : Bytes) → every_part sound_ask f k b ≡ part_in_lines g k b
  unfolding every_part
  part_is Null b = refl
  part_is String b = refl
  part_is Number b = refl
  part_is False b = refl
  part_is True b = refl
  part_is Container b = same b
  part_is Extension b = refl

  parts_are : (ps : List Part) → every_parts sound_ask f ps ≡ parts_in_lines g ps
  unfolding every_parts
  parts_are [] = refl
  parts_are (p ∷ ps) = ap₂ ◌&&◌ (part_is p.kind p.bytes) (parts_are ps)

  by_is : (h : Result Header Refusal) (s : Bytes) → every_by sound_ask f h s ≡ by_in_lines g h s
  unfolding every_parts parts_at
  by_is (Err r) s = refl
  by_is (Ok (Scalar n)) s = scalar_passes _ _
  by_is (Ok (Array n)) s = parts_are (parts_at s 0 (4 + 4 * n) n)
  by_is (Ok (Object n)) s = ap₂ ◌&&◌ (sym (texts_rise (parts_at s 0 (4 + 4 * (n + n)) n))) (parts_are (parts_at s 0 (4 + 4 * (n + n)) (n + n)))

pub sound_at_is : (k : ℕ) (s : Bytes) → sound_at k s ≡ sound_at_in_lines k s
unfolding every_at
sound_at_is zero s = refl
sound_at_is (suc k) s = by_is (sound_at k) (sound_at_in_lines k) (sound_at_is k) (header s) s
