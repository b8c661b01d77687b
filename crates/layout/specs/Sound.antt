-- Rising names: document 01, "Sound means readable, with names in strictly rising byte order in every object". A record is sound
-- where it reads, by `Read`, as a tree that is `Sound` here.
use Rattle.std.specs.Prelude.{◌<◌, ◌≡◌, ◌⊎◌, List, [], ◌∷◌}
use Rattle.layout.specs.Bytes.{Bytes}
use Rattle.layout.specs.Tree.{Tree, null, boolean, number, string, extension, array, object, Items, none, item, Members, empty, member, names}

-- Byte order: by the first byte that differs; a name comes before those that it begins.
infix 50 ◌≺◌
abbrev pub ◌≺◌ : Bytes → Bytes → Type 0
[] ≺ [] = ⊥
[] ≺ (y ∷ b) = Unit {0}
(x ∷ a) ≺ [] = ⊥
(x ∷ a) ≺ (y ∷ b) = (x < y) ⊎ ((x ≡ y) × (a ≺ b))

abbrev pub Rising : List Bytes → Type 0
Rising [] = Unit {0}
Rising (n ∷ []) = Unit {0}
Rising (n ∷ m ∷ ns) = (n ≺ m) × Rising (m ∷ ns)

abbrev mutual
  pub Sound : Tree → Type 0
  Sound null = Unit {0}
  Sound (boolean x) = Unit {0}
  Sound (number b) = Unit {0}
  Sound (string b) = Unit {0}
  Sound (extension b) = Unit {0}
  Sound (array ts) = SoundItems ts
  Sound (object ms) = Rising (names ms) × SoundMembers ms

  pub SoundItems : Items → Type 0
  SoundItems none = Unit {0}
  SoundItems (item t ts) = Sound t × SoundItems ts

  pub SoundMembers : Members → Type 0
  SoundMembers empty = Unit {0}
  SoundMembers (member n t ms) = Sound t × SoundMembers ms
