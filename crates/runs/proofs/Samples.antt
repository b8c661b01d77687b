-- The records of the worked cases, with their values.
use Prim.Native.Nat.{◌<◌}
use mathlib.Core.Path.{◌≡◌, refl}
use mathlib.Core.Logic.{inl, inr}
use mathlib.Core.Bool.{Bool, true, false, ◌&&◌}
use mathlib.Core.List.{[], ◌∷◌}
use lib.Dec.{T, ltb, ltb→lt}
use Rattle.layout.specs.Bytes.{Bytes, Octets}
use Rattle.layout.specs.Answer.{gives}
use Rattle.layout.specs.Tree.{Tree, null, boolean, number, string, array, object, none, item, empty, member}
use Rattle.layout.specs.Read.{read}
use Rattle.layout.specs.Sound.{Sound}
use Rattle.layout.specs.Value.{Same}
use Rattle.layout.proofs.Values.{same_refl}
use Rattle.runs.specs.Demand2.{ReadsAs, OnceWith}
use Rattle.runs.specs.Demand.{SoundWith}

abbrev pub below_256 : Bytes → Bool
below_256 [] = true
below_256 (x ∷ b) = ltb x 256 && below_256 b

pub octets : (b : Bytes) → T (below_256 b) → Octets b
octets [] h = tt
octets (x ∷ b) h = go (ltb x 256) (ltb→lt x 256) (octets b) h
  where
    go : (t : Bool) → (T t → x < 256) → (T (below_256 b) → Octets b) → T (t && below_256 b) → Octets (x ∷ b)
    go true f g h = (f tt, g h)
    go false f g h = absurd h

-- A record with a value, and with the value that it reads as.
abbrev pub reads_with : (b : Bytes) (t v : Tree) → T (below_256 b) → read b ≡ gives t → Same v t → ReadsAs b v
reads_with b t v o e s = record { octets = octets b o; tree = t; reads = e; same = s }

pub sound_with : (b : Bytes) (t : Tree) → T (below_256 b) → read b ≡ gives t → Sound t → SoundWith b t
sound_with b t o e s = record { reads_as = reads_with b t t o e (same_refl t); sound = s }

-- ---- objects

-- {"a":1}, {"a":true} and {"b":true}.
abbrev pub one : Bytes
one = 0x40 ∷ 0 ∷ 0 ∷ 1 ∷ 0x10 ∷ 0 ∷ 0 ∷ 1 ∷ 0x20 ∷ 0 ∷ 0 ∷ 2 ∷ 0x61 ∷ 0x50 ∷ 1 ∷ []

abbrev pub one_value : Tree
one_value = object (member (0x61 ∷ []) (number (0x50 ∷ 1 ∷ [])) empty)

pub one_sound : SoundWith one one_value
unfolding read
one_sound = sound_with one one_value tt refl (tt, (tt, tt))

abbrev pub true_a : Bytes
true_a = 0x40 ∷ 0 ∷ 0 ∷ 1 ∷ 0x10 ∷ 0 ∷ 0 ∷ 1 ∷ 0x40 ∷ 0 ∷ 0 ∷ 0 ∷ 0x61 ∷ []

abbrev pub true_a_value : Tree
true_a_value = object (member (0x61 ∷ []) (boolean true) empty)

pub true_a_sound : SoundWith true_a true_a_value
unfolding read
true_a_sound = sound_with true_a true_a_value tt refl (tt, (tt, tt))

abbrev pub true_b : Bytes
true_b = 0x40 ∷ 0 ∷ 0 ∷ 1 ∷ 0x10 ∷ 0 ∷ 0 ∷ 1 ∷ 0x40 ∷ 0 ∷ 0 ∷ 0 ∷ 0x62 ∷ []

abbrev pub true_b_value : Tree
true_b_value = object (member (0x62 ∷ []) (boolean true) empty)

pub true_b_sound : SoundWith true_b true_b_value
unfolding read
true_b_sound = sound_with true_b true_b_value tt refl (tt, (tt, tt))

-- {"a":1,"b":true}, its value, and its value with the members in the other order.
abbrev pub both : Bytes
both =
    0x40 ∷ 0 ∷ 0 ∷ 2 ∷ 0x10 ∷ 0 ∷ 0 ∷ 1 ∷ 0x10 ∷ 0 ∷ 0 ∷ 1 ∷ 0x20 ∷ 0 ∷ 0 ∷ 2 ∷ 0x40 ∷ 0 ∷ 0 ∷ 0 ∷ 0x61 ∷ 0x62 ∷ 0x50 ∷ 1 ∷ []

abbrev pub a_and_b : Tree
a_and_b = object (member (0x61 ∷ []) (number (0x50 ∷ 1 ∷ [])) (member (0x62 ∷ []) (boolean true) empty))

abbrev pub b_and_a : Tree
b_and_a = object (member (0x62 ∷ []) (boolean true) (member (0x61 ∷ []) (number (0x50 ∷ 1 ∷ [])) empty))

pub both_sound : SoundWith both b_and_a
unfolding read
both_sound =
    record {
      reads_as =
          reads_with both a_and_b b_and_a tt refl
          (_, refl, (_, _, inr (_, refl, inl (refl, refl, refl)), refl, (_, _, inl (refl, refl, refl), refl, refl)));
      sound = ((inl (ltb→lt 0x61 0x62 tt), tt), (tt, (tt, tt)));
    }

-- {"b":true,"a":null}, whose names do not rise, with its value in byte order.
abbrev pub unsorted : Bytes
unsorted =
    0x40 ∷ 0 ∷ 0 ∷ 2 ∷ 0x10 ∷ 0 ∷ 0 ∷ 1 ∷ 0x10 ∷ 0 ∷ 0 ∷ 1 ∷ 0x40 ∷ 0 ∷ 0 ∷ 0 ∷ 0 ∷ 0 ∷ 0 ∷ 0 ∷ 0x62 ∷ 0x61 ∷ []

abbrev pub as_read : Tree
as_read = object (member (0x62 ∷ []) (boolean true) (member (0x61 ∷ []) null empty))

abbrev pub sorted : Tree
sorted = object (member (0x61 ∷ []) null (member (0x62 ∷ []) (boolean true) empty))

pub unsorted_once : OnceWith unsorted sorted
unfolding read
unsorted_once =
    record {
      reads_as =
          reads_with unsorted as_read sorted tt refl
          (_, refl, (_, _, inr (_, refl, inl (refl, refl, refl)), refl, (_, _, inl (refl, refl, refl), refl, refl)));
      once = (refl, (tt, (tt, tt)));
    }

-- ---- arrays

-- ["a","b"], ["a","a"] and [1,true].
abbrev pub name_list : Bytes
name_list = 0x80 ∷ 0 ∷ 0 ∷ 2 ∷ 0x10 ∷ 0 ∷ 0 ∷ 1 ∷ 0x10 ∷ 0 ∷ 0 ∷ 1 ∷ 0x61 ∷ 0x62 ∷ []

abbrev pub name_list_value : Tree
name_list_value = array (item (string (0x61 ∷ [])) (item (string (0x62 ∷ [])) none))

pub name_list_sound : SoundWith name_list name_list_value
unfolding read
name_list_sound = sound_with name_list name_list_value tt refl (tt, (tt, tt))

abbrev pub twice_a : Bytes
twice_a = 0x80 ∷ 0 ∷ 0 ∷ 2 ∷ 0x10 ∷ 0 ∷ 0 ∷ 1 ∷ 0x10 ∷ 0 ∷ 0 ∷ 1 ∷ 0x61 ∷ 0x61 ∷ []

abbrev pub twice_a_value : Tree
twice_a_value = array (item (string (0x61 ∷ [])) (item (string (0x61 ∷ [])) none))

pub twice_a_sound : SoundWith twice_a twice_a_value
unfolding read
twice_a_sound = sound_with twice_a twice_a_value tt refl (tt, (tt, tt))

abbrev pub value_list : Bytes
value_list = 0x80 ∷ 0 ∷ 0 ∷ 2 ∷ 0x20 ∷ 0 ∷ 0 ∷ 2 ∷ 0x40 ∷ 0 ∷ 0 ∷ 0 ∷ 0x50 ∷ 1 ∷ []

abbrev pub value_list_value : Tree
value_list_value = array (item (number (0x50 ∷ 1 ∷ [])) (item (boolean true) none))

pub value_list_sound : SoundWith value_list value_list_value
unfolding read
value_list_sound = sound_with value_list value_list_value tt refl (tt, (tt, tt))

-- ---- paths

-- The names "a" and "c".
abbrev pub name_a : Bytes
name_a = 0x80 ∷ 0 ∷ 0 ∷ 1 ∷ 0x10 ∷ 0 ∷ 0 ∷ 1 ∷ 0x61 ∷ []

abbrev pub name_c : Bytes
name_c = 0x80 ∷ 0 ∷ 0 ∷ 1 ∷ 0x10 ∷ 0 ∷ 0 ∷ 1 ∷ 0x63 ∷ []
