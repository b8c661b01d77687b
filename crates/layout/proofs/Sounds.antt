-- Soundness: the test says what `Sound` says, and the code's way through a readable record comes to that test.
use mathlib.Core.Path.{◌≡◌, refl, ap, ◌∙◌}
use mathlib.Core.Logic.{◌↔◌}
use mathlib.Core.Bool.{Bool, true, false, ◌&&◌}
use mathlib.Core.List.{List, [], ◌∷◌}
use lib.Dec.{T}
use Rattle.layout.specs.Bytes.{Bytes, Octets}
use Rattle.layout.specs.Answer.{Answer, gives, refused}
use Rattle.layout.specs.Tree.{Tree, null, boolean, number, string, extension, array, object, Items, none, item, Members, empty, member, names}
use Rattle.layout.specs.Encode.{Part, name_parts}
use Rattle.layout.specs.Read.{read}
use Rattle.layout.specs.Order.{before, rising}
use Rattle.layout.specs.Sound.{Rising, Sound, SoundItems, SoundMembers}
use Rattle.layout.specs.Place.{rising_from, rising_parts}
use Rattle.layout.specs.Parts.{texts}
use Rattle.layout.specs.Every.{every_items, every_members, sound_ask, is_sound}
use Rattle.layout.specs.EveryAt.{sound_at}
use Rattle.layout.specs.Check.{checked, soundness}
use Rattle.layout.proofs.Orders.{before_is}
use Rattle.layout.proofs.Asks.{texts_names, every_read}
use Rattle.std.specs.Prelude.{Ok, true, false, Bool}

-- The test and what it says.

pub both : (a b : Bool) {A B : Type 0} → T a ↔ A → T b ↔ B → T (a && b) ↔ (A × B)
both true b p q = (λ h. (p.0 tt, q.0 h), λ h. q.1 h.1)
both false b p q = (λ h. absurd h, λ h. absurd (p.1 h.0))

always : T true ↔ Unit {0}
always = (λ h. h, λ h. h)

pub rising_test : (ns : List Bytes) → T (rising ns) ↔ Rising ns
rising_test [] = always
rising_test (n ∷ []) = always
rising_test (n ∷ m ∷ ns) = both (before n m) (rising (m ∷ ns)) (before_is n m) (rising_test (m ∷ ns))

mutual
  -- The test of a tree answers whether it is sound.
  pub sound_test : (t : Tree) → T (is_sound t) ↔ Sound t
  sound_test null = always
  sound_test (boolean x) = always
  sound_test (number b) = always
  sound_test (string b) = always
  sound_test (extension b) = always
  sound_test (array ts) = items_test ts
  sound_test (object ms) = both (rising (names ms)) (every_members sound_ask ms) (rising_test (names ms)) (members_test ms)

  items_test : (ts : Items) → T (every_items sound_ask ts) ↔ SoundItems ts
  items_test none = always
  items_test (item t ts) = both (is_sound t) (every_items sound_ask ts) (sound_test t) (items_test ts)

  members_test : (ms : Members) → T (every_members sound_ask ms) ↔ SoundMembers ms
  members_test empty = always
  members_test (member n t ms) = both (is_sound t) (every_members sound_ask ms) (sound_test t) (members_test ms)

-- Rising names by places: the bytes of the parts rise.
texts_rise_from : (n : Bytes) (ps : List Part) → rising_from n ps ≡ rising (n ∷ texts ps)
unfolding rising_from
texts_rise_from n [] = refl
texts_rise_from n (p ∷ ps) = ap (λ b. before n p.bytes && b) (texts_rise_from p.bytes ps)

pub texts_rise : (ps : List Part) → rising_parts ps ≡ rising (texts ps)
unfolding rising_parts
texts_rise [] = refl
texts_rise (p ∷ ps) = texts_rise_from p.bytes ps

pub rising_names : (ns : List Bytes) → rising_parts (name_parts ns) ≡ rising ns
rising_names ns = texts_rise (name_parts ns) ∙ ap rising (texts_names ns)

-- The answer, in the terms of the code.
pub answer_of : (s : Bytes) (m : Answer Tree) (g : Bool) → Octets s → read s ≡ m → Ok tt ≡ checked m → g ≡ sound_at 64 s → Ok g ≡ soundness m
answer_of s (refused r) g o e q h = cc
answer_of s (gives t) g o e q h =
    rw (h, every_read sound_ask s t o e)
