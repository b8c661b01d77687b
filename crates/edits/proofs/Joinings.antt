-- Two records that are not both objects, written as one array: what each gives, where 9 stands, and the outcome.
use Prim.Native.Nat.{ℕ, ◌+◌, ◌^◌, ◌≤◌, ◌<◌}
use native.Mathlib.Omega.{arith}
use mathlib.Core.Path.{◌≡◌, refl, ap, ap₂, sym, ◌∙◌}
use mathlib.Core.Logic.{◌⊎◌, ⊎_elim}
use mathlib.Core.Bool.{Bool, true, false}
use lib.Bits.{bit_or, or_shifted}
use borrow.Author.Tests.{le-leb, lt-leb}
use native.Mathlib.Decide.{dec_le}
use Rattle.layout.specs.Bytes.{Bytes}
use Rattle.layout.specs.Answer.{gives}
use Rattle.layout.specs.Tree.{Tree, null, boolean, number, string, extension, array, object, none, item}
use Rattle.layout.specs.Read.{header, read}
use Rattle.layout.specs.Limits.{depth, depth_items}
use Rattle.layout.specs.Check.{nesting}
use Rattle.layout.specs.Room.{EndedIn}
use Rattle.layout.specs.declared.refusal.Refusal.TheVariants.{Result as NoResult}
use Rattle.layout.specs.declared.util.Header.{Header}
use Rattle.layout.specs.declared.util.Header.TheVariants.{Array, Object, Scalar}
use Rattle.layout.proofs.Nestings.{head_of}
use Rattle.builders.specs.Build.{join, on_two}
use Rattle.builders.specs.Join.{given_count, Lies, as_one, joined}
use Rattle.builders.specs.Room.{sized}
use Rattle.builders.specs.declared.join.Given.{Given}
use Rattle.builders.specs.declared.join.Given.TheVariants.{Table, Whole}
use Rattle.builders.proofs.Knowns.{Known, known, BothOctets}
use Rattle.builders.proofs.Joins.{Gives, few, joined_encode}
use Rattle.builders.proofs.Appends.{array_lies, items_given, one_lies, one_given, depth_join}
use Rattle.builders.proofs.Twos.{two_deep, two_sized}
use Rattle.edits.specs.Concat.{as_items, members_in, concat}
use Rattle.edits.specs.Joining.{as_given, is_deep, NoPair}
use Rattle.edits.proofs.Deletes.{false_true}
use Rattle.edits.proofs.Concats.{concat_items, TwoObjects, objects_or}
use Rattle.std.specs.Prelude.{not, leb, Ok, Err, None, Result}
use Rattle.layout.specs.declared.refusal.Refusal.{Refusal}
use Rattle.layout.specs.Ended.{Ending}
use Rattle.layout.proofs.HandedOn.{one_value, not_both}
use Rattle.builders.proofs.Knowns.{nested_gives}

-- What a record gives, by its header.
pub given_array : (h k : Result Header Refusal) (n : ℕ) → h ≡ k → h ≡ Ok (Array n) → Table n ≡ as_given k
given_array h k n e q = rw (← e, q)

pub given_other : (h k : Result Header Refusal) (g : Given) → h ≡ k → ((n : ℕ) → h ≡ Ok (Array n) → ⊥) → g ≡ as_one k → g ≡ as_given k
given_other h (Ok (Array n)) g e q r = absurd (q n e)
given_other h (Ok (Object n)) g e q r = r
given_other h (Ok (Scalar n)) g e q r = r
given_other h (Err x) g e q r = r

-- A record's items lie in it, and they are the tree's.
module _ (s : Bytes) (g : Given) where
  one_offers : (t : Tree) → Known s t → g ≡ as_one (head_of t) → Lies s g × Gives s g (item t none)
  one_offers t k e =
      let q : g ≡ as_one (header s) = e ∙ ap as_one (sym k.head) in
      (one_lies s g t k q, one_given s g t k q)

  offers : (t : Tree) → Known s t → g ≡ as_given (head_of t) → Lies s g × Gives s g (as_items t)
  offers null k e = one_offers null k e
  offers (boolean x) k e = one_offers (boolean x) k e
  offers (number b) k e = one_offers (number b) k e
  offers (string b) k e = one_offers (string b) k e
  offers (extension b) k e = one_offers (extension b) k e
  offers (array ts) k e = rw e (array_lies s _ ts k refl, items_given s _ ts k refl)
  offers (object ms) k e = one_offers (object ms) k e

-- A container given whole is one level deeper in the array; the items of an array stay where they are.
whole_deep : (t : Tree) → is_deep Whole (leb (depth t) 63) ≡ true → 63 < depth t
whole_deep t e = go (dec_le (depth t) 63)
  where
    go : Dec (depth t ≤ 63) → 63 < depth t
    go (yes k) = false_true (ap not (sym (le-leb (depth t) 63 k)) ∙ e)
    go (no k) = omega arith

whole_fits : (t : Tree) → is_deep Whole (leb (depth t) 63) ≡ false → depth t ≤ 63
whole_fits t e = go (dec_le (depth t) 63)
  where
    go : Dec (depth t ≤ 63) → depth t ≤ 63
    go (yes k) = k
    go (no k) = false_true (sym e ∙ ap not (lt-leb (depth t) 63 (omega arith)))

deep_items : (t : Tree) → is_deep (as_given (head_of t)) (leb (depth t) 63) ≡ true → 63 < depth_items (as_items t)
deep_items null e = false_true e
deep_items (boolean x) e = false_true e
deep_items (number b) e = false_true e
deep_items (string b) e = false_true e
deep_items (extension b) e = false_true e
deep_items (array ts) e = false_true e
deep_items (object ms) e = omega (arith, whole_deep (object ms) e)

fits_items : (t : Tree) → depth t ≤ 64 → is_deep (as_given (head_of t)) (leb (depth t) 63) ≡ false → depth_items (as_items t) ≤ 63
fits_items null d e = omega arith
fits_items (boolean x) d e = omega arith
fits_items (number b) d e = omega arith
fits_items (string b) d e = omega arith
fits_items (extension b) d e = omega arith
fits_items (array ts) d e = omega arith
fits_items (object ms) d e = omega (arith, whole_fits (object ms) e)

-- Two readable records, not both objects.
pub record Apart (l r : Bytes) : Type 0 where
  pub octets : BothOctets l r
  pub left : (x : Bool) × (nesting (read l) ≡ Ok x)
  pub right : (y : Bool) × (nesting (read r) ≡ Ok y)
  pub no_pair : NoPair (header l) (header r)

-- And what each gives to the array.
pub record Offered (l r : Bytes) (g h : Given) : Type 0 where
  pub before : Apart l r
  pub left : g ≡ as_given (header l)
  pub right : h ≡ as_given (header r)

module _ {l r : Bytes} (s : Apart l r) where
  left : (t : Tree) × Known l t
  left = let w = nested_gives (read l) (nesting (read l)) refl (λ y e. not_both e s.left.1) in (w.0, known l w.0 s.octets.left w.1)

  right : (u : Tree) × Known r u
  right = let w = nested_gives (read r) (nesting (read r)) refl (λ y e. not_both e s.right.1) in (w.0, known r w.0 s.octets.right w.1)

  abbrev both : Tree
  both = array (join (as_items left.0) (as_items right.0))

  gives_both : concat left.0 right.0 ≡ gives both
  gives_both = concat_items left.0 right.0 (⊎_elim two (λ h. h) (objects_or left.0 right.0))
    where
      two : TwoObjects left.0 right.0 → (members_in left.0 ≡ None) ⊎ (members_in right.0 ≡ None)
      two q = absurd (s.no_pair _ _ (left.1.head ∙ ap head_of q.left_is) (right.1.head ∙ ap head_of q.right_is))

module _ {l r : Bytes} {g h : Given} (s : Offered l r g h) where
  abbrev lt : (t : Tree) × Known l t
  lt = left s.before

  abbrev rt : (u : Tree) × Known r u
  rt = right s.before

  left_head : g ≡ as_given (head_of lt.0)
  left_head = s.left ∙ ap as_given lt.1.head

  right_head : h ≡ as_given (head_of rt.0)
  right_head = s.right ∙ ap as_given rt.1.head

  left_offers : Lies l g × Gives l g (as_items lt.0)
  left_offers = offers l g lt.0 lt.1 left_head

  right_offers : Lies r h × Gives r h (as_items rt.0)
  right_offers = offers r h rt.0 rt.1 right_head

  pub items_lie : Lies l g × Lies r h
  items_lie = (left_offers.0, right_offers.0)

  pub few_items : {m n : ℕ} → m ≡ given_count g → n ≡ given_count h → m + n ≤ 32768
  few_items em en = omega (arith, few l g left_offers.0, few r h right_offers.0)

  -- A record whose own level is too deep, by the test of the code: `d` is what `is_deep` answered.
  left_test : {x : Bool} → nesting (read l) ≡ Ok x → {d : Bool} → d ≡ is_deep g x → {b : Bool} → d ≡ b
      → is_deep (as_given (head_of lt.0)) (leb (depth lt.0) 63) ≡ b
  left_test hx hd q = ap₂ is_deep (sym left_head) (one_value (ap nesting lt.1.reads) hx) ∙ sym hd ∙ q

  right_test : {y : Bool} → nesting (read r) ≡ Ok y → {d : Bool} → d ≡ is_deep h y → {b : Bool} → d ≡ b
      → is_deep (as_given (head_of rt.0)) (leb (depth rt.0) 63) ≡ b
  right_test hy hd q = ap₂ is_deep (sym right_head) (one_value (ap nesting rt.1.reads) hy) ∙ sym hd ∙ q

  pub left_deep : {x : Bool} → nesting (read l) ≡ Ok x → {d : Bool} → d ≡ is_deep g x → d ≡ true
      → {o : Bytes} (room : ℕ) → EndedIn (Err NoResult) o o (on_two concat l r room)
  left_deep hx hd q {o} room =
      two_deep concat l r o room lt.0 lt.1.reads rt.0 rt.1.reads (both s.before) (gives_both s.before)
      (omega (arith, deep_items lt.0 (left_test hx hd q), depth_join (as_items lt.0) (as_items rt.0)))

  pub right_deep : {y : Bool} → nesting (read r) ≡ Ok y → {d : Bool} → d ≡ is_deep h y → d ≡ true
      → {o : Bytes} (room : ℕ) → EndedIn (Err NoResult) o o (on_two concat l r room)
  right_deep hy hd q {o} room =
      two_deep concat l r o room lt.0 lt.1.reads rt.0 rt.1.reads (both s.before) (gives_both s.before)
      (omega (arith, deep_items rt.0 (right_test hy hd q), depth_join (as_items lt.0) (as_items rt.0)))

  pub items_end : {x y : Bool} → nesting (read l) ≡ Ok x → nesting (read r) ≡ Ok y
      → {d₁ d₂ : Bool} → d₁ ≡ is_deep g x → d₂ ≡ is_deep h y → d₁ ≡ false → d₂ ≡ false
      → {m n : ℕ} → m ≡ given_count g → n ≡ given_count h → {e : Ending} {o o' : Bytes} (room : ℕ)
      → EndedIn e o o' (sized room (joined (bit_or (2 ^ 31) (m + n)) l g r h)) → EndedIn e o o' (on_two concat l r room)
  items_end hx hy hd₁ hd₂ q₁ q₂ {m} {n} em en {e} {o} {o'} room w =
      two_sized concat l r o room lt.0 lt.1.reads rt.0 rt.1.reads (both s.before) (gives_both s.before) e o'
      (joined (bit_or (2 ^ 31) (m + n)) l g r h)
      (omega (
        arith,
        fits_items lt.0 lt.1.deep (left_test hx hd₁ q₁),
        fits_items rt.0 rt.1.deep (right_test hy hd₂ q₂),
        depth_join (as_items lt.0) (as_items rt.0),
      ))
      (joined_encode (bit_or (2 ^ 31) (m + n)) l g (as_items lt.0) r h (as_items rt.0) left_offers.1 right_offers.1
      (or_shifted 1 31 (m + n) (omega (arith, few_items em en)) ∙ rw (em, en)))
      w
