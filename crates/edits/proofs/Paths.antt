-- Path records: the steps by the parts are the steps by the tree, and what the count of a path says of its record.
use Prim.Native.Nat.{ℕ, suc, ◌+◌, ◌*◌, ◌^◌, ◌<◌}
use native.Mathlib.Omega.{arith}
use mathlib.Core.Path.{◌≡◌, refl, ap, sym, ◌∙◌}
use mathlib.Core.Bool.{Bool, true, false, cond, ◌&&◌}
use mathlib.Core.List.{List, [], ◌∷◌}
use lib.Dec.{ltb}
use lib.IntN.{ℤ, pos}
use lib.Signed.{mag}
use lib.ListN.{length}
use Rattle.layout.specs.Bytes.{Bytes, Octets}
use Rattle.layout.specs.Answer.{Answer, gives, refused, ◌>>=◌}
use Rattle.layout.specs.Number.{decoded}
use Rattle.layout.specs.Tree.{Tree, null, boolean, number, string, extension, array, object, Items, none, item}
use Rattle.layout.specs.Encode.{Part, item_parts, part}
use Rattle.layout.specs.Read.{header, read}
use Rattle.layout.specs.Parts.{parts_of}
use Rattle.layout.specs.Check.{checked}
use Rattle.layout.specs.declared.number.Number.{Number}
use Rattle.layout.specs.declared.number.Number.TheVariants.{Nan, Infinity, NegInfinity, Int64, UInt64, Float64, Decimal64, WideDecimal}
use Rattle.layout.specs.declared.refusal.Refusal.{Refusal}
use Rattle.layout.specs.declared.refusal.Refusal.TheVariants.{Path}
use Rattle.layout.specs.declared.util.Header.{Header}
use Rattle.layout.specs.declared.util.Header.TheVariants.{Array}
use Rattle.layout.proofs.Checks.{told_array}
use Rattle.layout.proofs.Places.{length_parts}
use Rattle.layout.proofs.Nestings.{readable_gives, refused_as, head_of, header_read}
use Rattle.builders.proofs.Knowns.{Known, known}
use Rattle.builders.proofs.Builds.{array_parts, array_known}
use Rattle.edits.specs.Keypath.{Step, index, in_range, integer, step_of, steps_of, path_in, or_path, path_of, integer_of}
use Rattle.edits.specs.Steps.{int_key, number_key, decoded_key, code_key, is_step, step, part_key, are_steps, part_steps, steps_told}
use Rattle.edits.specs.declared.keypath.KeyPath.{KeyPath}
use Rattle.edits.specs.declared.keypath.KeyPath.TheVariants.{Index}
use Rattle.std.specs.Prelude.{Ok, Err, Some, None, Result, Option}

-- One item.

-- The step of a key, or the refusal of what is none.
abbrev taken : Option KeyPath → Bytes → Answer Step
taken k b = cond (is_step k) (gives (step k b)) (refused Path)

range_taken : (z : ℤ) (b : Bytes) → in_range z ≡ taken (int_key z) b
unfolding in_range int_key step
range_taken z b = go (ltb (mag z) (2 ^ 31))
  where
    go : (t : Bool) → cond t (gives (index z)) (refused Path) ≡ taken (cond t (Some (Index z)) None) b
    go true = refl
    go false = refl

number_taken : (n : Number) (b : Bytes) → integer n ≡ taken (number_key n) b
unfolding number_key
number_taken Nan b = refl
number_taken Infinity b = refl
number_taken NegInfinity b = refl
number_taken (Int64 z) b = range_taken z b
number_taken (UInt64 v) b = range_taken (pos v) b
number_taken (Float64 x) b = refl
number_taken (Decimal64 z s) b = refl
number_taken (WideDecimal n) b = refl

decoded_taken : (n : Result Number Refusal) (b : Bytes) → integer_of n ≡ taken (decoded_key n) b
decoded_taken (Ok n) b = number_taken n b
decoded_taken (Err r) b = refl

step_taken : (t : Tree) → step_of t ≡ taken (part_key (part t)) (part t).bytes
unfolding code_key step
step_taken null = refl
step_taken (boolean true) = refl
step_taken (boolean false) = refl
step_taken (number b) = decoded_taken (decoded b) b
step_taken (string b) = refl
step_taken (extension b) = refl
step_taken (array ts) = refl
step_taken (object ms) = refl

-- All items.

cons_taken : (p q : Bool) (s : Step) (ss : List Step)
    → (cond p (gives s) (refused Path) >>= λ x. cond q (gives ss) (refused Path) >>= λ xs. gives (x ∷ xs))
    ≡ cond (p && q) (gives (s ∷ ss)) (refused Path)
unfolding ◌>>=◌
cons_taken false q s ss = refl
cons_taken true false s ss = refl
cons_taken true true s ss = refl

pub steps_taken : (ts : Items)
    → steps_of ts ≡ cond (are_steps (item_parts ts)) (gives (part_steps (item_parts ts))) (refused Path)
unfolding are_steps
steps_taken none = refl
steps_taken (item t ts) =
    rw (step_taken t, steps_taken ts) (cons_taken (is_step (part_key (part t))) (are_steps (item_parts ts)) _ _)

pub length_part_steps : (ps : List Part) → length (part_steps ps) ≡ length ps
length_part_steps [] = refl
length_part_steps (p ∷ ps) = ap suc (length_part_steps ps)

-- The record.

path_is : (b : Bytes) → path_of b ≡ (or_path (read b) >>= path_in)
unfolding path_of
path_is b = refl

path_read : (b : Bytes) (t : Tree) → read b ≡ gives t → path_of b ≡ path_in t
unfolding ◌>>=◌
path_read b t e = path_is b ∙ rw e

pub path_unreadable : (b : Bytes) (r : Refusal) → read b ≡ refused r → path_of b ≡ refused Path
unfolding ◌>>=◌
path_unreadable b r e = path_is b ∙ rw e

no_array : (t : Tree) → ((n : ℕ) → head_of t ≡ Ok (Array n) → ⊥) → path_in t ≡ refused Path
no_array null h = refl
no_array (boolean x) h = refl
no_array (number b) h = refl
no_array (string b) h = refl
no_array (extension b) h = refl
no_array (array ts) h = absurd (h _ refl)
no_array (object ms) h = refl

pub path_no_array : (b : Bytes) → Octets b → checked (read b) ≡ Ok tt → ((n : ℕ) → header b ≡ Ok (Array n) → ⊥)
    → path_of b ≡ refused Path
path_no_array b o c h =
    let w = readable_gives (read b) (Ok tt) (sym c) refl in
    path_read b w.0 w.1 ∙ no_array w.0 (λ n e. h n (header_read b w.0 o w.1 ∙ e))

-- The parts of an array are steps, or one of them is none.
array_path : (b : Bytes) (n : ℕ) (ts : Items) → Known b (array ts) → n ≡ length (item_parts ts)
    → path_of b
    ≡ cond (are_steps (parts_of b n)) (gives (part_steps (parts_of b n))) (refused Path)
array_path b n ts k e = path_read b (array ts) k.reads ∙ rw (array_parts b n ts k e).0 (steps_taken ts)

module _ (b : Bytes) (n : ℕ) (o : Octets b) (c : checked (read b) ≡ Ok tt) (h : header b ≡ Ok (Array n)) where
  path_by : path_of b
      ≡ cond (are_steps (parts_of b n)) (gives (part_steps (parts_of b n))) (refused Path)
  path_by = let a = array_known b n o c h in array_path b n a.0 a.1 a.2

  pub path_steps : are_steps (parts_of b n) ≡ true
      → path_of b ≡ gives (part_steps (parts_of b n))
  path_steps q = path_by ∙ rw q

  pub path_no_steps : are_steps (parts_of b n) ≡ false → path_of b ≡ refused Path
  path_no_steps q = path_by ∙ rw q

-- What the count of the steps says.

no_count : {C : Type 0} (n : ℕ) → Ok n ≡ Err Path → C
no_count n e = let z : ◌≡◌ {A = ℕ} 0 1 = cc in let w : ⊥ = omega arith in absurd w

-- A path of `n` steps.
abbrev Counted : Bytes → ℕ → Type 0
Counted b n =
    (header b ≡ Ok (Array n)) × (n < 2 ^ 29) × (path_of b ≡ gives (part_steps (parts_of b n)))

module _ (b : Bytes) (n : ℕ) (o : Octets b) where
  counted_array : (ts : Items) → Known b (array ts) → n ≡ length (item_parts ts) → are_steps (item_parts ts) ≡ true → Counted b n
  counted_array ts k e q =
      let h : header b ≡ Ok (Array n) = k.head ∙ ap (λ x. Ok (Array x)) (sym e) in
      let p : parts_of b n ≡ item_parts ts = (array_parts b n ts k e).0 in
      (h, (told_array b (header b) refl n h).1, array_path b n ts k e ∙ rw (p, q))

  counted_items : (ts : Items) → Known b (array ts) → (t : Bool) → are_steps (item_parts ts) ≡ t
      → Ok n ≡ steps_told (cond t (gives (part_steps (item_parts ts))) (refused Path)) → Counted b n
  counted_items ts k true q e =
      let l : n ≡ length (part_steps (item_parts ts)) = cc in
      counted_array ts k (l ∙ length_part_steps (item_parts ts)) q
  counted_items ts k false q e = no_count n e

  counted_tree : (t : Tree) → read b ≡ gives t → Ok n ≡ steps_told (path_in t) → Counted b n
  counted_tree null r e = no_count n e
  counted_tree (boolean x) r e = no_count n e
  counted_tree (number x) r e = no_count n e
  counted_tree (string x) r e = no_count n e
  counted_tree (extension x) r e = no_count n e
  counted_tree (array ts) r e =
      counted_items ts (known b (array ts) o r) (are_steps (item_parts ts)) refl (e ∙ ap steps_told (steps_taken ts))
  counted_tree (object ms) r e = no_count n e

  counted_read : (m : Answer Tree) → read b ≡ m → Ok n ≡ steps_told (or_path m >>= path_in) → Counted b n
  unfolding ◌>>=◌
  counted_read (gives t) r e = counted_tree t r e
  counted_read (refused x) r e = no_count n e

  pub steps_counted : Ok n ≡ steps_told (path_of b)
      → (header b ≡ Ok (Array n)) × (n < 2 ^ 29) × (path_of b ≡ gives (part_steps (parts_of b n)))
  steps_counted e = counted_read (read b) refl (e ∙ ap steps_told (path_is b))

-- Whatever is no path is refused as one.
refused_items : (t : Bool) (ss : List Step) → Err Path ≡ steps_told (cond t (gives ss) (refused Path))
    → cond t (gives ss) (refused Path) ≡ refused Path
refused_items true ss e = cc
refused_items false ss e = refl

refused_tree : (t : Tree) → Err Path ≡ steps_told (path_in t) → path_in t ≡ refused Path
refused_tree null e = refl
refused_tree (boolean x) e = refl
refused_tree (number b) e = refl
refused_tree (string b) e = refl
refused_tree (extension b) e = refl
refused_tree (array ts) e =
    steps_taken ts ∙ refused_items (are_steps (item_parts ts)) _ (e ∙ ap steps_told (steps_taken ts))
refused_tree (object ms) e = refl

refused_read : (m : Answer Tree) → Err Path ≡ steps_told (or_path m >>= path_in) → (or_path m >>= path_in) ≡ refused Path
unfolding ◌>>=◌
refused_read (gives t) e = refused_tree t e
refused_read (refused r) e = refl

pub steps_refused : (b : Bytes) → Err Path ≡ steps_told (path_of b) → path_of b ≡ refused Path
steps_refused b e = path_is b ∙ refused_read (read b) (e ∙ ap steps_told (path_is b))

-- What is no path is refused with 6.
told_path : (m : Answer (List Step)) {x : Refusal} → Err x ≡ steps_told m → x ≡ Path
told_path (gives p) e = cc
told_path (refused r) e = cc

pub path_refused : (b : Bytes) {k : Result ℕ Refusal} → k ≡ steps_told (path_of b) → {x : Refusal} → k ≡ Err x → path_of b ≡ refused x
path_refused b hk {x} q = let z : x ≡ Path = told_path (path_of b) (sym q ∙ hk) in rw z (steps_refused b (rw (← z) (sym q ∙ hk)))

-- What the check, the header and the test of the items say, in the code's terms.
module _ (b : Bytes) (c : Result (Unit {0}) Refusal) (hc : c ≡ checked (read b)) where
  pub count_unreadable : (r : Refusal) → c ≡ Err r → Err Path ≡ steps_told (path_of b)
  count_unreadable r q = sym (ap steps_told (path_unreadable b r (refused_as (read b) c r hc q)))

  module _ (o : Octets b) (q : c ≡ Ok tt) (h : Result Header Refusal) (hh : h ≡ header b) where
    pub count_no_array : ((n : ℕ) → h ≡ Ok (Array n) → ⊥) → Err Path ≡ steps_told (path_of b)
    count_no_array f = sym (ap steps_told (path_no_array b o (sym hc ∙ q) (λ n e. f n (hh ∙ e))))

    module _ (n : ℕ) (e : h ≡ Ok (Array n)) (g : Bool) (hg : g ≡ are_steps (parts_of b n)) where
      pub count_steps : g ≡ true → Ok n ≡ steps_told (path_of b)
      count_steps t =
          let l : length (part_steps (parts_of b n)) ≡ n = length_part_steps (parts_of b n) ∙ length_parts b 0 (4 + 4 * n) n in
          ap Ok (sym l) ∙ sym (ap steps_told (path_steps b n o (sym hc ∙ q) (sym hh ∙ e) (sym hg ∙ t)))

      pub count_no_steps : g ≡ false → Err Path ≡ steps_told (path_of b)
      count_no_steps t = sym (ap steps_told (path_no_steps b n o (sym hc ∙ q) (sym hh ∙ e) (sym hg ∙ t)))
