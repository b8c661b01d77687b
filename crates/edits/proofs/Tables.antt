-- A readable container by its bytes: its tree, and its parts.
use Rattle.layout.specs.Parts.{rises, start_of}
use Prim.Native.Nat.{ℕ, ◌+◌, ◌*◌, ◌^◌, ◌≤◌}
use native.Mathlib.Omega.{arith}
use mathlib.Core.Path.{◌≡◌, refl, ap, sym, ◌∙◌}
use mathlib.Core.Bool.{true, false}
use mathlib.Core.List.{List, ◌++◌}
use lib.ListN.{length, take}
use lib.Seq.{take_at}
use Rattle.layout.specs.Bytes.{Bytes, Octets}
use Rattle.layout.specs.Answer.{gives}
use Rattle.layout.specs.Tree.{Tree, null, boolean, number, string, extension, array, object, Items, Members, kind, names}
use Rattle.layout.specs.Encode.{Part, payload, part, record_of, item_parts, name_parts, member_parts}
use Rattle.layout.specs.Limits.{Valid, depth}
use Rattle.layout.specs.Order.{rising}
use Rattle.layout.specs.Sound.{Rising}
use Rattle.layout.specs.Read.{header, nested}
use Rattle.layout.specs.Place.{parts_at, rising_parts}
use Rattle.layout.specs.Check.{checked}
use Rattle.layout.specs.declared.item.Kind.TheVariants.{Container}
use Rattle.layout.specs.declared.util.Header.TheVariants.{Object}
use Rattle.layout.proofs.Level.{AllFit}
use Rattle.layout.proofs.Encoding.{array_fits, object_fits, names_count}
use Rattle.layout.proofs.Decoding.{container_encode}
use Rattle.layout.proofs.Readables.{nested_reads, record_of_length}
use Rattle.layout.proofs.Nestings.{head_of, header_encode, readable_gives}
use Rattle.layout.proofs.Sounds.{rising_test, rising_names}
use Rattle.layout.proofs.Places.{parts_at_record, take_parts}
use Rattle.layout.specs.Parts.{count_parts, parts_of}
use Rattle.edits.specs.Runs.{Table}
use Rattle.std.specs.Prelude.{Ok}

-- A container that reads as `t`, where `a` levels are left.
pub record Contains (a : ℕ) (s : Bytes) (t : Tree) : Type 0 where
  pub reads : nested a s ≡ gives t
  pub container : kind t ≡ Container
  pub bytes : payload t ≡ s
  pub short : length s ≤ 65536
  pub head : header s ≡ head_of t
  pub valid : Valid t
  pub deep : depth t ≤ a

pub contains : (a : ℕ) (s : Bytes) → Octets s → length s ≤ 65536 → checked (nested a s) ≡ Ok tt → (t : Tree) × Contains a s t
contains a s o l c =
    let g = readable_gives (nested a s) (Ok tt) (sym c) refl in
    let t : Tree = g.0 in
    let r = (nested_reads a s g.0 o l).0 g.1 in
    let e = container_encode g.0 s r.0 in (
      g.0,
      record {
        reads = g.1;
        container = ap (λ (p : Part). p.kind) r.0;
        bytes = ap (λ (p : Part). p.bytes) r.0;
        short = l;
        head = ap header (sym e) ∙ header_encode g.0 (rw e l);
        valid = r.1;
        deep = r.2;
      },
    )

-- With more levels left it reads as the same.
pub contains_more : (a b : ℕ) (s : Bytes) (t : Tree) → Octets s → a ≤ b → Contains a s t → Contains b s t
contains_more a b s t o h c =
    record {
      reads = (nested_reads b s t o c.short).1 (same_part, c.valid, omega (arith, c.deep));
      container = c.container;
      bytes = c.bytes;
      short = c.short;
      head = c.head;
      valid = c.valid;
      deep = omega (arith, c.deep);
    }
  where
    same_part : part t ≡ record { kind = Container; bytes = s }
    same_part = rw (c.container, c.bytes)

pub an_object : (t : Tree) (n : ℕ) → head_of t ≡ Ok (Object n) → (ms : Members) × (t ≡ object ms) × (n ≡ length (member_parts ms))
an_object null n e = let z : ◌≡◌ {A = ℕ} 0 1 = cc in let w : ⊥ = omega arith in absurd w
an_object (boolean x) n e = let z : ◌≡◌ {A = ℕ} 0 1 = cc in let w : ⊥ = omega arith in absurd w
an_object (number b) n e = let z : ◌≡◌ {A = ℕ} 0 1 = cc in let w : ⊥ = omega arith in absurd w
an_object (string b) n e = let z : ◌≡◌ {A = ℕ} 0 1 = cc in let w : ⊥ = omega arith in absurd w
an_object (extension b) n e = let z : ◌≡◌ {A = ℕ} 0 1 = cc in let w : ⊥ = omega arith in absurd w
an_object (array ts) n e = let z : ◌≡◌ {A = ℕ} 0 1 = cc in let w : ⊥ = omega arith in absurd w
an_object (object ms) n e = (ms, refl, cc)

-- Its parts.
pub record Parted (s : Bytes) (n : ℕ) : Type 0 where
  pub word : ℕ
  pub bytes : record_of word (parts_of s n) ≡ s
  pub fits : AllFit (parts_of s n)
  pub count : length (parts_of s n) ≡ n
  pub table : 4 + 4 * n ≤ length s
  pub short : length s ≤ 65536

pub array_parted : (ts : Items) (s : Bytes) → payload (array ts) ≡ s → length s ≤ 65536
    → (parts_of s (length (item_parts ts)) ≡ item_parts ts) × Parted s (length (item_parts ts))
array_parted ts s e l =
    let f = array_fits ts (omega (arith, ap length e)) in
    let p : parts_of s (length (item_parts ts)) ≡ item_parts ts = rw (← e) (parts_at_record (2 ^ 31 + length (item_parts ts)) 0 (item_parts ts) f.fits tt) in (
      p,
      record {
        word = 2 ^ 31 + length (item_parts ts);
        bytes = rw p e;
        fits = rw p f.fits;
        count = ap length p;
        table = omega (arith, ap length e, record_of_length (2 ^ 31 + length (item_parts ts)) (item_parts ts));
        short = l;
      },
    )

pub object_parted : (ms : Members) (s : Bytes) → payload (object ms) ≡ s → length s ≤ 65536
    → (parts_of s (length (member_parts ms) + length (member_parts ms)) ≡ name_parts (names ms) ++ member_parts ms)
    × Parted s (length (member_parts ms) + length (member_parts ms))
object_parted ms s e l =
    let f = object_fits ms (omega (arith, ap length e)) in
    let n : ℕ = length (member_parts ms) in
    let all : List Part = name_parts (names ms) ++ member_parts ms in
    let p : parts_of s (length (member_parts ms) + length (member_parts ms)) ≡ name_parts (names ms) ++ member_parts ms =
    rw (← e, f.whole) (parts_at_record (2 ^ 30 + length (member_parts ms)) (length (member_parts ms)) (name_parts (names ms) ++ member_parts ms) f.fits f.named) in (
      p,
      record {
        word = 2 ^ 30 + length (member_parts ms);
        bytes = rw p e;
        fits = rw p f.fits;
        count = ap length p ∙ sym f.whole;
        table = omega (arith, ap length e, f.whole, record_of_length (2 ^ 30 + length (member_parts ms)) (name_parts (names ms) ++ member_parts ms));
        short = l;
      },
    )

-- Its names, by their parts.
pub object_names : (ms : Members) (s : Bytes) (n : ℕ) → payload (object ms) ≡ s → length s ≤ 65536 → n ≡ length (member_parts ms)
    → parts_at s 0 (start_of (n + n)) n ≡ name_parts (names ms)
object_names ms s n e l c =
    let all : parts_of s (n + n) ≡ name_parts (names ms) ++ member_parts ms = ap (λ (m : ℕ). parts_of s (m + m)) c ∙ (object_parted ms s e l).0 in
    sym (take_parts s 0 (start_of (n + n)) n n) ∙ ap (take n) all ∙ take_at (name_parts (names ms)) (member_parts ms) n (names_count ms ∙ sym c)

-- Where its names rise by the test, they rise.
pub object_rises : (ms : Members) (s : Bytes) (n : ℕ) → payload (object ms) ≡ s → length s ≤ 65536 → n ≡ length (member_parts ms)
    → rises s n ≡ true → Rising (names ms)
object_rises ms s n e l c up =
    let r : rising (names ms) ≡ true = sym (rising_names (names ms)) ∙ ap rising_parts (sym (object_names ms s n e l c)) ∙ up in
    (rising_test (names ms)).0 (rw r tt)

parted_by : (t : Tree) (s : Bytes) (n : ℕ) → kind t ≡ Container → payload t ≡ s → length s ≤ 65536 → count_parts (head_of t) ≡ n → Parted s n
parted_by null s n k e l c = let z : ◌≡◌ {A = ℕ} 0 1 = cc in let w : ⊥ = omega arith in absurd w
parted_by (boolean true) s n k e l c = let z : ◌≡◌ {A = ℕ} 0 1 = cc in let w : ⊥ = omega arith in absurd w
parted_by (boolean false) s n k e l c = let z : ◌≡◌ {A = ℕ} 0 1 = cc in let w : ⊥ = omega arith in absurd w
parted_by (number b) s n k e l c = let z : ◌≡◌ {A = ℕ} 0 1 = cc in let w : ⊥ = omega arith in absurd w
parted_by (string b) s n k e l c = let z : ◌≡◌ {A = ℕ} 0 1 = cc in let w : ⊥ = omega arith in absurd w
parted_by (extension b) s n k e l c = let z : ◌≡◌ {A = ℕ} 0 1 = cc in let w : ⊥ = omega arith in absurd w
parted_by (array ts) s n k e l c = rw (← c) (array_parted ts s e l).1
parted_by (object ms) s n k e l c = rw (← c) (object_parted ms s e l).1

pub parted : (s : Bytes) (n : ℕ) → Octets s → Table s n → Parted s n
parted s n o t =
    let c = contains 64 s o t.short t.readable in
    parted_by c.0 s n c.1.container c.1.bytes t.short (ap count_parts (sym c.1.head) ∙ t.count)
