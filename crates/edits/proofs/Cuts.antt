-- A container without one of its parts, or with one written anew, stored in runs.
use Prim.Native.Nat.{ℕ, zero, suc, ◌+◌, ◌*◌, ◌-◌, ◌≤◌, ◌<◌}
use native.Mathlib.Omega.{arith}
use mathlib.Core.Path.{◌≡◌, refl, ap, ap₂, sym, ◌∙◌}
use mathlib.Core.List.{List, [], ◌∷◌, ◌++◌, append_assoc, append-nil}
use lib.ListN.{length, take, drop, length-append, length-take, length-drop, take-append-drop}
use Rattle.layout.specs.Bytes.{Bytes, be32}
use Rattle.layout.specs.Entry.{length_of, entry_at, lengths}
use Rattle.layout.specs.Encode.{Part, entry_word, payloads, record_of}
use Rattle.layout.specs.Patch.{patch}
use Rattle.layout.proofs.Level.{AllFit}
use Rattle.layout.proofs.Decoding.{payloads_append}
use Rattle.layout.proofs.Readables.{record_of_length}
use Rattle.layout.specs.Parts.{first_part, parts_end, next_part, PartOf, parts_of}
use Rattle.edits.specs.Cut.{Stores}
use Rattle.edits.specs.Runs.{without, without_member, Copied}
use Rattle.layout.specs.declared.parts.PartAt.{PartAt}
use Rattle.layout.specs.declared.parts.Cursor.{Cursor}
use Rattle.edits.proofs.Rows.{row_lengths, row_entry}
use Rattle.edits.proofs.Tables.{Parted}
use Rattle.edits.proofs.Runs.{laid, laid_append, laid_one, laid_record, Run, run_is, run_stored}

-- A list at one of its places.
pub record Nth (ps : List Part) (k : ℕ) : Type 0 where
  pub left : List Part
  pub part : Part
  pub right : List Part
  pub whole : ps ≡ left ++ (part ∷ right)
  pub before : length left ≡ k
  pub taken : take k ps ≡ left
  pub dropped : drop (suc k) ps ≡ right

pub nth_split : (ps : List Part) (k : ℕ) → k < length ps → Nth ps k
nth_split [] k h = let z : ⊥ = omega arith in absurd z
nth_split (p ∷ ps) zero h =
    record { left = []; part = p; right = ps; whole = refl; before = refl; taken = refl; dropped = refl }
nth_split (p ∷ ps) (suc k) h =
    let r = nth_split ps k (omega arith) in
    record {
      left = p ∷ r.left;
      part = r.part;
      right = r.right;
      whole = ap (λ (l : List Part). p ∷ l) r.whole;
      before = ap suc r.before;
      taken = ap (λ (l : List Part). p ∷ l) r.taken;
      dropped = r.dropped;
    }

-- A container at one of its parts: where that stands, and how long it and what is behind it are.
module _ (s : Bytes) (n : ℕ) (w : ℕ) (xs : List Part) (q : Part) (ys : List Part) (e : record_of w (xs ++ (q ∷ ys)) ≡ s)
    (f : AllFit (xs ++ (q ∷ ys))) (c : length (xs ++ (q ∷ ys)) ≡ n) where
  pub part_place : lengths s 0 (length xs) ≡ length (payloads xs)
  part_place = rw (← e) (row_lengths w xs (q ∷ ys) f)

  pub part_size : length_of (entry_at s (length xs)) ≡ length q.bytes
  part_size = rw (← e) (row_entry w xs q ys f).1

  pub part_end : 4 + 4 * n + length (payloads xs) + length q.bytes + length (payloads ys) ≡ length s
  part_end =
      omega (
        arith,
        c,
        ap length e,
        record_of_length w (xs ++ (q ∷ ys)),
        ap length (payloads_append xs (q ∷ ys)),
        length-append (payloads xs) (payloads (q ∷ ys)),
        length-append q.bytes (payloads ys),
      )

  pub part_count : suc (length xs + length ys) ≡ n
  part_count = omega (arith, c, length-append xs (q ∷ ys))

-- What the code knows of part `a` of a container of `n`.
pub record IsPartAt (s : Bytes) (n : ℕ) (a : PartAt) : Type 0 where
  pub word : ℕ
  pub nth : Nth (parts_of s n) a.index
  pub bytes : record_of word (nth.left ++ (nth.part ∷ nth.right)) ≡ s
  pub fits : AllFit (nth.left ++ (nth.part ∷ nth.right))
  pub total : length (nth.left ++ (nth.part ∷ nth.right)) ≡ n
  pub count : suc (a.index + length nth.right) ≡ n
  pub place : a.place ≡ 4 + 4 * n + length (payloads nth.left)
  pub size : length_of (entry_at s a.index) ≡ length nth.part.bytes
  pub end : a.place + length nth.part.bytes + length (payloads nth.right) ≡ length s
  pub table : 4 + 4 * n ≤ length s
  pub short : length s ≤ 65536

pub at_part : (s : Bytes) (n : ℕ) (a : PartAt) → Parted s n → PartOf s n a → IsPartAt s n a
at_part s n a p h =
    let r = nth_split (parts_of s n) a.index (rw p.count h.inside) in
    let b : record_of p.word (r.left ++ (r.part ∷ r.right)) ≡ s = rw (← r.whole) p.bytes in
    let f : AllFit (r.left ++ (r.part ∷ r.right)) = rw (← r.whole) p.fits in
    let c : length (r.left ++ (r.part ∷ r.right)) ≡ n = rw (← r.whole) p.count in
    let k = part_place s n p.word r.left r.part r.right b f c in
    let z = part_size s n p.word r.left r.part r.right b f c in
    let m = part_count s n p.word r.left r.part r.right b f c in
    let l = part_end s n p.word r.left r.part r.right b f c in
    let i : a.place ≡ 4 + 4 * n + lengths s 0 a.index = ap (λ (x : PartAt). x.place) h.is in
    let j : lengths s 0 a.index ≡ length (payloads r.left) = rw r.before at k in
    record {
      word = p.word;
      nth = r;
      bytes = b;
      fits = f;
      total = c;
      count = omega (arith, m, r.before);
      place = omega (arith, i, j);
      size = rw r.before at z;
      end = omega (arith, i, j, l);
      table = p.table;
      short = p.short;
    }

-- The runs before it and behind it.
module _ (s : Bytes) (n : ℕ) (a : PartAt) (d : IsPartAt s n a) where
  abbrev xs : List Part
  xs = d.nth.left

  abbrev q : Part
  q = d.nth.part

  abbrev ys : List Part
  ys = d.nth.right

  pub run_before : Run s (first_part n) a xs
  run_before =
      run_is d.word [] xs (q ∷ ys) s (first_part n) a d.bytes refl (omega (arith, d.nth.before))
      (omega (arith, d.total)) d.place

  pub run_behind_it : Run s (next_part s a) (parts_end s n) ys
  run_behind_it =
      run_is d.word (xs ++ (q ∷ [])) ys [] s (next_part s a) (parts_end s n)
      (rw (append_assoc xs (q ∷ []) (ys ++ []), append-nil ys) d.bytes)
      (omega (arith, d.nth.before, length-append xs (q ∷ [])))
      (omega (arith, d.count))
      (rw (append_assoc xs (q ∷ []) (ys ++ []), append-nil ys)
      (omega (arith, d.place, d.size, d.total, ap length (payloads_append xs (q ∷ [])), length-append (payloads xs) (payloads (q ∷ [])), length-append q.bytes [])))
      (omega (arith, d.end, d.size))

-- An array without one of its items.
module _ (s : Bytes) (n : ℕ) (a : PartAt) (d : IsPartAt s n a) (o o₁ o₂ o₃ : Bytes) (at w : ℕ) (start middle end : Cursor) (next : PartAt) where
  pub without_stored : o₁ ≡ patch o at (be32 w) → start.jentry ≡ at + 4 → start.place ≡ at + 4 * n
      → Copied s (first_part n) a start middle o₁ o₂
      → next ≡ next_part s a
      → Copied s next (parts_end s n) middle end o₂ o₃
      → Stores (end.place - at) o o₃ at (record_of w (without a.index (parts_of s n)))
  unfolding patch
  without_stored e₁ sj sp h₁ en h₂ =
      let x : List Part = d.nth.left in
      let y : List Part = d.nth.right in
      let r₁ = run_before s n a d in
      let r₂ : Run s next (parts_end s n) d.nth.right = rw en (run_behind_it s n a d) in
      let b₁ = run_stored o₁ start.jentry start.place [] d.nth.left s _ a start middle o₁ o₂ r₁
      (omega (arith, d.count, d.nth.before)) refl (omega arith) (omega arith) h₁ in
      let b₂ = run_stored o₁ start.jentry start.place d.nth.left d.nth.right s next _ middle end o₂ o₃ r₂
      (omega (arith, d.count, d.nth.before)) b₁.0 b₁.1 b₁.2 h₂ in
      let all : without a.index (parts_of s n) ≡ d.nth.left ++ d.nth.right = rw (d.nth.taken, d.nth.dropped) in
      let m : length (d.nth.left ++ d.nth.right) + 1 ≡ n = omega (arith, d.count, d.nth.before, length-append d.nth.left d.nth.right) in
      rw all (record {
        length_is = omega (arith, b₂.2, record_of_length w (d.nth.left ++ d.nth.right));
        stored = b₂.0 ∙ rw e₁ (laid_record o at w start.jentry start.place (d.nth.left ++ d.nth.right) sj (omega arith));
      })

-- A container with one of its parts written anew: its payload is stored first, and its entry behind it.
module _ (s : Bytes) (n : ℕ) (a : PartAt) (d : IsPartAt s n a) (o o₁ o₂ o₃ o₄ o₅ : Bytes) (at w len e : ℕ) (start here rest end : Cursor)
    (next : PartAt) (z : Part) where
  pub anew_stored : o₁ ≡ patch o at (be32 w) → start.jentry ≡ at + 4 → start.place ≡ at + (4 + 4 * n)
      → Copied s (first_part n) a start here o₁ o₂
      → Stores len o₂ o₃ here.place z.bytes → e ≡ entry_word z → o₄ ≡ patch o₃ here.jentry (be32 e)
      → rest.jentry ≡ here.jentry + 4 → rest.place ≡ here.place + len → next ≡ next_part s a
      → Copied s next (parts_end s n) rest end o₄ o₅
      → Stores (end.place - at) o o₅ at (record_of w (d.nth.left ++ (z ∷ d.nth.right)))
  unfolding patch
  anew_stored e₁ sj sp h₁ l ez e₄ rj rp en h₂ =
      let x : List Part = d.nth.left in
      let y : List Part = d.nth.right in
      let r₁ = run_before s n a d in
      let r₂ : Run s next (parts_end s n) d.nth.right = rw en (run_behind_it s n a d) in
      let c₁ : length d.nth.left + 1 + length d.nth.right ≡ n = omega (arith, d.count, d.nth.before) in
      let b₁ = run_stored o₁ start.jentry start.place [] d.nth.left s _ a start here o₁ o₂ r₁ (omega (arith, c₁)) refl (omega arith) (omega arith) h₁ in
      let o₃_is : o₃ ≡ patch o₂ here.place z.bytes = l.stored in
      let one : o₄ ≡ laid o₂ here.jentry here.place (z ∷ []) =
      e₄ ∙ rw (ez, l.stored) (laid_one o₂ here.jentry here.place z (omega (arith, b₁.1, b₁.2, c₁))) in
      let two : o₄ ≡ laid o₁ start.jentry start.place (d.nth.left ++ (z ∷ [])) =
      one ∙ rw (b₁.0, b₁.1, b₁.2) (laid_append o₁ start.jentry start.place d.nth.left (z ∷ []) (omega (arith, c₁))) in
      let lz = length-append d.nth.left (z ∷ []) in
      let pz : length (payloads (d.nth.left ++ (z ∷ []))) ≡ length (payloads d.nth.left) + length z.bytes =
      omega (arith, ap length (payloads_append d.nth.left (z ∷ [])), length-append (payloads d.nth.left) (payloads (z ∷ [])), length-append z.bytes []) in
      let b₂ = run_stored o₁ start.jentry start.place (d.nth.left ++ (z ∷ [])) d.nth.right s next _ rest end o₄ o₅ r₂ (omega (arith, c₁, lz)) two
      (omega (arith, rj, b₁.1, lz)) (omega (arith, rp, b₁.2, l.length_is, pz)) h₂ in
      let q : (d.nth.left ++ (z ∷ [])) ++ d.nth.right ≡ d.nth.left ++ (z ∷ d.nth.right) = append_assoc d.nth.left (z ∷ []) d.nth.right in
      let m : length ((d.nth.left ++ (z ∷ [])) ++ d.nth.right) ≡ n = omega (arith, c₁, lz, length-append (d.nth.left ++ (z ∷ [])) d.nth.right) in
      rw (← q) (record {
        length_is = omega (arith, b₂.2, record_of_length w ((d.nth.left ++ (z ∷ [])) ++ d.nth.right));
        stored = b₂.0 ∙ rw e₁ (laid_record o at w start.jentry start.place ((d.nth.left ++ (z ∷ [])) ++ d.nth.right) sj (omega (arith, sp, sj, m)));
      })

-- A container without two of its parts.
module _ (s : Bytes) (n w : ℕ) (l : List Part) (x : Part) (m : List Part) (y : Part) (r : List Part)
    (e : record_of w (l ++ (x ∷ (m ++ (y ∷ r)))) ≡ s) (f : AllFit (l ++ (x ∷ (m ++ (y ∷ r))))) (c : length (l ++ (x ∷ (m ++ (y ∷ r)))) ≡ n)
    (key val : PartAt) (ki : key.index ≡ length l) (vi : val.index ≡ length l + 1 + length m)
    (kp : key.place ≡ 4 + 4 * n + lengths s 0 key.index) (vp : val.place ≡ 4 + 4 * n + lengths s 0 val.index) where
  abbrev first : PartAt
  first = record { index = 0; place = 4 + 4 * n }

  abbrev last : PartAt
  last = record { index = n; place = length s }

  up_to_y : l ++ (x ∷ (m ++ (y ∷ r))) ≡ (l ++ (x ∷ m)) ++ (y ∷ r)
  up_to_y = simp append_assoc

  count_all : length l + 1 + length m + 1 + length r ≡ n
  count_all = omega (arith, c, length-append l (x ∷ (m ++ (y ∷ r))), length-append m (y ∷ r))

  size_left : length (payloads (l ++ (x ∷ m))) ≡ length (payloads l) + length x.bytes + length (payloads m)
  size_left =
      omega (
        arith,
        ap length (payloads_append l (x ∷ m)),
        length-append (payloads l) (payloads (x ∷ m)),
        length-append x.bytes (payloads m),
      )

  pub key_place : key.place ≡ 4 + 4 * n + length (payloads l)
  key_place =
      let q : lengths s 0 (length l) ≡ length (payloads l) = part_place s n w l x (m ++ (y ∷ r)) e f c in
      kp ∙ rw (ki, q)

  pub key_size : length_of (entry_at s key.index) ≡ length x.bytes
  key_size = rw ki (part_size s n w l x (m ++ (y ∷ r)) e f c)

  e' : record_of w ((l ++ (x ∷ m)) ++ (y ∷ r)) ≡ s
  e' = rw (← up_to_y) e

  f' : AllFit ((l ++ (x ∷ m)) ++ (y ∷ r))
  f' = rw (← up_to_y) f

  c' : length ((l ++ (x ∷ m)) ++ (y ∷ r)) ≡ n
  c' = rw (← up_to_y) c

  val_index : val.index ≡ length (l ++ (x ∷ m))
  val_index = omega (arith, vi, length-append l (x ∷ m))

  pub val_place : val.place ≡ 4 + 4 * n + length (payloads l) + length x.bytes + length (payloads m)
  val_place =
      let q : lengths s 0 val.index ≡ length (payloads (l ++ (x ∷ m))) = rw val_index (part_place s n w (l ++ (x ∷ m)) y r e' f' c') in
      omega (arith, vp, q, size_left)

  pub val_size : length_of (entry_at s val.index) ≡ length y.bytes
  val_size = rw val_index (part_size s n w (l ++ (x ∷ m)) y r e' f' c')

  pub two_end : val.place + length y.bytes + length (payloads r) ≡ length s
  two_end = omega (arith, val_place, part_end s n w (l ++ (x ∷ m)) y r e' f' c', size_left)

  run₁ : Run s first key l
  run₁ = run_is w [] l (x ∷ (m ++ (y ∷ r))) s first key e refl (omega (arith, ki)) (omega (arith, c)) key_place

  run₂ : Run s (next_part s key) val m
  run₂ =
      let q : (l ++ (x ∷ [])) ++ (m ++ (y ∷ r)) ≡ l ++ (x ∷ (m ++ (y ∷ r))) = simp append_assoc in
      run_is w (l ++ (x ∷ [])) m (y ∷ r) s (next_part s key) val (rw q e)
      (omega (arith, ki, length-append l (x ∷ [])))
      (omega (arith, ki, vi))
      (rw q (omega (arith, key_place, key_size, c, ap length (payloads_append l (x ∷ [])), length-append (payloads l) (payloads (x ∷ [])), length-append x.bytes [])))
      (omega (arith, val_place, key_place, key_size))

  run₃ : Run s (next_part s val) last r
  run₃ =
      let q : ((l ++ (x ∷ m)) ++ (y ∷ [])) ++ (r ++ []) ≡ l ++ (x ∷ (m ++ (y ∷ r))) = simp (append_assoc, append-nil) in
      run_is w ((l ++ (x ∷ m)) ++ (y ∷ [])) r [] s (next_part s val) last (rw q e)
      (omega (arith, val_index, length-append (l ++ (x ∷ m)) (y ∷ [])))
      (omega (arith, vi, count_all))
      (rw q (omega (
        arith,
        val_place,
        val_size,
        c,
        size_left,
        ap length (payloads_append (l ++ (x ∷ m)) (y ∷ [])),
        length-append (payloads (l ++ (x ∷ m))) (payloads (y ∷ [])),
        length-append y.bytes [],
      )))
      (omega (arith, two_end, val_size))

  module _ (o o₁ o₂ o₃ o₄ : Bytes) (at v : ℕ) (start keys vals end : Cursor) (next after : PartAt) where
    pub two_stored : o₁ ≡ patch o at (be32 v) → start.jentry ≡ at + 4 → start.place + 4 ≡ at + 4 * n
        → Copied s first key start keys o₁ o₂
        → next ≡ next_part s key
        → Copied s next val keys vals o₂ o₃
        → after ≡ next_part s val
        → Copied s after last vals end o₃ o₄
        → Stores (end.place - at) o o₄ at (record_of v ((l ++ m) ++ r))
    unfolding patch
    two_stored e₁ sj sp h₁ en h₂ ea h₃ =
        let lm = length-append l m in
        let lr = length-append (l ++ m) r in
        let r₂ : Run s next val m = rw en run₂ in
        let r₃ : Run s after last r = rw ea run₃ in
        let b₁ = run_stored o₁ start.jentry start.place [] l s first key start keys o₁ o₂ run₁ (omega (arith, count_all)) refl (omega arith) (omega arith) h₁ in
        let b₂ = run_stored o₁ start.jentry start.place l m s next val keys vals o₂ o₃ r₂ (omega (arith, count_all)) b₁.0 b₁.1 b₁.2 h₂ in
        let b₃ = run_stored o₁ start.jentry start.place (l ++ m) r s after last vals end o₃ o₄ r₃ (omega (arith, count_all)) b₂.0 b₂.1 b₂.2 h₃ in
        record {
          length_is = omega (arith, b₃.2, record_of_length v ((l ++ m) ++ r), count_all);
          stored = b₃.0 ∙ rw e₁ (laid_record o at v start.jentry start.place ((l ++ m) ++ r) sj (omega (arith, count_all)));
        }

-- An object at one of its members: the parts before the name, those between name and value, and those behind.
pub record IsMemberAt (ps : List Part) (n k : ℕ) : Type 0 where
  pub left : List Part
  pub key : Part
  pub middle : List Part
  pub val : Part
  pub right : List Part
  pub whole : ps ≡ left ++ (key ∷ (middle ++ (val ∷ right)))
  pub before : length left ≡ k
  pub between : length middle + 1 ≡ n
  pub gone : without_member n k ps ≡ (left ++ middle) ++ right

pub at_member : (ps : List Part) (n k : ℕ) → length ps ≡ n + n → k < n → IsMemberAt ps n k
at_member ps n k c h =
    let u = nth_split (take n ps) k (rw length-take (omega arith)) in
    let v = nth_split (drop n ps) k (rw length-drop (omega arith)) in
    let lu : length (take n ps) ≡ length u.left + suc (length u.right) = ap length u.whole ∙ length-append u.left (u.part ∷ u.right) in
    let ln = length-take n ps in
    record {
      left = u.left;
      key = u.part;
      middle = u.right ++ v.left;
      val = v.part;
      right = v.right;
      whole = sym (take-append-drop n ps) ∙ ap₂ ◌++◌ u.whole v.whole ∙ simp append_assoc;
      before = u.before;
      between = omega (arith, u.before, v.before, length-append u.right v.left);
      gone = rw (u.taken, u.dropped, v.taken, v.dropped) (simp append_assoc);
    }
