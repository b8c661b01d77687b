-- Where the parts of a record stand: the entry of each, and its payload.
use Prim.Native.Nat.{ℕ, ◌+◌, ◌*◌, ◌≤◌}
use native.Mathlib.Omega.{arith}
use mathlib.Core.Path.{◌≡◌, refl, ap, sym, ◌∙◌}
use mathlib.Core.List.{List, [], ◌∷◌, ◌++◌, append_assoc}
use lib.ListN.{length, take, drop, length-append}
use lib.Seq.{take-append_seam, drop-append_seam, drop-drop}
use Rattle.layout.specs.Bytes.{Bytes}
use Rattle.layout.specs.Entry.{length_of, entry_at, lengths}
use Rattle.layout.specs.Encode.{Part, entry_word, entries, payloads, record_of}
use Rattle.layout.proofs.Words.{drop_be32}
use Rattle.layout.proofs.Level.{AllFit, entries_length}
use Rattle.layout.proofs.Decoding.{payloads_append}
use Rattle.layout.proofs.Readables.{record_of_length}
use Rattle.builders.proofs.Stands.{entry_row}
use Rattle.builders.proofs.Weaves.{entries_append}

pub fits_left : (xs ys : List Part) → AllFit (xs ++ ys) → AllFit xs
fits_left [] ys f = tt
fits_left (x ∷ xs) ys f = (f.0, fits_left xs ys f.1)

pub fits_right : (xs ys : List Part) → AllFit (xs ++ ys) → AllFit ys
fits_right [] ys f = f
fits_right (x ∷ xs) ys f = fits_right xs ys f.1

-- The table behind some of its entries, and the payloads behind some of them.
pub table_behind : (w : ℕ) (xs ys : List Part)
    → drop (4 + 4 * length xs) (record_of w (xs ++ ys)) ≡ entries ys ++ payloads (xs ++ ys)
table_behind w xs ys =
    let l : 4 * length xs ≡ length (entries xs) = sym (entries_length xs) in
    sym (drop-drop (4 * length xs) 4 (record_of w (xs ++ ys)))
    ∙ ap (drop (4 * length xs)) (drop_be32 w (entries (xs ++ ys) ++ payloads (xs ++ ys)))
    ∙ rw (entries_append xs ys, append_assoc (entries xs) (entries ys) (payloads (xs ++ ys)), l)
    (drop-append_seam (entries xs) (entries ys ++ payloads (xs ++ ys)))

pub payloads_behind : (w : ℕ) (xs ys : List Part)
    → drop (4 + 4 * length (xs ++ ys) + length (payloads xs)) (record_of w (xs ++ ys)) ≡ payloads ys
payloads_behind w xs ys =
    let all : List Part = xs ++ ys in
    let l : 4 * length (xs ++ ys) ≡ length (entries (xs ++ ys)) = sym (entries_length (xs ++ ys)) in
    let a : drop (4 + 4 * length (xs ++ ys)) (record_of w (xs ++ ys)) ≡ payloads (xs ++ ys) =
    sym (drop-drop (4 * length (xs ++ ys)) 4 (record_of w (xs ++ ys)))
    ∙ ap (drop (4 * length (xs ++ ys))) (drop_be32 w (entries (xs ++ ys) ++ payloads (xs ++ ys)))
    ∙ rw l (drop-append_seam (entries (xs ++ ys)) (payloads (xs ++ ys))) in
    sym (drop-drop (length (payloads xs)) (4 + 4 * length (xs ++ ys)) (record_of w (xs ++ ys)))
    ∙ ap (drop (length (payloads xs))) (a ∙ payloads_append xs ys)
    ∙ drop-append_seam (payloads xs) (payloads ys)

-- The lengths of entries that stand in a row.
pub lengths_row : (s : Bytes) (i : ℕ) (xs : List Part) (r : Bytes) → AllFit xs → drop (4 + 4 * i) s ≡ entries xs ++ r
    → lengths s i (length xs) ≡ length (payloads xs)
unfolding lengths entry_at
lengths_row s i [] r f h = refl
lengths_row s i (x ∷ xs) r f h =
    let t = entry_row s (4 + 4 * i) x xs r f.0 h in
    let n : 4 + 4 * i + 4 ≡ 4 + 4 * (i + 1) = omega arith in
    let rest = lengths_row s (i + 1) xs r f.1 (rw n at t.2) in
    omega (arith, t.1, rest, length-append x.bytes (payloads xs))

module _ (w : ℕ) (xs ys : List Part) (f : AllFit (xs ++ ys)) where
  abbrev whole : Bytes
  whole = record_of w (xs ++ ys)

  -- The lengths of the parts before, and so the place of the first payload behind them.
  pub row_lengths : lengths whole 0 (length xs) ≡ length (payloads xs)
  row_lengths =
      lengths_row whole 0 xs (entries ys ++ payloads (xs ++ ys)) (fits_left xs ys f)
      (table_behind w [] (xs ++ ys) ∙ rw (entries_append xs ys, append_assoc))

-- One part of a record.
module _ (w : ℕ) (xs : List Part) (q : Part) (ys : List Part) (f : AllFit (xs ++ (q ∷ ys))) where
  abbrev all : List Part
  all = xs ++ (q ∷ ys)

  abbrev start : ℕ
  start = 4 + 4 * length all + lengths (record_of w all) 0 (length xs)

  pub row_entry : (entry_at (record_of w all) (length xs) ≡ entry_word q)
      × (length_of (entry_at (record_of w all) (length xs)) ≡ length q.bytes)
  unfolding entry_at
  row_entry =
      let r = entry_row (record_of w all) (4 + 4 * length xs) q ys (payloads all) (fits_right xs (q ∷ ys) f).0 (table_behind w xs (q ∷ ys)) in
      (r.0, r.1)

  row_rest : drop start (record_of w all) ≡ q.bytes ++ payloads ys
  row_rest = rw (row_lengths w xs (q ∷ ys) f) (payloads_behind w xs (q ∷ ys))

  pub row_bytes : take (length_of (entry_at (record_of w all) (length xs))) (drop start (record_of w all)) ≡ q.bytes
  row_bytes = rw (row_entry.1, row_rest) (take-append_seam q.bytes (payloads ys))

  pub row_within : start + length q.bytes ≤ length (record_of w all)
  row_within =
      omega (
        arith,
        row_lengths w xs (q ∷ ys) f,
        record_of_length w all,
        ap length (payloads_append xs (q ∷ ys)),
        length-append (payloads xs) (payloads (q ∷ ys)),
        length-append q.bytes (payloads ys),
      )
