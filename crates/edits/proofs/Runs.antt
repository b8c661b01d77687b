-- Parts stored in runs: the entries at one place, the payloads at another, each run behind the one before.
use Prim.Native.Nat.{ℕ, ◌+◌, ◌*◌, ◌-◌, ◌≤◌}
use native.Mathlib.Omega.{arith}
use mathlib.Core.Path.{◌≡◌, refl, ap, ◌∙◌}
use mathlib.Core.List.{List, [], ◌∷◌, ◌++◌, append_assoc, append-nil}
use lib.ListN.{length, take, drop, length-append}
use lib.Seq.{take-append_seam}
use Rattle.layout.specs.Bytes.{Bytes, be32}
use Rattle.layout.specs.Encode.{Part, entry_word, entries, payloads, record_of}
use Rattle.layout.specs.Patch.{patch}
use Rattle.layout.proofs.Words.{length_be32}
use Rattle.layout.proofs.Level.{entries_length}
use Rattle.layout.proofs.Decoding.{payloads_append}
use Rattle.layout.proofs.Patches.{patch_append, patch_comm}
use Rattle.builders.proofs.Weaves.{patch_then, entries_append}
use Rattle.edits.specs.Runs.{Copied, run_entries, run_payloads, run_behind}
use Rattle.layout.specs.declared.parts.PartAt.{PartAt}
use Rattle.layout.specs.declared.parts.Cursor.{Cursor}
use Rattle.edits.proofs.Rows.{table_behind, payloads_behind}

-- A buffer with the entries of some parts stored at one place and their payloads at another.
abbrev pub laid : Bytes → ℕ → ℕ → List Part → Bytes
laid o e p ps = patch (patch o e (entries ps)) p (payloads ps)

-- One run behind another is one run.
pub laid_append : (o : Bytes) (e p : ℕ) (xs ys : List Part) → e + 4 * (length xs + length ys) ≤ p
    → laid (laid o e p xs) (e + 4 * length xs) (p + length (payloads xs)) ys ≡ laid o e p (xs ++ ys)
laid_append o e p xs ys h =
    let lx = entries_length xs in
    let ly = entries_length ys in
    let a : e + 4 * length xs ≡ e + length (entries xs) = omega arith in
    let b : e + 4 * length xs + length (entries ys) ≤ p = omega arith in
    ap (λ (l : Bytes). patch l (p + length (payloads xs)) (payloads ys)) (patch_comm (patch o e (entries xs)) (e + 4 * length xs) p (entries ys) (payloads xs) b)
    ∙ patch_append (patch (patch o e (entries xs)) (e + 4 * length xs) (entries ys)) p (payloads xs) (payloads ys)
    ∙ rw (a, patch_append o e (entries xs) (entries ys), entries_append xs ys, payloads_append xs ys)

-- One part, its payload stored before its entry.
pub laid_one : (o : Bytes) (e p : ℕ) (q : Part) → e + 4 ≤ p → patch (patch o p q.bytes) e (be32 (entry_word q)) ≡ laid o e p (q ∷ [])
laid_one o e p q h =
    let l = length_be32 (entry_word q) in
    patch_comm o e p (be32 (entry_word q)) q.bytes (omega arith)
    ∙ simp append-nil

-- A header and a run behind it are a record.
pub laid_record : (o : Bytes) (at w e p : ℕ) (ps : List Part) → e ≡ at + 4 → p ≡ e + 4 * length ps
    → laid (patch o at (be32 w)) e p ps ≡ patch o at (record_of w ps)
laid_record o at w e p ps he hp =
    let l = length_be32 w in
    let le = entries_length ps in
    let la = length-append (be32 w) (entries ps) in
    patch_then o _ _ at p (be32 w ++ entries ps) (payloads ps) (patch_then o _ _ at e (be32 w) (entries ps) refl refl (omega arith)) refl (omega arith)
    ∙ ap (patch o at) (append_assoc (be32 w) (entries ps) (payloads ps))

-- The places behind a run, as sums: a difference would have omega go by cases.
pub behind_run : (from to : PartAt) (at : Cursor) {r : Cursor} → r ≡ run_behind from to at → from.index ≤ to.index → from.place ≤ to.place
    → (r.jentry + 4 * from.index ≡ at.jentry + 4 * to.index) × (r.place + from.place ≡ at.place + to.place)
behind_run from to at e hi hp =
    let ej = ap (λ (x : Cursor). x.jentry) e in
    let ep = ap (λ (x : Cursor). x.place) e in
    omega arith

-- A run of the parts of a record, by its places.
module _ (w : ℕ) (xs ys zs : List Part) where
  abbrev all : List Part
  all = xs ++ (ys ++ zs)

  abbrev start : ℕ
  start = 4 + 4 * length all

  pub run_table : (i n : ℕ) → i ≡ length xs → n ≡ length ys → take (4 * n) (drop (4 + 4 * i) (record_of w all)) ≡ entries ys
  run_table i n hi hn =
      let l = entries_length ys in
      let k : 4 * n ≡ length (entries ys) = omega arith in
      rw (hi, table_behind w xs (ys ++ zs), entries_append ys zs, append_assoc (entries ys) (entries zs) (payloads all), k)
      (take-append_seam (entries ys) (entries zs ++ payloads all))

  pub run_rest : (p n : ℕ) → p ≡ start + length (payloads xs) → n ≡ length (payloads ys) → take n (drop p (record_of w all)) ≡ payloads ys
  run_rest p n hp hn = rw (hp, hn, payloads_behind w xs (ys ++ zs), payloads_append ys zs) (take-append_seam (payloads ys) (payloads zs))

-- The same as the code goes from one part to another.
pub record Run (s : Bytes) (a b : PartAt) (ys : List Part) : Type 0 where
  pub table : run_entries s a b ≡ entries ys
  pub rest : run_payloads s a b ≡ payloads ys
  pub count : b.index - a.index ≡ length ys
  pub bytes : b.place - a.place ≡ length (payloads ys)

pub run_is : (w : ℕ) (xs ys zs : List Part) (s : Bytes) (a b : PartAt) → record_of w (xs ++ (ys ++ zs)) ≡ s
    → a.index ≡ length xs → b.index ≡ a.index + length ys
    → a.place ≡ 4 + 4 * length (xs ++ (ys ++ zs)) + length (payloads xs) → b.place ≡ a.place + length (payloads ys)
    → Run s a b ys
run_is w xs ys zs s a b e ai bi ap' bp =
    let c : b.index - a.index ≡ length ys = omega arith in
    let d : b.place - a.place ≡ length (payloads ys) = omega arith in
    record {
      table = rw (← e) (run_table w xs ys zs a.index (b.index - a.index) ai c);
      rest = rw (← e) (run_rest w xs ys zs a.place (b.place - a.place) ap' d);
      count = c;
      bytes = d;
    }

-- A run stored behind what was stored: `done` so far, and then `ys` too.
module _ (o : Bytes) (e p : ℕ) where
  pub run_stored : (done ys : List Part) (s : Bytes) (a b : PartAt) (at at' : Cursor) (o₁ o₂ : Bytes) → Run s a b ys
      → e + 4 * (length done + length ys) ≤ p
      → o₁ ≡ laid o e p done → at.jentry ≡ e + 4 * length done → at.place ≡ p + length (payloads done)
      → Copied s a b at at' o₁ o₂
      → (o₂ ≡ laid o e p (done ++ ys)) × (at'.jentry ≡ e + 4 * length (done ++ ys)) × (at'.place ≡ p + length (payloads (done ++ ys)))
  run_stored done ys s a b at at' o₁ o₂ r h e₁ ej ep h₂ =
      let l = length-append done ys in
      let m = ap length (payloads_append done ys) ∙ length-append (payloads done) (payloads ys) in
      let n = r.count in
      let k = r.bytes in (
        rw (h₂.1, r.table, r.rest, e₁, ej, ep) (laid_append o e p done ys h),
        rw h₂.0 (omega arith),
        rw h₂.0 (omega arith),
      )
