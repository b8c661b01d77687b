-- Two records written as one array: what the code stores is the array's record.
use Prim.Native.Nat.{ℕ, ◌+◌, ◌*◌, ◌%◌, ◌^◌, ◌<◌, ◌≤◌}
use native.Mathlib.Omega.{arith}
use mathlib.Core.Path.{◌≡◌, refl, ap, sym, ◌∙◌}
use mathlib.Core.List.{List, [], ◌∷◌, ◌++◌, append_assoc, append-nil}
use lib.ListN.{length, take, drop, length-append, length-drop}
use lib.Seq.{length-take-le, take-append_seam, drop-append_seam, drop-drop}
use Rattle.layout.specs.Bytes.{Bytes, be32}
use Rattle.layout.specs.Entry.{entry_of}
use Rattle.layout.specs.Tree.{Tree, null, boolean, number, string, extension, array, object, Items, none, item}
use Rattle.layout.specs.Encode.{Part, entries, payloads, item_parts, part, encode, record_of}
use Rattle.layout.specs.Patch.{patch}
use Rattle.layout.proofs.Words.{length_be32, drop_be32}
use Rattle.layout.proofs.Level.{entries_length}
use Rattle.layout.proofs.Decoding.{payloads_append}
use Rattle.layout.proofs.Nestings.{head_of}
use Rattle.builders.specs.Build.{join}
use Rattle.builders.specs.Join.{given_count, given_entries, given_start, Lies, as_one, joined, joined_length}
use Rattle.builders.specs.declared.join.Given.{Given}
use Rattle.builders.specs.declared.join.Given.TheVariants.{Table, Whole}
use Rattle.builders.proofs.Weaves.{patch_then, entries_append}

-- What is given, by its case.
module _ (g : Given) where
  pub count_table : (n : ℕ) → g ≡ Table n → n ≡ given_count g
  unfolding given_count
  count_table n e = rw e

  pub start_table : (n : ℕ) → g ≡ Table n → 4 + 4 * n ≡ given_start g
  unfolding given_start
  start_table n e = rw e

  pub start_whole : g ≡ Whole → 0 ≡ given_start g
  unfolding given_start
  start_whole e = rw e

  module _ (s o o' : Bytes) (at : ℕ) where
    pub entries_table : (n : ℕ) (r : Bytes) → g ≡ Table n → r ≡ take (4 * n) (drop 4 s) → o' ≡ patch o at r
        → o' ≡ patch o at (given_entries s g)
    unfolding given_entries
    entries_table n r e h p = rw (p, h, e)

    pub entries_whole : (v : ℕ) → g ≡ Whole → length s < 2 ^ 28 → v ≡ entry_of (5 % 2 ^ 3) (length s % 2 ^ 28)
        → o' ≡ patch o at (be32 v)
        → o' ≡ patch o at (given_entries s g)
    unfolding given_entries
    entries_whole v e l h p =
        let m : length s % 2 ^ 28 ≡ length s = omega arith in
        rw (p, h, e, m)

-- How much is given.
lies_few : (s : Bytes) (g : Given) → given_start g ≤ length s → length s ≤ 65536 → given_count g ≤ 16384
unfolding given_start given_count
lies_few s (Table n) h l = omega arith
lies_few s Whole h l = omega arith

pub few : (s : Bytes) (g : Given) → Lies s g → given_count g ≤ 16384
few s g h = lies_few s g h.starts h.short

length_given : (s : Bytes) (g : Given) → given_start g ≤ length s → length (given_entries s g) ≡ 4 * given_count g
unfolding given_start given_count given_entries
length_given s (Table n) h = length-take-le (4 * n) (drop 4 s) (rw (length-drop 4 s) (omega arith))
length_given s Whole h = length_be32 _

pub length_is : (s : Bytes) (g : Given) (r : Bytes) (h : Given) (m n : ℕ) (x y : Bytes) → m ≡ given_count g → n ≡ given_count h
    → x ≡ drop (given_start g) s → y ≡ drop (given_start h) r → 4 + 4 * (m + n) + length x + length y ≡ joined_length s g r h
unfolding joined_length
length_is s g r h m n x y em en ex ey =
    omega (arith, em, en, ap length ex, ap length ey, length-drop (given_start g) s, length-drop (given_start h) r)

-- What is stored, and its length.
module _ (s : Bytes) (g : Given) (r : Bytes) (h : Given) (ls : Lies s g) (lr : Lies r h) where
  pub length_joined : (w n : ℕ) → n ≡ joined_length s g r h → n ≡ length (joined w s g r h)
  unfolding joined joined_length
  length_joined w n e =
      omega (
        arith,
        e,
        length_be32 w,
        length-append (be32 w) ((given_entries s g ++ given_entries r h) ++ (drop (given_start g) s ++ drop (given_start h) r)),
        length-append (given_entries s g ++ given_entries r h) (drop (given_start g) s ++ drop (given_start h) r),
        length-append (given_entries s g) (given_entries r h),
        length-append (drop (given_start g) s) (drop (given_start h) r),
        length_given s g ls.starts,
        length_given r h lr.starts,
        length-drop (given_start g) s,
        length-drop (given_start h) r,
      )

  pub joined_stored : (w m n : ℕ) (x y o o₁ o₂ o₃ o₄ o₅ : Bytes) → m ≡ given_count g → n ≡ given_count h
      → x ≡ drop (given_start g) s → y ≡ drop (given_start h) r
      → o₁ ≡ patch o 0 (be32 w) → o₂ ≡ patch o₁ 4 (given_entries s g) → o₃ ≡ patch o₂ (4 + 4 * m) (given_entries r h)
      → o₄ ≡ patch o₃ (4 + 4 * (m + n)) x → o₅ ≡ patch o₄ (4 + 4 * (m + n) + length x) y
      → o₅ ≡ patch o 0 (joined w s g r h)
  unfolding joined
  joined_stored w m n x y o o₁ o₂ o₃ o₄ o₅ em en hx hy e₁ e₂ e₃ e₄ e₅ =
      let lw = length_be32 w in
      let ls' = length_given s g ls.starts in
      let lr' = length_given r h lr.starts in
      let j₂ = patch_then o o₁ o₂ 0 4 _ _ e₁ e₂ (omega arith) in
      let j₃ = patch_then o o₂ o₃ 0 (4 + 4 * m) _ _ j₂ e₃ (rw (length-append) (omega arith)) in
      let j₄ = patch_then o o₃ o₄ 0 (4 + 4 * (m + n)) _ _ j₃ e₄ (rw (length-append, length-append) (omega arith)) in
      let j₅ = patch_then o o₄ o₅ 0 (4 + 4 * (m + n) + length x) _ _ j₄ e₅ (rw (length-append, length-append, length-append) (omega arith)) in
      j₅ ∙ ap (patch o 0) (rw (hx, hy)
      (regroup (be32 w) (given_entries s g) (given_entries r h) (drop (given_start g) s) (drop (given_start h) r)))
    where
      regroup : (a b c d e : Bytes) → ((((a ++ b) ++ c) ++ d) ++ e) ≡ a ++ ((b ++ c) ++ (d ++ e))
      regroup a b c d e =
          append_assoc ((a ++ b) ++ c) d e ∙ ap (λ x. x ++ (d ++ e)) (append_assoc a b c) ∙ append_assoc a (b ++ c) (d ++ e)

-- What is given are the parts of these items.
pub record Gives (s : Bytes) (g : Given) (ts : Items) : Type 0 where
  pub count : given_count g ≡ length (item_parts ts)
  pub table : given_entries s g ≡ entries (item_parts ts)
  pub rest : drop (given_start g) s ≡ payloads (item_parts ts)

-- A record with a table of `n`.
table_gives : (w n : ℕ) (ps : List Part) → n ≡ length ps
    → (take (4 * n) (drop 4 (record_of w ps)) ≡ entries ps) × (drop (4 + 4 * n) (record_of w ps) ≡ payloads ps)
table_gives w n ps e =
    let l : length (entries ps) ≡ 4 * n = entries_length ps ∙ ap (λ k. 4 * k) (sym e) in (
      rw (drop_be32 w (entries ps ++ payloads ps), ← l) (take-append_seam (entries ps) (payloads ps)),
      rw (← drop-drop (4 * n) 4 (record_of w ps), drop_be32 w (entries ps ++ payloads ps), ← l) (drop-append_seam (entries ps) (payloads ps)),
    )

pub array_gives : (ts : Items) → Gives (encode (array ts)) (Table (length (item_parts ts))) ts
unfolding given_count given_entries given_start
array_gives ts =
    let t = table_gives (2 ^ 31 + length (item_parts ts)) (length (item_parts ts)) (item_parts ts) refl in
    record { count = refl; table = t.0; rest = t.1 }

scalar_gives : (u : Tree) → Gives (record_of (2 ^ 29) (part u ∷ [])) (Table 1) (item u none)
unfolding given_count given_entries given_start
scalar_gives u =
    let t = table_gives (2 ^ 29) 1 (part u ∷ []) refl in
    record { count = refl; table = t.0; rest = t.1 }

pub one_gives : (u : Tree) → Gives (encode u) (as_one (head_of u)) (item u none)
unfolding given_count given_entries given_start
one_gives null = scalar_gives null
one_gives (boolean x) = scalar_gives (boolean x)
one_gives (number b) = scalar_gives (number b)
one_gives (string b) = scalar_gives (string b)
one_gives (extension b) = scalar_gives (extension b)
one_gives (array ts) = record { count = refl; table = sym (append-nil _); rest = sym (append-nil _) }
one_gives (object ms) = record { count = refl; table = sym (append-nil _); rest = sym (append-nil _) }

pub join_parts : (ts us : Items) → item_parts (join ts us) ≡ item_parts ts ++ item_parts us
join_parts none us = refl
join_parts (item t ts) us = ap (λ ps. part t ∷ ps) (join_parts ts us)

-- So what is written, with the right header, is the array of both.
pub joined_encode : (w : ℕ) (s : Bytes) (g : Given) (ts : Items) (r : Bytes) (h : Given) (us : Items) → Gives s g ts
    → Gives r h us
    → w ≡ 2 ^ 31 + (given_count g + given_count h) → joined w s g r h ≡ encode (array (join ts us))
unfolding joined
joined_encode w s g ts r h us a b e =
    rw (
      e,
      join_parts ts us,
      length-append (item_parts ts) (item_parts us),
      entries_append (item_parts ts) (item_parts us),
      payloads_append (item_parts ts) (item_parts us),
      a.count,
      b.count,
      a.table,
      b.table,
      a.rest,
      b.rest,
    )
