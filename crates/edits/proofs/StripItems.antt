-- An array stripped: its items are stored one by one, each stripped.
use Prim.Native.Nat.{ℕ, suc, ◌+◌, ◌*◌, ◌-◌, ◌^◌, ◌≤◌, ◌<◌}
use native.Mathlib.Omega.{arith}
use mathlib.Core.Path.{◌≡◌, refl, ap, sym, ◌∙◌}
use mathlib.Core.Bool.{Bool, true, false, ◌&&◌}
use mathlib.Core.List.{List, [], ◌∷◌, ◌++◌, append-nil}
use lib.Bits.{bit_or}
use lib.ListN.{length, take, drop, length-append}
use Rattle.layout.specs.Bytes.{Bytes, Octets, be32}
use Rattle.layout.specs.Entry.{code, code_of, length_of, entry_at}
use Rattle.layout.specs.Tree.{Tree, array, Items, none, item, kind}
use Rattle.layout.specs.Encode.{Part, entry_word, entries, payloads, record_of, payload, item_parts, part}
use Rattle.layout.specs.Read.{header}
use Rattle.layout.specs.Limits.{ValidItems, Valid, depth, depth_items}
use Rattle.layout.specs.Patch.{patch}
use Rattle.layout.specs.declared.util.Header.TheVariants.{Array}
use Rattle.layout.proofs.Words.{octets_take, octets_drop}
use Rattle.layout.proofs.Fields.{length_entry}
use Rattle.layout.proofs.Level.{AllFit}
use Rattle.layout.proofs.Patches.{length_patch}
use Rattle.layout.proofs.Decoding.{payloads_append}
use Rattle.layout.proofs.Encoding.{array_fits}
use Rattle.layout.proofs.Pieces.{same_part}
use Rattle.layout.proofs.Readables.{record_of_length, size_payload}
use Rattle.builders.specs.Build.{join}
use Rattle.layout.specs.Parts.{bytes_at}
use Rattle.layout.specs.declared.parts.ItemAt.{ItemAt}
use Rattle.builders.proofs.Joins.{join_parts}
use Rattle.builders.proofs.Knowns.{an_array}
use Rattle.layout.specs.Parts.{first_part, next_part}
use Rattle.edits.specs.Strip.{stripped, stripped_items, unrepeated, unrepeated_items}
use Rattle.edits.specs.Stripping.{stripped_of, unrepeated_of, Strippable, strip_item, strip_entry, unrepeated_item, Strips}
use Rattle.layout.specs.declared.parts.PartAt.{PartAt}
use Rattle.layout.specs.declared.parts.Cursor.{Cursor}
use Rattle.edits.proofs.Strips.{strip_shrinks}
use Rattle.edits.proofs.Rows.{row_entry, row_bytes, row_lengths}
use Rattle.edits.proofs.Runs.{laid, laid_append, laid_record}
use Rattle.edits.proofs.Withouts.{array_word}
use Rattle.edits.proofs.Tables.{Contains}
use Rattle.edits.proofs.Stripped.{stripped_tree, TreeAt, strippable_at, stripped_at, ends_len}
use Rattle.std.specs.Prelude.{Ok, Option, Some, None}

-- Some items and one more.
abbrev one_more : Items → Tree → Items
one_more done t = join done (item t none)

join_one : (done : Items) (t : Tree) (rest : Items) → join (one_more done t) rest ≡ join done (item t rest)
join_one none t rest = refl
join_one (item u done) t rest = ap (item u) (join_one done t rest)

strip_one : (done : Items) (t : Tree) → stripped_items (one_more done t) ≡ one_more (stripped_items done) (stripped t)
strip_one none t = refl
strip_one (item u done) t = ap (item (stripped u)) (strip_one done t)

parts_one : (done : Items) (t : Tree) → item_parts (one_more done t) ≡ item_parts done ++ (part t ∷ [])
parts_one done t = join_parts done (item t none)

fine_one : (done : Items) (t : Tree) → unrepeated_items done ≡ true → unrepeated t ≡ true → unrepeated_items (one_more done t) ≡ true
fine_one none t h e = rw e
fine_one (item u done) t h e = both (unrepeated u) (unrepeated_items done) h (fine_one done t)
  where
    both : (a b : Bool) → (a && b) ≡ true → (b ≡ true → unrepeated t ≡ true → unrepeated_items (one_more done t) ≡ true)
        → (a && unrepeated_items (one_more done t)) ≡ true
    both true b q f = f q e
    both false b q f = cc

repeats_in : (done : Items) (t : Tree) (rest : Items) → unrepeated t ≡ false → unrepeated_items (join done (item t rest)) ≡ false
repeats_in none t rest e = rw e
repeats_in (item u done) t rest e = go (unrepeated u) (repeats_in done t rest e)
  where
    go : (a : Bool) → unrepeated_items (join done (item t rest)) ≡ false → (a && unrepeated_items (join done (item t rest))) ≡ false
    go true q = q
    go false q = refl

item_inside : (done : Items) (t : Tree) (rest : Items) → (ValidItems (join done (item t rest)) → Valid t) × (depth t ≤ depth_items (join done (item t rest)))
item_inside none t rest = (λ v. v.0, omega arith)
item_inside (item u done) t rest = let r = item_inside done t rest in (λ v. r.0 v.1, omega (arith, r.1))

shorter_items : (ts : Items) → length (payloads (item_parts (stripped_items ts))) ≤ length (payloads (item_parts ts))
shorter_items none = omega arith
shorter_items (item t ts) =
    omega (
      arith,
      shorter_items ts,
      (strip_shrinks t).payload,
      size_payload t,
      size_payload (stripped t),
      length-append (payload t) (payloads (item_parts ts)),
      length-append (payload (stripped t)) (payloads (item_parts (stripped_items ts))),
    )

count_stripped : (ts : Items) → length (item_parts (stripped_items ts)) ≡ length (item_parts ts)
count_stripped none = refl
count_stripped (item t ts) = ap suc (count_stripped ts)

join_none : (ts : Items) → join ts none ≡ ts
join_none none = refl
join_none (item t ts) = ap (item t) (join_none ts)

-- One more part stored behind others.
one_stored : (o out out₁ : Bytes) (e k : ℕ) (xs : List Part) (q : Part) (j p v : ℕ) (b : Bytes) → out ≡ laid o e k xs → j ≡ e + 4 * length xs
    → p ≡ k + length (payloads xs) → v ≡ entry_word q → b ≡ q.bytes → out₁ ≡ patch (patch out j (be32 v)) p b → e + 4 * (length xs + 1) ≤ k
    → out₁ ≡ laid o e k (xs ++ (q ∷ []))
one_stored o out out₁ e k xs q j p v b eo ej ep ev eb e₁ h =
    e₁
    ∙ rw (eo, ej, ep, ev, eb) (as_run (laid o e k xs) (e + 4 * length xs) (k + length (payloads xs)) ∙ laid_append o e k xs (q ∷ []) h)
  where
    as_run : (l : Bytes) (c d : ℕ) → patch (patch l c (be32 (entry_word q))) d q.bytes ≡ laid l c d (q ∷ [])
    as_run l c d =
        ap (λ (x : Bytes). patch (patch l c x) d q.bytes) (sym (append-nil (be32 (entry_word q))))
        ∙ ap (λ (x : Bytes). patch (patch l c (entries (q ∷ []))) d x) (sym (append-nil q.bytes))

-- The payload of an item, by its entry.
bytes_by : (s b : Bytes) (x : ItemAt) (e : ℕ) → x.jentry ≡ e → take (length_of e) (drop x.place s) ≡ b → bytes_at s x ≡ b
bytes_by s b x e he h = rw he h

-- The array, by its bytes.
pub record ArrayAt (s : Bytes) (n a : ℕ) : Type 0 where
  pub items : Items
  pub bytes : payload (array items) ≡ s
  pub count : n ≡ length (item_parts items)
  pub valid : ValidItems items
  pub deep : 1 + depth_items items ≤ a
  pub table : 4 + 4 * n + length (payloads (item_parts items)) ≡ length s
  pub short : length s ≤ 65536
  pub allowed : a ≤ 64
  pub octets : Octets s
  pub stripped_is : stripped_of s ≡ payload (array (stripped_items items))
  pub unrepeated_is : unrepeated_of s ≡ unrepeated_items items

pub array_at : {s : Bytes} {n a : ℕ} → Octets s → Strippable s a → header s ≡ Ok (Array n) → ArrayAt s n a
array_at {s} {n} {a} o st h =
    let b = stripped_tree s a o st in
    let w = an_array b.tree n (sym b.contained.head ∙ h) in
    let k : Contains a s (array w.0) = rw w.1 at b.inside in
    record {
      items = w.0;
      bytes = k.bytes;
      count = w.2;
      valid = k.valid;
      deep = omega (arith, k.deep);
      table = omega (arith, w.2, ap length k.bytes, record_of_length (2 ^ 31 + length (item_parts w.0)) (item_parts w.0));
      short = st.short;
      allowed = st.allowed;
      octets = o;
      stripped_is = b.stripped_is ∙ ap (λ (t : Tree). payload (stripped t)) w.1;
      unrepeated_is = b.unrepeated_is ∙ ap unrepeated w.1;
    }

-- The loop: some items are stored, the others are to come.
pub record Storing (s : Bytes) (n a at : ℕ) (w : ArrayAt s n a) (o out : Bytes) (here : Cursor) (p : PartAt) : Type 0 where
  pub done : Items
  pub rest : Items
  pub split : join done rest ≡ w.items
  pub index : p.index ≡ length (item_parts done)
  pub place : p.place ≡ 4 + 4 * n + length (payloads (item_parts done))
  pub jentry : here.jentry ≡ at + 4 + 4 * length (item_parts (stripped_items done))
  pub spot : here.place ≡ at + (4 + 4 * n) + length (payloads (item_parts (stripped_items done)))
  pub fine : unrepeated_items done ≡ true
  pub stored : out ≡ laid o (at + 4) (at + (4 + 4 * n)) (item_parts (stripped_items done))
  pub as_long : length out ≡ length o

pub storing_starts : {s : Bytes} {n a : ℕ} (w : ArrayAt s n a) (at : ℕ) (o : Bytes) {p : PartAt} → p ≡ first_part n
    → Storing s n a at w o o (record { jentry = at + 4; place = at + p.place }) p
unfolding patch
storing_starts w at o e =
    let first = same_part e in
    record {
      done = none;
      rest = w.items;
      split = refl;
      index = first.0;
      place = omega (arith, first.1);
      jentry = omega arith;
      spot = omega (arith, first.1);
      fine = refl;
      stored = refl;
      as_long = refl;
    }

-- The item at the part where the loop is.
pub record ItemNext (s : Bytes) (n : ℕ) (p : PartAt) (x : ItemAt) : Type 0 where
  pub more : p.index < n
  pub entry : x.jentry ≡ entry_at s p.index
  pub place : x.place ≡ p.place

module _ {s : Bytes} {n a at : ℕ} {w : ArrayAt s n a} {o out : Bytes} {here : Cursor} {p : PartAt} (now : Storing s n a at w o out here p) where
  -- How much was stored.
  pub storing_room : (p.index ≤ n) × (here.place ≤ at + 65536) × (here.jentry ≡ at + 4 + 4 * p.index) × (at + 4 + 4 * n ≤ here.place)
      × (p.place ≤ 65536) × (n < 2 ^ 20)
  storing_room =
      let all : length (payloads (item_parts w.items)) ≡ length (payloads (item_parts now.done)) + length (payloads (item_parts now.rest)) =
      ap (λ (ts : Items). length (payloads (item_parts ts))) (sym now.split)
      ∙ ap (λ (l : List Part). length (payloads l)) (join_parts now.done now.rest)
      ∙ ap length (payloads_append (item_parts now.done) (item_parts now.rest))
      ∙ length-append (payloads (item_parts now.done)) (payloads (item_parts now.rest)) in
      let few : n ≡ length (item_parts now.done) + length (item_parts now.rest) =
      w.count
      ∙ ap (λ (ts : Items). length (item_parts ts)) (sym now.split)
      ∙ ap length (join_parts now.done now.rest)
      ∙ length-append (item_parts now.done) (item_parts now.rest) in
      let c = count_stripped now.done in
      let l = shorter_items now.done in (
        omega (arith, now.index, few),
        omega (arith, now.spot, w.table, w.short),
        omega (arith, now.jentry, now.index),
        omega (arith, now.spot),
        omega (arith, now.place, w.table, w.short),
        omega (arith, w.table, w.short),
      )

  -- All are stored.
  all_stored : (v : ℕ) (o₀ : Bytes) → o ≡ patch o₀ at (be32 v) → now.done ≡ w.items → length (item_parts (stripped_items now.done)) ≡ n
      → stripped_of s ≡ payload (array (stripped_items now.done)) → v ≡ 2 ^ 31 + length (item_parts (stripped_items now.done))
      → Strips (Some (here.place - at)) (unrepeated_of s) (stripped_of s) out (patch o₀ at (stripped_of s))
  all_stored v o₀ eo all c is word = (
    w.unrepeated_is ∙ ap unrepeated_items (sym all) ∙ now.fine,
    rw is (omega (
      arith,
      now.spot,
      c,
      record_of_length (2 ^ 31 + length (item_parts (stripped_items now.done))) (item_parts (stripped_items now.done)),
    )),
    now.stored
        ∙ rw (eo, is, word)
        (laid_record o₀ at (2 ^ 31 + length (item_parts (stripped_items now.done))) (at + 4) (at + (4 + 4 * n))
        (item_parts (stripped_items now.done)) refl (omega (arith, c))),
  )

  pub storing_ends : {v : ℕ} (o₀ : Bytes) → n ≤ p.index → v ≡ bit_or (2 ^ 31) n → o ≡ patch o₀ at (be32 v)
      → Strips (Some (here.place - at)) (unrepeated_of s) (stripped_of s) out (patch o₀ at (stripped_of s))
  storing_ends {v} o₀ h ev eo = go now.rest refl
    where
      go : (r : Items) → now.rest ≡ r → Strips (Some (here.place - at)) (unrepeated_of s) (stripped_of s) out (patch o₀ at (stripped_of s))
      go (item t r) q =
          let few : n ≡ length (item_parts now.done) + length (item_parts (item t r)) =
          w.count
          ∙ ap (λ (ts : Items). length (item_parts ts)) (sym now.split ∙ ap (join now.done) q)
          ∙ ap length (join_parts now.done (item t r))
          ∙ length-append (item_parts now.done) (item_parts (item t r)) in
          let z : ⊥ = omega (arith, few, now.index) in
          absurd z
      go none q =
          let all : now.done ≡ w.items = sym (join_none now.done) ∙ ap (join now.done) (sym q) ∙ now.split in
          let c : length (item_parts (stripped_items now.done)) ≡ n = count_stripped now.done ∙ ap (λ (ts : Items). length (item_parts ts)) all ∙ sym w.count in
          all_stored v o₀ eo all c (w.stripped_is ∙ ap (λ (ts : Items). payload (array (stripped_items ts))) (sym all))
          (ev ∙ array_word n (omega (arith, w.table, w.short)) ∙ ap (λ (k : ℕ). 2 ^ 31 + k) (sym c))

  -- The next item.
  module _ {x : ItemAt} (next : ItemNext s n p x) where
    pub next_item : (t : Tree) × (r : Items) × (now.rest ≡ item t r)
    next_item = go now.rest refl
      where
        go : (r : Items) → now.rest ≡ r → (t : Tree) × (us : Items) × (now.rest ≡ item t us)
        go (item t r) q = (t, r, q)
        go none q =
            let few : n ≡ length (item_parts now.done) + length (item_parts none) =
            w.count
            ∙ ap (λ (ts : Items). length (item_parts ts)) (sym now.split ∙ ap (join now.done) q)
            ∙ ap length (join_parts now.done none)
            ∙ length-append (item_parts now.done) (item_parts none) in
            let z : ⊥ = omega (arith, few, now.index, next.more) in
            absurd z

    whole : join now.done (item next_item.0 next_item.1) ≡ w.items
    whole = ap (join now.done) (sym next_item.2) ∙ now.split

    parts : item_parts w.items ≡ item_parts now.done ++ (part next_item.0 ∷ item_parts next_item.1)
    parts = ap item_parts (sym whole) ∙ join_parts now.done (item next_item.0 next_item.1)

    pub item_at : TreeAt s x next_item.0 (a - 1)
    item_at =
        let f = array_fits w.items (omega (arith, ap length w.bytes, w.short)) in
        let e : record_of (2 ^ 31 + length (item_parts w.items)) (item_parts now.done ++ (part next_item.0 ∷ item_parts next_item.1)) ≡ s =
        ap (record_of (2 ^ 31 + length (item_parts w.items))) (sym parts) ∙ w.bytes in
        let r = row_by s _ p.index x.place (item_parts now.done) (part next_item.0) (item_parts next_item.1) e now.index
        (omega (arith, next.place, now.place, w.count, ap length parts)) (rw parts at f.fits) in
        let inside = item_inside now.done next_item.0 next_item.1 in
        let b : bytes_at s x ≡ payload next_item.0 = bytes_by s (payload next_item.0) x (entry_at s p.index) next.entry r.1 in
        let len : length (payload next_item.0) ≤ length s =
        omega (
          arith,
          ap length parts_payloads,
          w.table,
          length-append (payloads (item_parts now.done)) (payload next_item.0 ++ payloads (item_parts next_item.1)),
          length-append (payload next_item.0) (payloads (item_parts next_item.1)),
        ) in
        record {
          entry = next.entry ∙ r.0;
          bytes = b;
          short = omega (arith, len, w.short);
          octets = rw (← b) (octets_take (length_of x.jentry) (drop x.place s) (octets_drop x.place s w.octets));
          valid = inside.0 (rw whole w.valid);
          deep = omega (arith, inside.1, ap depth_items whole, w.deep);
          allowed = omega (arith, w.allowed);
        }
      where
        row_by : (s : Bytes) (v i k : ℕ) (xs : List Part) (q : Part) (ys : List Part) → record_of v (xs ++ (q ∷ ys)) ≡ s → i ≡ length xs
            → k ≡ 4 + 4 * length (xs ++ (q ∷ ys)) + length (payloads xs) → AllFit (xs ++ (q ∷ ys))
            → (entry_at s i ≡ entry_word q) × (take (length_of (entry_at s i)) (drop k s) ≡ q.bytes)
        row_by s v i k xs q ys e hi hk f =
            let l = row_lengths v xs (q ∷ ys) f in
            (rw (hi, ← e) (row_entry v xs q ys f).0, rw (hi, hk, ← e, ← l) (row_bytes v xs q ys f))

        parts_payloads : payloads (item_parts w.items) ≡ payloads (item_parts now.done) ++ (payload next_item.0 ++ payloads (item_parts next_item.1))
        parts_payloads = ap payloads parts ∙ payloads_append (item_parts now.done) (part next_item.0 ∷ item_parts next_item.1)

    pub item_asks : code_of x.jentry ≡ 5 → Strippable (bytes_at s x) (a - 1)
    item_asks = strippable_at s x next_item.0 (a - 1) item_at

    module _ (r : Option ℕ) (out₁ : Bytes)
        (st : Strips r (unrepeated_item s x) (strip_item s x) out₁ (patch (patch out here.jentry (be32 (strip_entry s x))) here.place (strip_item s x))) where
      pub storing_repeats : r ≡ None → unrepeated_of s ≡ false
      storing_repeats q =
          let z : unrepeated_item s x ≡ false = rw q at st in
          let f : unrepeated next_item.0 ≡ false = sym (stripped_at s x next_item.0 (a - 1) item_at).2 ∙ z in
          w.unrepeated_is ∙ ap unrepeated_items (sym whole) ∙ repeats_in now.done next_item.0 next_item.1 f

      module _ {len : ℕ} (q : r ≡ Some len) where
        told : (unrepeated_item s x ≡ true) × (len ≡ length (strip_item s x))
            × (out₁ ≡ patch (patch out here.jentry (be32 (strip_entry s x))) here.place (strip_item s x))
        told = ends_len _ _ _ _ st q

        abbrev t : Tree
        t = next_item.0

        sa : (strip_item s x ≡ payload (stripped t)) × (strip_entry s x ≡ entry_word (part (stripped t))) × (unrepeated_item s x ≡ unrepeated t)
        sa = stripped_at s x t (a - 1) item_at

        more_parts : item_parts (stripped_items (one_more now.done t)) ≡ item_parts (stripped_items now.done) ++ (part (stripped t) ∷ [])
        more_parts = ap item_parts (strip_one now.done t) ∙ parts_one (stripped_items now.done) (stripped t)

        more_payloads : length (payloads (item_parts (stripped_items (one_more now.done t))))
            ≡ length (payloads (item_parts (stripped_items now.done))) + length (payload (stripped t))
        more_payloads =
            ap (λ (l : List Part). length (payloads l)) more_parts
            ∙ ap length (payloads_append (item_parts (stripped_items now.done)) (part (stripped t) ∷ []))
            ∙ length-append (payloads (item_parts (stripped_items now.done))) (payload (stripped t) ++ [])
            ∙ ap (λ (l : Bytes). length (payloads (item_parts (stripped_items now.done))) + length l) (append-nil (payload (stripped t)))

        done_payloads : length (payloads (item_parts (one_more now.done t))) ≡ length (payloads (item_parts now.done)) + length (payload t)
        done_payloads =
            ap (λ (l : List Part). length (payloads l)) (parts_one now.done t)
            ∙ ap length (payloads_append (item_parts now.done) (part t ∷ []))
            ∙ length-append (payloads (item_parts now.done)) (payload t ++ [])
            ∙ ap (λ (l : Bytes). length (payloads (item_parts now.done)) + length l) (append-nil (payload t))

        entry_len : length_of (entry_at s p.index) ≡ length (payload t)
        entry_len = ap length_of (sym next.entry ∙ item_at.entry) ∙ length_entry (code (kind t)) (length (payload t)) (omega (arith, item_at.short))

        pub storing_len : len ≤ 65536
        storing_len =
            omega (arith, told.1, ap length sa.0, (strip_shrinks t).payload, size_payload t, size_payload (stripped t), item_at.short)

        pub storing_on : {p' : PartAt} → p' ≡ next_part s p
            → Storing s n a at w o out₁ (record { jentry = here.jentry + 4; place = here.place + len }) p'
        storing_on {p'} ep =
            let ln : len ≡ length (payload (stripped t)) = told.1 ∙ ap length sa.0 in
            let behind = same_part ep in
            let k = ap length more_parts ∙ length-append (item_parts (stripped_items now.done)) (part (stripped t) ∷ []) in
            let rm = storing_room in
            record {
              done = one_more now.done t;
              rest = next_item.1;
              split = join_one now.done t next_item.1 ∙ whole;
              index = omega (arith, behind.0, now.index, ap length (parts_one now.done t), length-append (item_parts now.done) (part t ∷ []));
              place = omega (arith, behind.1, now.place, entry_len, done_payloads);
              jentry = omega (arith, now.jentry, k);
              spot = omega (arith, now.spot, ln, more_payloads);
              fine = fine_one now.done t now.fine (sym sa.2 ∙ told.0);
              stored =
                  one_stored o out out₁ (at + 4) (at + (4 + 4 * n)) (item_parts (stripped_items now.done)) (part (stripped t))
                  here.jentry here.place (strip_entry s x) (strip_item s x)
                  now.stored now.jentry now.spot sa.1 sa.0 told.2 (omega (arith, rm.0, next.more, now.index, count_stripped now.done))
                  ∙ ap (laid o (at + 4) (at + (4 + 4 * n))) (sym more_parts);
              as_long = ap length told.2 ∙ length_patch _ _ _ ∙ length_patch _ _ _ ∙ now.as_long;
            }
