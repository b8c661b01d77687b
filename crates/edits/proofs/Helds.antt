-- Items of a record that stand for trees: the record itself, what a step finds from one on, and the record that one is written as.
use Prim.Native.Nat.{ℕ, zero, suc, ◌+◌, ◌%◌, ◌^◌, ◌≤◌, ◌<◌}
use native.Mathlib.Omega.{arith}
use mathlib.Core.Path.{◌≡◌, refl, ap, sym, ◌∙◌}
use mathlib.Core.Bool.{true, false}
use mathlib.Core.List.{[], ◌∷◌, ◌++◌, append-nil, append_assoc}
use lib.ListN.{length, take, drop, length-append}
use lib.Seq.{take-take, take_all, drop-drop}
use borrow.Author.Tests.{ne_eqb}
use Rattle.layout.specs.Bytes.{Bytes, Octets, be32}
use Rattle.layout.specs.Answer.{gives}
use Rattle.layout.specs.Entry.{code, code_of, length_of, entry_of, entry_at}
use Rattle.layout.specs.Tree.{Tree, null, boolean, number, string, extension, array, object, kind}
use Rattle.layout.specs.Encode.{Part, entry_word, payload, part, scalar, encode}
use Rattle.layout.specs.Read.{header, nested}
use Rattle.layout.specs.Patch.{patch}
use Rattle.layout.specs.Ended.{into}
use Rattle.layout.specs.Room.{EndedIn}
use Rattle.layout.specs.declared.refusal.Refusal.TheVariants.{Buffer}
use Rattle.layout.specs.declared.item.Kind.{Kind}
use Rattle.layout.specs.declared.item.Kind.TheVariants.{Null, String, Number, False, True, Container, Extension}
use Rattle.layout.proofs.Fields.{code_entry, length_entry}
use Rattle.layout.proofs.Words.{length_be32}
use Rattle.layout.proofs.Level.{code_small}
use Rattle.layout.proofs.Readables.{nested_reads}
use Rattle.layout.proofs.Patches.{in_short, in_full}
use Rattle.layout.specs.Parts.{bytes_at}
use Rattle.layout.specs.declared.parts.ItemAt.{ItemAt}
use Rattle.builders.proofs.Weaves.{patch_then}
use Rattle.edits.specs.Keypath.{Step}
use Rattle.edits.specs.Find.{step_into}
use Rattle.edits.specs.Spot.{spot}
use Rattle.edits.specs.Held.{Held, Stands, Agree, Leads, item_in, item_record}
use Rattle.layout.specs.declared.parts.PartAt.{PartAt}
use Rattle.edits.proofs.Spots.{spot_none, Spotted, spot_part}
use Rattle.std.specs.Prelude.{Ok, Err, Some, None, Option}

-- What was found, both ways.

pub agree_none : (s : Bytes) (o : Option Tree) → o ≡ None → Agree s o None
agree_none s o e = rw e tt

pub agree_some : (s : Bytes) (o : Option Tree) (v : Tree) (x : ItemAt) → o ≡ Some v → Held s x v → Agree s o (Some x)
agree_some s o v x e h = rw e h

pub found_none : (s : Bytes) (o : Option Tree) (r : Option ItemAt) → Agree s o r → r ≡ None → o ≡ None
found_none s None r h q = refl
found_none s (Some t) r h q = let z : ⊥ = rw q at h in absurd z

pub found_some : (s : Bytes) (o : Option Tree) (r : Option ItemAt) (x : ItemAt) → Agree s o r → r ≡ Some x
    → (v : Tree) × (o ≡ Some v) × Held s x v
found_some s None r x h q = let z : ⊥ = rw q at h in absurd z
found_some s (Some t) r x h q = (t, refl, rw q at h)

-- The entry of an item tells the kind of its tree and the length of its payload.

pub entry_code : (w : ℕ) (t : Tree) → w ≡ entry_word (part t) → length (payload t) < 2 ^ 28 → code_of w ≡ code (kind t)
entry_code w t e l = rw e (code_entry (code (kind t)) (length (payload t)) (omega (arith, code_small (kind t))) l)

module _ (s : Bytes) (x : ItemAt) (t : Tree) (h : Held s x t) where
  held_code : code_of x.jentry ≡ code (kind t)
  held_code = entry_code x.jentry t h.entry (omega (arith, h.within, h.short))

  held_length : length_of x.jentry ≡ length (payload t)
  held_length =
      let l : length (payload t) < 2 ^ 28 = omega (arith, h.within, h.short) in
      rw h.entry (length_entry (code (kind t)) (length (payload t)) l)

container_code : (k : Kind) → code k ≡ 5 → k ≡ Container
container_code Null e = let z : ⊥ = omega arith in absurd z
container_code String e = let z : ⊥ = omega arith in absurd z
container_code Number e = let z : ⊥ = omega arith in absurd z
container_code False e = let z : ⊥ = omega arith in absurd z
container_code True e = let z : ⊥ = omega arith in absurd z
container_code Container e = refl
container_code Extension e = let z : ⊥ = omega arith in absurd z

-- A step from an item.

-- A part of a part.
part_of_part : (p l m : ℕ) (b : Bytes) → p + l ≤ m → take l (drop p (take m b)) ≡ take l (drop p b)
part_of_part zero l m b h = take-take l m b (omega arith)
part_of_part (suc p) l zero b h = let z : ⊥ = omega arith in absurd z
part_of_part (suc p) l (suc m) [] h = refl
part_of_part (suc p) l (suc m) (x ∷ b) h = part_of_part p l m b (omega arith)

scalar_step : (p : Step) (t : Tree) → (code (kind t) ≡ 5 → ⊥) → step_into p t ≡ None
scalar_step p null h = refl
scalar_step p (boolean x) h = refl
scalar_step p (number b) h = refl
scalar_step p (string b) h = refl
scalar_step p (extension b) h = refl
scalar_step p (array ts) h = absurd (h refl)
scalar_step p (object ms) h = absurd (h refl)

-- The part that a step finds in the payload of an item stands for its tree, at its place in the record.
held_part : (s : Bytes) (x : ItemAt) (t : Tree) (inner : Bytes) (p : Step) (a : PartAt) (j : ℕ) → (h : Held s x t)
    → inner ≡ bytes_at s x → (k : Spotted t inner p a) → j ≡ entry_at inner a.index
    → Held s (record { jentry = j; place = x.place + a.place }) k.tree
held_part s x t inner p a j h e k q =
    let lj : length_of j ≡ length (payload k.tree) = ap length_of q ∙ k.len in
    let li : length inner ≡ length (payload t) = ap length (e ∙ h.bytes) in
    let room : a.place + length (payload k.tree) ≤ length_of x.jentry = omega (arith, k.within, held_length s x t h) in
    let cut : take (length (payload k.tree)) (drop a.place (bytes_at s x)) ≡ payload k.tree = rw e at k.bytes in
    record {
      entry = q ∙ k.entry;
      bytes = rw (lj, ← drop-drop a.place x.place s)
          (sym (part_of_part a.place (length (payload k.tree)) (length_of x.jentry) (drop x.place s) room) ∙ cut);
      within = omega (arith, k.within, h.within);
      short = h.short;
    }

module _ (s : Bytes) (x : ItemAt) (p : Step) (c : ℕ) (hc : c ≡ code_of x.jentry) where
  pub leads_scalar : (c ≡ 5 → ⊥) → Leads s x (step_into p) None
  leads_scalar q t h = agree_none s (step_into p t) (scalar_step p t (λ e. q (hc ∙ held_code s x t h ∙ e)))

  module _ (qc : c ≡ 5) (inner : Bytes) (hi : inner ≡ bytes_at s x) (r : Option PartAt) (hr : r ≡ spot (header inner) inner p) where
    inner_kind : (t : Tree) → Held s x t → kind t ≡ Container
    inner_kind t h = container_code (kind t) (sym (held_code s x t h) ∙ sym hc ∙ qc)

    inner_short : (t : Tree) → Held s x t → length inner ≤ 65536
    inner_short t h = omega (arith, ap length (hi ∙ h.bytes), h.within, h.short)

    leads_none : r ≡ None → Leads s x (step_into p) None
    leads_none q t h =
        agree_none s (step_into p t)
        (spot_none t inner p (sym (hi ∙ h.bytes)) (inner_kind t h) (inner_short t h) (sym hr ∙ q))

    module _ (a : PartAt) (q : r ≡ Some a) where
      step_spotted : (t : Tree) → Held s x t → Spotted t inner p a
      step_spotted t h = spot_part t inner p a (sym (hi ∙ h.bytes)) (inner_kind t h) (inner_short t h) (sym hr ∙ q)

      -- The number of the part's entry and the place of its payload are small.
      pub step_small : Stands s x → (a.index < 32768) × (x.place + a.place ≤ 65536)
      step_small w =
          let k = step_spotted w.0 w.1 in
          (k.few, omega (arith, k.within, ap length (hi ∙ w.1.bytes), w.1.within, w.1.short))

      leads_on : Leads s x (step_into p) (Some (record { jentry = entry_at inner a.index; place = x.place + a.place }))
      leads_on t h =
          let k = step_spotted t h in
          agree_some s (step_into p t) k.tree _ k.found (held_part s x t inner p a (entry_at inner a.index) h hi k refl)

    -- The item that the part found is.
    pub leads_in : (q : Option ItemAt) → q ≡ item_in inner x.place r → Leads s x (step_into p) q
    leads_in q = go r refl
      where
        go : (w : Option PartAt) → r ≡ w → q ≡ item_in inner x.place w → Leads s x (step_into p) q
        go None f e = rw e (leads_none f)
        go (Some a) f e = rw e (leads_on a f)

-- A container is an item of its own bytes.
pub root_held : (s : Bytes) (t : Tree) (j : ℕ) → Octets s → length s ≤ 65536 → nested 64 s ≡ gives t
    → j ≡ entry_of (5 % 2 ^ 3) (length s % 2 ^ 28) → Held s (record { jentry = j; place = 0 }) t
root_held s t j o l e q =
    let w : part t ≡ record { kind = Container; bytes = s } = ((nested_reads 64 s t o l).0 e).0 in
    let b : payload t ≡ s = ap (λ (p : Part). p.bytes) w in
    let m : length s % 2 ^ 28 ≡ length s = omega arith in
    let j' : j ≡ entry_of 5 (length s) = q ∙ rw m in
    let n : length_of j ≡ length s = ap length_of j' ∙ length_entry 5 (length s) (omega arith) in
    record {
      entry = j' ∙ sym (ap entry_word w);
      bytes = rw (n, b) (take_all (length s) s (omega arith));
      within = rw b (omega arith);
      short = l;
    }

-- The record of an item.

module _ (s : Bytes) (x : ItemAt) (c : ℕ) (hc : c ≡ code_of x.jentry) where
  pub item_record_container : c ≡ 5 → item_record s x ≡ bytes_at s x
  unfolding item_record
  item_record_container q = rw (← hc, q)

  item_record_scalar : (c ≡ 5 → ⊥) → item_record s x ≡ be32 (2 ^ 29) ++ (be32 x.jentry ++ bytes_at s x)
  unfolding item_record
  item_record_scalar q = rw (← hc, ne_eqb c 5 q)

-- A header, an entry and a payload, each stored behind the one before.
stored_scalar : (o o₁ o₂ o₃ : Bytes) (w j : ℕ) (b : Bytes)
    → o₁ ≡ patch o 0 (be32 w) → o₂ ≡ patch o₁ 4 (be32 j) → o₃ ≡ patch o₂ 8 b
    → o₃ ≡ patch o 0 (be32 w ++ (be32 j ++ b))
stored_scalar o o₁ o₂ o₃ w j b e₁ e₂ e₃ =
    let l = length_be32 w in
    let l₂ = length_be32 j in
    let l₃ = length-append (be32 w) (be32 j) in
    patch_then o o₂ o₃ 0 8 (be32 w ++ be32 j) b (patch_then o o₁ o₂ 0 4 (be32 w) (be32 j) e₁ e₂ (omega arith)) e₃ (omega arith)
    ∙ ap (patch o 0) (append_assoc (be32 w) (be32 j) b)

-- A scalar item that is written, or too long for the buffer.
module _ (s : Bytes) (x : ItemAt) (c : ℕ) (hc : c ≡ code_of x.jentry) (q : c ≡ 5 → ⊥) (b : Bytes) (hb : b ≡ bytes_at s x)
    (o : Bytes) (room : ℕ) where
  item_record_is : item_record s x ≡ be32 (2 ^ 29) ++ (be32 x.jentry ++ b)
  item_record_is = rw hb (item_record_scalar s x c hc q)

  item_length : length (item_record s x) ≡ 8 + length b
  item_length =
      omega (
        arith,
        ap length item_record_is,
        length-append (be32 (2 ^ 29)) (be32 x.jentry ++ b),
        length-append (be32 x.jentry) b,
        length_be32 (2 ^ 29),
        length_be32 x.jentry,
      )

  pub item_short : room < 8 + length b → EndedIn (Err Buffer) o o (into room (item_record s x))
  item_short h = in_short (item_record s x) o room (omega (arith, item_length))

  pub item_stored : (o₁ o₂ o₃ : Bytes) → 8 + length b ≤ room
      → o₁ ≡ patch o 0 (be32 (2 ^ 29)) → o₂ ≡ patch o₁ 4 (be32 x.jentry) → o₃ ≡ patch o₂ 8 b
      → EndedIn (Ok (Some (8 + length b))) o o₃ (into room (item_record s x))
  item_stored o₁ o₂ o₃ h e₁ e₂ e₃ =
      in_full (item_record s x) o room o₃ (8 + length b) (omega (arith, item_length)) (sym item_length)
      (stored_scalar o o₁ o₂ o₃ (2 ^ 29) x.jentry b e₁ e₂ e₃ ∙ ap (patch o 0) (sym item_record_is))

-- The record of an item is the record of its tree.

scalar_record : (s : Bytes) (x : ItemAt) (t : Tree) → Held s x t → (code (kind t) ≡ 5 → ⊥) → item_record s x ≡ scalar t
scalar_record s x t h q =
    item_record_scalar s x (code (kind t)) (sym (held_code s x t h)) q
    ∙ rw (h.bytes, h.entry, append-nil (be32 (entry_word (part t))), append-nil (payload t))

container_record : (s : Bytes) (x : ItemAt) (t : Tree) → Held s x t → code (kind t) ≡ 5 → item_record s x ≡ payload t
container_record s x t h q = item_record_container s x (code (kind t)) (sym (held_code s x t h)) q ∙ h.bytes

pub held_record : (s : Bytes) (x : ItemAt) (t : Tree) → Held s x t → item_record s x ≡ encode t
held_record s x null h = scalar_record s x null h (λ e. omega arith)
held_record s x (boolean true) h = scalar_record s x (boolean true) h (λ e. omega arith)
held_record s x (boolean false) h = scalar_record s x (boolean false) h (λ e. omega arith)
held_record s x (number b) h = scalar_record s x (number b) h (λ e. omega arith)
held_record s x (string b) h = scalar_record s x (string b) h (λ e. omega arith)
held_record s x (extension b) h = scalar_record s x (extension b) h (λ e. omega arith)
held_record s x (array ts) h = container_record s x (array ts) h refl
held_record s x (object ms) h = container_record s x (object ms) h refl
