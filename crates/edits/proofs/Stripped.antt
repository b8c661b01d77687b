-- A container stripped, by its bytes; and an item, a container stripped and anything else as it is.
use Prim.Native.Nat.{ℕ, ◌+◌, ◌-◌, ◌%◌, ◌^◌, ◌≤◌}
use native.Mathlib.Nat.{sub-zero}
use native.Mathlib.Omega.{arith}
use mathlib.Core.Path.{◌≡◌, refl, ap, sym, ◌∙◌}
use mathlib.Core.Bool.{Bool, true, false}
use mathlib.Core.List.{◌++◌, append-nil}
use lib.Dec.{eqb}
use lib.ListN.{length, take, drop}
use lib.Seq.{take-length, drop-length}
use borrow.Author.Tests.{eq-eqb, ne_eqb}
use Rattle.layout.specs.Bytes.{Bytes, Octets, be32}
use Rattle.layout.specs.Answer.{Answer, gives, refused}
use Rattle.layout.specs.Entry.{code, code_of, length_of, entry_of}
use Rattle.layout.specs.Tree.{Tree, null, boolean, number, string, extension, array, object, kind}
use Rattle.layout.specs.Encode.{Part, entry_word, payload, item_parts, member_parts, part}
use Rattle.layout.specs.Read.{header, nested}
use Rattle.layout.specs.Limits.{Valid, depth}
use Rattle.layout.specs.Patch.{patch}
use Rattle.layout.specs.declared.refusal.Refusal.{Refusal}
use Rattle.layout.specs.declared.util.Header.{Header}
use Rattle.layout.specs.declared.util.Header.TheVariants.{Array, Object, Scalar}
use Rattle.layout.specs.declared.item.Kind.{Kind}
use Rattle.layout.specs.declared.item.Kind.TheVariants.{Null, String, Number, False, True, Container, Extension}
use Rattle.layout.proofs.Words.{length_be32, octets_take, octets_drop}
use Rattle.layout.proofs.Patches.{patch_comm}
use Rattle.layout.proofs.Nestings.{head_of}
use Rattle.layout.proofs.Readables.{nested_reads, size_payload}
use Rattle.layout.specs.Parts.{bytes_at, name_in}
use Rattle.builders.specs.Weave.{stored}
use Rattle.layout.specs.declared.parts.ItemAt.{ItemAt}
use Rattle.layout.specs.declared.parts.MemberAt.{MemberAt}
use Rattle.layout.specs.declared.parts.Places.{Places}
use Rattle.edits.specs.Strip.{stripped, unrepeated}
use Rattle.edits.specs.Stripping.{stripped_in, stripped_of, unrepeated_of, Strippable, strip_item, strip_entry, strip_value, value_entry, unrepeated_item, Strips}
use Rattle.layout.specs.declared.parts.Cursor.{Cursor}
use Rattle.edits.proofs.Strips.{kind_stripped, strip_shrinks}
use Rattle.edits.proofs.Helds.{entry_code}
use Rattle.edits.proofs.Tables.{Contains, contains, contains_more}
use Rattle.std.specs.Prelude.{Ok, Err, Result, Option, Some, None}

-- A container that can be stripped, by its tree.
pub record StrippedTree (s : Bytes) (a : ℕ) : Type 0 where
  pub tree : Tree
  pub inside : Contains a s tree
  pub contained : Contains 64 s tree
  pub stripped_is : stripped_of s ≡ payload (stripped tree)
  pub unrepeated_is : unrepeated_of s ≡ unrepeated tree
  pub shorter : length (stripped_of s) ≤ length s
  pub short : length s ≤ 65536

pub stripped_tree : (s : Bytes) (a : ℕ) → Octets s → Strippable s a → StrippedTree s a
unfolding stripped_of unrepeated_of
stripped_tree s a o h =
    let k = contains a s o h.short h.readable in
    let w : Contains 64 s k.0 = contains_more a 64 s k.0 o h.allowed k.1 in
    record {
      tree = k.0;
      inside = k.1;
      contained = w;
      stripped_is = rw w.reads;
      unrepeated_is = rw w.reads;
      shorter =
          rw w.reads
          (omega (arith, (strip_shrinks k.0).payload, size_payload k.0, size_payload (stripped k.0), ap length w.bytes));
      short = h.short;
    }

-- What is stripped is never longer.
pub no_longer : (s : Bytes) → Octets s → length s ≤ 65536 → length (stripped_of s) ≤ length s
unfolding stripped_of
no_longer s o l = go (nested 64 s) refl
  where
    go : (r : Answer Tree) → nested 64 s ≡ r → length (stripped_in r) ≤ length s
    go (gives t) q =
        let p = (nested_reads 64 s t o l).0 q in
        omega (arith, (strip_shrinks t).payload, size_payload t, size_payload (stripped t), ap (λ (x : Part). length x.bytes) p.0)
    go (refused r) q = omega arith

-- Only a container has code 5.
code_five : (k : Kind) → (k ≡ Container → ⊥) → eqb (code k) 5 ≡ false
code_five Null d = refl
code_five String d = refl
code_five Number d = refl
code_five False d = refl
code_five True d = refl
code_five Container d = absurd (d refl)
code_five Extension d = refl

-- A tree that is no container is its own strip, and has no name.
pub own_strip : (t : Tree) → (kind t ≡ Container → ⊥) → (stripped t ≡ t) × (unrepeated t ≡ true)
own_strip null d = (refl, refl)
own_strip (boolean x) d = (refl, refl)
own_strip (number b) d = (refl, refl)
own_strip (string b) d = (refl, refl)
own_strip (extension b) d = (refl, refl)
own_strip (array ts) d = absurd (d refl)
own_strip (object ms) d = absurd (d refl)

container_or : (t : Tree) → Dec (kind t ≡ Container)
container_or null = no (λ e. let z : ◌≡◌ {A = ℕ} 0 1 = cc in omega arith)
container_or (boolean true) = no (λ e. let z : ◌≡◌ {A = ℕ} 0 1 = cc in omega arith)
container_or (boolean false) = no (λ e. let z : ◌≡◌ {A = ℕ} 0 1 = cc in omega arith)
container_or (number b) = no (λ e. let z : ◌≡◌ {A = ℕ} 0 1 = cc in omega arith)
container_or (string b) = no (λ e. let z : ◌≡◌ {A = ℕ} 0 1 = cc in omega arith)
container_or (extension b) = no (λ e. let z : ◌≡◌ {A = ℕ} 0 1 = cc in omega arith)
container_or (array ts) = yes refl
container_or (object ms) = yes refl

-- An item that has the entry and the payload of a tree that can be stripped.
pub record TreeAt (s : Bytes) (x : ItemAt) (t : Tree) (a : ℕ) : Type 0 where
  pub entry : x.jentry ≡ entry_word (part t)
  pub bytes : bytes_at s x ≡ payload t
  pub short : length (payload t) ≤ 65536
  pub octets : Octets (payload t)
  pub valid : Valid t
  pub deep : depth t ≤ a
  pub allowed : a ≤ 64

module _ (s : Bytes) (x : ItemAt) (t : Tree) (a : ℕ) (h : TreeAt s x t a) where
  code_is : code_of x.jentry ≡ code (kind t)
  code_is = entry_code x.jentry t h.entry (omega (arith, h.short))

  is_five : kind t ≡ Container → eqb (code_of x.jentry) 5 ≡ true
  is_five k = rw (code_is, k)

  no_five : (kind t ≡ Container → ⊥) → eqb (code_of x.jentry) 5 ≡ false
  no_five d = rw code_is (code_five (kind t) d)

  reads_at : kind t ≡ Container → (b : ℕ) → depth t ≤ b → nested b (payload t) ≡ gives t
  reads_at k b d = (nested_reads b (payload t) t h.octets h.short).1 (rw k, h.valid, d)

  -- What is asked of it where it is a container.
  pub strippable_at : code_of x.jentry ≡ 5 → Strippable (bytes_at s x) a
  strippable_at e = go (container_or t)
    where
      go : Dec (kind t ≡ Container) → Strippable (bytes_at s x) a
      go (yes k) =
          rw h.bytes (record { readable = rw (reads_at k a h.deep); allowed = h.allowed; short = h.short })
      go (no d) =
          let z : false ≡ true = sym (no_five d) ∙ eq-eqb (code_of x.jentry) 5 e in
          let y : ◌≡◌ {A = ℕ} 0 1 = cc in
          let w : ⊥ = omega arith in
          absurd w

  -- Stripped, it has the entry and the payload of the tree stripped.
  pub stripped_at : (strip_item s x ≡ payload (stripped t)) × (strip_entry s x ≡ entry_word (part (stripped t))) × (unrepeated_item s x ≡ unrepeated t)
  unfolding stripped_of unrepeated_of
  stripped_at = go (container_or t)
    where
      go : Dec (kind t ≡ Container)
          → (strip_item s x ≡ payload (stripped t)) × (strip_entry s x ≡ entry_word (part (stripped t))) × (unrepeated_item s x ≡ unrepeated t)
      go (yes k) =
          let r : nested 64 (payload t) ≡ gives t = reads_at k 64 (omega (arith, h.deep, h.allowed)) in
          (rw (is_five k, h.bytes, r), rw (is_five k, h.bytes, r, kind_stripped t, k), rw (is_five k, h.bytes, r))
      go (no d) = (rw (no_five d, h.bytes, (own_strip t d).0), rw (no_five d, h.entry, (own_strip t d).0), rw (no_five d, (own_strip t d).1))

-- Storing that ended with a length.
pub ends_len : {r : Option ℕ} {len : ℕ} (f : Bool) (b o w : Bytes) → Strips r f b o w → r ≡ Some len → Strips (Some len) f b o w
ends_len f b o w h q = rw q at h

-- An item that is a container, as the code finds it: its payload is read, and can be stripped.
pub record NestedItem (s : Bytes) (x : ItemAt) (b : Bytes) (a : ℕ) : Type 0 where
  pub octets : Octets s
  pub payload_is : b ≡ bytes_at s x
  pub is_container : code_of x.jentry ≡ 5
  pub asked : code_of x.jentry ≡ 5 → Strippable (bytes_at s x) a

module _ {s : Bytes} {x : ItemAt} {b : Bytes} {a : ℕ} (item : NestedItem s x b a) where
  test : eqb (code_of x.jentry) 5 ≡ true
  test = eq-eqb (code_of x.jentry) 5 item.is_container

  pub item_asked : Strippable b a
  item_asked = rw item.payload_is (item.asked item.is_container)

  pub item_repeats : {r : Option ℕ} (o w : Bytes) → Strips r (unrepeated_of b) (stripped_of b) o w → r ≡ None
      → unrepeated_item s x ≡ false
  item_repeats {r} o w h q = let z : unrepeated_of b ≡ false = rw q at h in rw (test, ← item.payload_is) z

  pub item_short : {r : Option ℕ} {len : ℕ} (o w : Bytes) → Strips r (unrepeated_of b) (stripped_of b) o w → r ≡ Some len → len ≤ 65536
  item_short o w h q =
      let ob : Octets b = rw item.payload_is (octets_take (length_of x.jentry) (drop x.place s) (octets_drop x.place s item.octets)) in
      omega (arith, (ends_len (unrepeated_of b) (stripped_of b) o w h q).1, (stripped_tree b a ob item_asked).shorter, item_asked.short)

  -- It is stored, and its entry behind it.
  pub item_stripped : (at : Cursor) (o o₁ o₂ : Bytes) {r : Option ℕ} {len e : ℕ}
      → Strips r (unrepeated_of b) (stripped_of b) o₁ (patch o at.place (stripped_of b)) → r ≡ Some len
      → e ≡ entry_of (5 % 2 ^ 3) (len % 2 ^ 28) → o₂ ≡ patch o₁ at.jentry (be32 e) → at.jentry + 4 ≤ at.place
      → Strips (Some len) (unrepeated_item s x) (strip_item s x) o₂
      (patch (patch o at.jentry (be32 (strip_entry s x))) at.place (strip_item s x))
  item_stripped at o o₁ o₂ {r} {len} {e} h q ee e₂ ap' =
      let told = ends_len (unrepeated_of b) (stripped_of b) o₁ (patch o at.place (stripped_of b)) h q in
      let short = item_short o₁ (patch o at.place (stripped_of b)) h q in
      let hb = item.payload_is in
      let ez : e ≡ entry_of 5 (length (stripped_of b)) = ee ∙ omega (arith, told.1, short) in
      let lb = length_be32 (entry_of 5 (length (stripped_of b))) in (
        rw (test, ← hb) told.0,
        rw (test, ← hb) told.1,
        e₂
            ∙ rw (told.2, ez, test, ← hb)
            (patch_comm o at.jentry at.place (be32 (entry_of 5 (length (stripped_of b)))) (stripped_of b) (omega arith)),
      )

-- Anything else is stored as it is.
pub item_as_is : (s : Bytes) (x : ItemAt) (b : Bytes) (c : ℕ) (at : Cursor) (o o₁ o₂ : Bytes) → b ≡ bytes_at s x → c ≡ code_of x.jentry
    → (c ≡ 5 → ⊥) → o₁ ≡ patch o at.jentry (be32 x.jentry) → o₂ ≡ patch o₁ at.place b
    → Strips (Some (length b)) (unrepeated_item s x) (strip_item s x) o₂
    (patch (patch o at.jentry (be32 (strip_entry s x))) at.place (strip_item s x))
item_as_is s x b c at o o₁ o₂ hb hc d e₁ e₂ =
    let t : eqb (code_of x.jentry) 5 ≡ false = ne_eqb (code_of x.jentry) 5 (λ z. d (hc ∙ z)) in
    (rw t, rw (t, hb), e₂ ∙ rw (e₁, t, hb))

-- How storing ended, told of an equal buffer.
pub strips_as : (r : Option ℕ) (f : Bool) (b o w w' : Bytes) → w ≡ w' → Strips r f b o w → Strips r f b o w'
strips_as r f b o w w' e h = rw (← e) h

-- A member stored: the name's entry and the name, then the value as an item.
pub member_stripped : (s : Bytes) (m : MemberAt) (at : Places) (key o o₁ o₂ out : Bytes) (r : Option ℕ) → key ≡ bytes_at s m.key
    → o₁ ≡ patch o at.key_jentry (be32 m.key.jentry) → o₂ ≡ patch o₁ at.key key → at.val_jentry + 4 ≤ at.key
    → Strips r (unrepeated_item s m.val) (strip_item s m.val) out
    (patch (patch o₂ at.val_jentry (be32 (strip_entry s m.val))) at.val (strip_item s m.val))
    → Strips r (unrepeated_item s m.val) (strip_item s m.val) out
    (stored (name_in s) (strip_value s) (value_entry s) o at.key_jentry at.val_jentry at.key at.val m)
member_stripped s m at key o o₁ o₂ out r hk e₁ e₂ h st =
    strips_as r _ _ out _ _
    (ap (λ (x : Bytes). patch x at.val (strip_item s m.val))
    (rw (e₂, e₁, hk)
    (patch_comm (patch o at.key_jentry (be32 m.key.jentry)) at.val_jentry at.key (be32 (strip_entry s m.val)) (bytes_at s m.key)
    (omega (arith, length_be32 (strip_entry s m.val), h)))))
    st

-- What can be stripped is an array or an object.
pub neither : (t : Tree) (h : Result Header Refusal) → kind t ≡ Container → h ≡ head_of t → ((n : ℕ) → h ≡ Ok (Array n) → ⊥) → ((n : ℕ) → h ≡ Ok (Object n) → ⊥) → ⊥
neither null h k e a b = let z : ◌≡◌ {A = ℕ} 0 1 = cc in omega arith
neither (boolean true) h k e a b = let z : ◌≡◌ {A = ℕ} 0 1 = cc in omega arith
neither (boolean false) h k e a b = let z : ◌≡◌ {A = ℕ} 0 1 = cc in omega arith
neither (number x) h k e a b = let z : ◌≡◌ {A = ℕ} 0 1 = cc in omega arith
neither (string x) h k e a b = let z : ◌≡◌ {A = ℕ} 0 1 = cc in omega arith
neither (extension x) h k e a b = let z : ◌≡◌ {A = ℕ} 0 1 = cc in omega arith
neither (array ts) h k e a b = a (length (item_parts ts)) e
neither (object ms) h k e a b = b (length (member_parts ms)) e

module _ {C : Type 0} {s : Bytes} {a : ℕ} (o : Octets s) (h : Strippable s a) where
  no_other : ((n : ℕ) → header s ≡ Ok (Array n) → ⊥) → ((n : ℕ) → header s ≡ Ok (Object n) → ⊥) → C
  no_other d e = let w = (stripped_tree s a o h).contained in absurd (neither (stripped_tree s a o h).tree (header s) w.container w.head d e)

  pub no_scalar : {n : ℕ} → header s ≡ Ok (Scalar n) → C
  no_scalar {n} q =
      no_other (λ m e. let z : Ok (Scalar n) ≡ Ok (Array m) = sym q ∙ e in let y : ◌≡◌ {A = ℕ} 0 1 = cc in omega arith)
      (λ m e. let z : Ok (Scalar n) ≡ Ok (Object m) = sym q ∙ e in let y : ◌≡◌ {A = ℕ} 0 1 = cc in omega arith)

  pub no_refusal : {r : Refusal} → header s ≡ Err r → C
  no_refusal {r} q =
      no_other (λ m e. let z : Err r ≡ Ok (Array m) = sym q ∙ e in let y : ◌≡◌ {A = ℕ} 0 1 = cc in omega arith)
      (λ m e. let z : Err r ≡ Ok (Object m) = sym q ∙ e in let y : ◌≡◌ {A = ℕ} 0 1 = cc in omega arith)

-- A slice that is handed on as `&s[0..]` is the whole, and so is what comes back.
pub handed : (s : Bytes) → take (length s - 0) s ≡ s
handed s = rw (sub-zero (length s)) (take-length s)

pub handed_asks : {s : Bytes} {a : ℕ} {h : Result Header Refusal} → Strippable s a → header s ≡ h
    → Strippable (take (length s - 0) s) a × (header (take (length s - 0) s) ≡ h)
handed_asks {s} st e = rw (handed s) (st, e)

pub handed_back : (r : Option ℕ) (s o x : Bytes) (at : ℕ)
    → Strips r (unrepeated_of (take (length s - 0) s)) (stripped_of (take (length s - 0) s)) x (patch (take (length o - 0) o) at (stripped_of (take (length s - 0) s)))
    → Strips r (unrepeated_of s) (stripped_of s) (x ++ drop (length o - 0) o) (patch o at (stripped_of s))
handed_back r s o x at h =
    let k : Strips r (unrepeated_of s) (stripped_of s) x (patch o at (stripped_of s)) = rw (handed s, handed o) at h in
    rw (sub-zero (length o), drop-length o, append-nil x) k
