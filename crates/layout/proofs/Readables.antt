-- Readable records and trees within the limits correspond one to one; lengths of records.
use Prim.Native.Nat.{ℕ, ◌+◌, ◌*◌, ◌^◌, ◌≤◌, ◌<◌}
use native.Mathlib.Omega.{arith}
use mathlib.Core.Path.{◌≡◌, refl, ap, sym, ◌∙◌}
use mathlib.Core.Logic.{◌↔◌}
use mathlib.Core.List.{List, [], ◌∷◌, ◌++◌}
use lib.ListN.{length, length-append}
use Rattle.layout.specs.Bytes.{Bytes, be32, Octets}
use Rattle.layout.specs.Answer.{Answer, gives}
use Rattle.layout.specs.Tree.{Tree, null, boolean, number, string, extension, array, object, Items, none, item, Members, empty, member, names, kind}
use Rattle.layout.specs.Encode.{Part, entries, payloads, name_parts, payload, item_parts, member_parts, part, scalar, record_of, encode}
use Rattle.layout.specs.Read.{payload_in, nested, read}
use Rattle.layout.specs.Limits.{Valid, depth, size, size_items, size_members, record_length, Readable}
use Rattle.layout.specs.declared.item.Kind.{Kind}
use Rattle.layout.specs.declared.item.Kind.TheVariants.{Container}
use Rattle.layout.proofs.Words.{length_be32}
use Rattle.layout.proofs.Level.{entries_length}
use Rattle.layout.proofs.Decoding.{nested_sound, read_sound, payloads_append}
use Rattle.layout.proofs.Encoding.{names_count, payload_complete, read_encode}

pub record_of_length : (w : ℕ) (ps : List Part) → length (record_of w ps) ≡ 4 + 4 * length ps + length (payloads ps)
record_of_length w ps =
    omega (
      arith,
      length-append (be32 w) (entries ps ++ payloads ps),
      length_be32 w,
      length-append (entries ps) (payloads ps),
      entries_length ps,
    )

mutual
  pub size_payload : (t : Tree) → length (payload t) ≡ size t
  size_payload null = refl
  size_payload (boolean x) = refl
  size_payload (number b) = refl
  size_payload (string b) = refl
  size_payload (extension b) = refl
  size_payload (array ts) =
      omega (arith, record_of_length (2 ^ 31 + length (item_parts ts)) (item_parts ts), size_items_sum ts)
  size_payload (object ms) =
      let np : List Part = name_parts (names ms) in
      let mp : List Part = member_parts ms in
      omega (
        arith,
        record_of_length (2 ^ 30 + length mp) (np ++ mp),
        length-append np mp,
        names_count ms,
        ap length (payloads_append np mp),
        length-append (payloads np) (payloads mp),
        size_members_sum ms,
      )

  size_items_sum : (ts : Items) → 4 * length (item_parts ts) + length (payloads (item_parts ts)) ≡ size_items ts
  size_items_sum none = refl
  size_items_sum (item t ts) =
      omega (arith, length-append (payload t) (payloads (item_parts ts)), size_payload t, size_items_sum ts)

  size_members_sum : (ms : Members) →
      8 * length (member_parts ms) + length (payloads (name_parts (names ms))) + length (payloads (member_parts ms)) ≡ size_members ms
  size_members_sum empty = refl
  size_members_sum (member n t ms) =
      omega (
        arith,
        length-append (payload t) (payloads (member_parts ms)),
        length-append n (payloads (name_parts (names ms))),
        size_payload t,
        size_members_sum ms,
      )

scalar_length : (t : Tree) → length (scalar t) ≡ 8 + size t
scalar_length t =
    omega (arith, record_of_length (2 ^ 29) (part t ∷ []), length-append (payload t) [], size_payload t)

-- The length of a tree's record is the sum that `record_length` says.
pub length_encode : (t : Tree) → length (encode t) ≡ record_length t
length_encode null = scalar_length null
length_encode (boolean x) = scalar_length (boolean x)
length_encode (number b) = scalar_length (number b)
length_encode (string b) = scalar_length (string b)
length_encode (extension b) = scalar_length (extension b)
length_encode (array ts) = size_payload (array ts)
length_encode (object ms) = size_payload (object ms)

-- A record reads as `t` exactly where it is the bytes of `t`, and `t` is within the limits.
pub reads : (b : Bytes) (t : Tree) → Octets b → (read b ≡ gives t) ↔ ((encode t ≡ b) × Readable t)
reads b t o = (
  λ e.
      let h = read_sound b t o e in
      let l : record_length t ≤ 65536 = omega (arith, length_encode t, ap length h.0.bytes, h.1) in
      (h.0.bytes, (h.0.valid, h.0.deep, l)),
  λ h.
      let l : length (encode t) ≤ 65536 = omega (arith, length_encode t, h.1.2) in
      ap read (sym h.0) ∙ read_encode t h.1.0 h.1.1 l,
)

-- Two records with one tree are one record.
pub read_unique : (a b : Bytes) (t : Tree) → Octets a → Octets b → read a ≡ gives t → read b ≡ gives t → a ≡ b
read_unique a b t o p e f = sym (read_sound a t o e).0.bytes ∙ (read_sound b t p f).0.bytes

-- The same for a nested container: its bytes read with `k` levels left exactly where it nests at most `k` deep.
container_of : (f : Bytes → Answer Tree) (k : Kind) (c b : Bytes) (t : Tree) → k ≡ Container → c ≡ b → payload_in f k c ≡ gives t → f b ≡ gives t
container_of f k c b t ek ec h = rw (ek, ec) at h

pub nested_reads : (k : ℕ) (b : Bytes) (t : Tree) → Octets b → length b ≤ 65536 →
    (nested k b ≡ gives t) ↔ ((part t ≡ record { kind = Container; bytes = b }) × Valid t × (depth t ≤ k))
nested_reads k b t o l = (
  λ e. let h = nested_sound k b t o e in (h.same, h.valid, h.deep),
  λ h.
      let ek : kind t ≡ Container = ap (λ (p : Part). p.kind) h.0 in
      let eb : payload t ≡ b = ap (λ (p : Part). p.bytes) h.0 in
      let s : length (payload t) < 2 ^ 28 = omega (arith, ap length eb) in
      container_of (nested k) (kind t) (payload t) b t ek eb (payload_complete t k h.1 h.2 s),
)
