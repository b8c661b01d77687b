-- A record that reads as a tree is the bytes of that tree, and the tree is within the limits of depth and content.
use Prim.Native.Nat.{ℕ, zero, suc, ◌+◌, ◌/◌, ◌%◌, ◌^◌, ◌≤◌}
use native.Mathlib.Omega.{arith}
use mathlib.Core.Path.{◌≡◌, refl, ap, ap₂, sym, ◌∙◌}
use mathlib.Core.Bool.{Bool, true, false, not, cond}
use mathlib.Core.List.{List, [], ◌∷◌, ◌++◌, append_assoc, append-nil}
use lib.Dec.{T, leb, ltb, eqb, leb→le, eqb→eq, nltb→le}
use lib.ListN.{length, take, drop, length-take, length-drop, take-append-drop}
use Rattle.layout.specs.Bytes.{Bytes, be32, word, Octets}
use Rattle.layout.specs.Answer.{Answer, refused, gives, ◌>>=◌, require}
use Rattle.layout.specs.Entry.{sort_of, count_of}
use Rattle.layout.specs.Text.{utf8}
use Rattle.layout.specs.Tree.{Tree, null, boolean, number, string, extension, array, object, Items, none, item, names, pair}
use Rattle.layout.specs.Encode.{Part, entries, payloads, name_parts, item_parts, member_parts, part, record_of, encode}
use Rattle.layout.specs.Read.{header, text, number_in, payload_in, items_in, names_in, array_in, object_in, scalar_in, container_in, too_deep, nested, root_in, read}
use Rattle.layout.specs.Limits.{Valid, ValidItems, ValidMembers, depth, depth_items, depth_members}
use Rattle.layout.specs.declared.item.Kind.{Kind}
use Rattle.layout.specs.declared.item.Kind.TheVariants.{Null, String, Number, False, True, Container, Extension}
use Rattle.layout.specs.declared.refusal.Refusal.TheVariants.{Short, Layout, Limit}
use Rattle.layout.specs.declared.util.Header.{Header}
use Rattle.layout.specs.declared.util.Header.TheVariants.{Array, Object, Scalar}
use Rattle.layout.proofs.Words.{be32_word, octets_drop, octets_left, octets_right}
use Rattle.layout.proofs.Answers.{from_bind, from_require, gives_inj, refused_gives}
use Rattle.layout.proofs.Entries.{length_ok}
use Rattle.layout.proofs.Level.{AllFit, kinds, Named, string_kind, parts_sound, entry_sound}
use Rattle.std.specs.Prelude.{Ok, Err, Result}
use Rattle.layout.specs.declared.refusal.Refusal.{Refusal}

-- Headers.

-- What is known of a record by its header.
abbrev Heads : Bytes → Result Header Refusal → Type 0
Heads b (Err r) = Unit {0}
Heads b (Ok (Array n)) = be32 (2 ^ 31 + n) ++ drop 4 b ≡ b
Heads b (Ok (Object n)) = be32 (2 ^ 30 + n) ++ drop 4 b ≡ b
Heads b (Ok (Scalar n)) = be32 (2 ^ 29 + n) ++ drop 4 b ≡ b

pub heads : (b : Bytes) → Octets b → Heads b (header b)
unfolding header sort_of count_of
heads b o =
    go (ltb (length b) 4) (eqb (word b / 2 ^ 29) 4) (eqb (word b / 2 ^ 29) 2) (eqb (word b / 2 ^ 29) 1)
    (nltb→le (length b) 4) (eqb→eq (word b / 2 ^ 29) 4) (eqb→eq (word b / 2 ^ 29) 2) (eqb→eq (word b / 2 ^ 29) 1)
  where
    n : ℕ
    n = word b % 2 ^ 29

    whole : (tag w : ℕ) → w ≡ word b → tag ≡ w → 4 ≤ length b → be32 tag ++ drop 4 b ≡ b
    whole tag w e f l = rw (f, e) (be32_word b o l)

    go : (s x y z : Bool) → (T (not s) → 4 ≤ length b) → (T x → word b / 2 ^ 29 ≡ 4) → (T y → word b / 2 ^ 29 ≡ 2) → (T z → word b / 2 ^ 29 ≡ 1) →
        Heads b (cond s (Err Short) (cond x (Ok (Array n)) (cond y (Ok (Object n)) (cond z (Ok (Scalar n)) (Err Layout)))))
    go true x y z hs hx hy hz = tt
    go false true y z hs hx hy hz =
        let e : word b / 2 ^ 29 ≡ 4 = hx tt in
        whole (2 ^ 31 + n) (word b) refl (omega arith) (hs tt)
    go false false true z hs hx hy hz =
        let e : word b / 2 ^ 29 ≡ 2 = hy tt in
        whole (2 ^ 30 + n) (word b) refl (omega arith) (hs tt)
    go false false false true hs hx hy hz =
        let e : word b / 2 ^ 29 ≡ 1 = hz tt in
        whole (2 ^ 29 + n) (word b) refl (omega arith) (hs tt)
    go false false false false hs hx hy hz = tt

-- Payloads.

pub text_is : (b : Bytes) {s : Bytes} → text b ≡ gives s → s ≡ b
unfolding text
text_is b e = from_require _ _ _ e λ _ e₁. sym (gives_inj e₁)

pub text_valid : (b s : Bytes) → text b ≡ gives s → T (utf8 s)
unfolding text
text_valid b s e = from_require _ _ _ e λ h e₁. rw (← gives_inj {x = b} e₁) h

nil_of : (b : Bytes) → T (eqb (length b) 0) → b ≡ []
nil_of [] h = refl
nil_of (x ∷ b) h = let z : suc (length b) ≡ 0 = eqb→eq (length (x ∷ b)) 0 h in let w : ⊥ = omega arith in absurd w

-- What is shown of the tree `t` that was read from a payload: it is that part, valid, and at most `k` deep.
pub record Is (k : ℕ) (p : Part) (t : Tree) : Type 0 where
  pub same : part t ≡ p
  pub valid : Valid t
  pub deep : depth t ≤ k

-- A reader of nested containers.
abbrev Reads : ℕ → (Bytes → Answer Tree) → Type 0
Reads k inner = (b : Bytes) (t : Tree) → Octets b → inner b ≡ gives t → Is k (record { kind = Container; bytes = b }) t

module _ (k : ℕ) (inner : Bytes → Answer Tree) (r : Reads k inner) where
  payload_sound : (c : Kind) (b : Bytes) (t : Tree) → Octets b → T (length_ok c (length b)) → payload_in inner c b ≡ gives t →
      Is k (record { kind = c; bytes = b }) t
  unfolding number_in
  payload_sound Null b t o l e =
      rw (← gives_inj {x = null} e) (record { same = rw (nil_of b l); valid = tt; deep = omega arith })
  payload_sound String b t o l e =
      from_bind e λ s hs e₁.
      rw (← gives_inj {x = string s} e₁)
      (record { same = rw (text_is b hs); valid = text_valid b s hs; deep = omega arith })
  payload_sound Number b t o l e =
      from_require _ _ _ e λ h e₁.
      rw (← gives_inj {x = number b} e₁) (record { same = refl; valid = h; deep = omega arith })
  payload_sound False b t o l e =
      rw (← gives_inj {x = boolean false} e) (record { same = rw (nil_of b l); valid = tt; deep = omega arith })
  payload_sound True b t o l e =
      rw (← gives_inj {x = boolean true} e) (record { same = rw (nil_of b l); valid = tt; deep = omega arith })
  payload_sound Container b t o l e = r b t o e
  payload_sound Extension b t o l e =
      rw (← gives_inj {x = extension b} e) (record { same = refl; valid = tt; deep = omega arith })

  items_sound : (ps : List Part) (ts : Items) → Octets (payloads ps) → AllFit ps → items_in inner ps ≡ gives ts →
      (item_parts ts ≡ ps) × ValidItems ts × (depth_items ts ≤ k)
  items_sound [] ts o f e = rw (← gives_inj {x = none} e) (refl, tt, omega arith)
  items_sound (p ∷ ps) ts o f e =
      from_bind e λ t ht e₁.
      from_bind e₁ λ us hus e₂.
      let h = payload_sound p.kind p.bytes t (octets_left p.bytes (payloads ps) o) f.0.0 ht in
      let g = items_sound ps us (octets_right p.bytes (payloads ps) o) f.1 hus in
      let d : depth t ≤ k = h.deep in
      rw (← gives_inj {x = item t us} e₂) (ap₂ ◌∷◌ h.same g.0, (h.valid, g.1), omega (arith, g.2))

-- Names.

abbrev Texts : List Bytes → Type 0
Texts [] = Unit {0}
Texts (n ∷ ns) = T (utf8 n) × Texts ns

names_sound : (n : ℕ) (ps : List Part) (ns : List Bytes) → Named n (kinds ps) → names_in (take n ps) ≡ gives ns →
    (name_parts ns ≡ take n ps) × Texts ns
names_sound zero ps ns a e = rw (← gives_inj {x = []} e) (refl, tt)
names_sound (suc n) [] ns a e = rw (← gives_inj {x = []} e) (refl, tt)
names_sound (suc n) (p ∷ ps) ns a e =
    from_bind e λ m hm e₁.
    from_bind e₁ λ ms hms e₂.
    let r = names_sound n ps ms a.1 hms in
    rw (← gives_inj {x = m ∷ ms} e₂)
    (ap₂ ◌∷◌ (rw (text_is p.bytes hm, ← string_kind p.kind a.0)) r.0, (text_valid p.bytes m hm, r.1))

length_name_parts : (ns : List Bytes) → length (name_parts ns) ≡ length ns
length_name_parts [] = refl
length_name_parts (n ∷ ns) = ap suc (length_name_parts ns)

pub names_pair : (ns : List Bytes) (ts : Items) → length ns ≡ length (item_parts ts) → names (pair ns ts) ≡ ns
names_pair [] ts h = refl
names_pair (n ∷ ns) none h = let w : ⊥ = omega arith in absurd w
names_pair (n ∷ ns) (item t ts) h =
    let l : length ns ≡ length (item_parts ts) = omega arith in
    ap (λ r. n ∷ r) (names_pair ns ts l)

pub parts_pair : (ns : List Bytes) (ts : Items) → length ns ≡ length (item_parts ts) → member_parts (pair ns ts) ≡ item_parts ts
parts_pair [] none h = refl
parts_pair [] (item t ts) h = let w : ⊥ = omega arith in absurd w
parts_pair (n ∷ ns) none h = let w : ⊥ = omega arith in absurd w
parts_pair (n ∷ ns) (item t ts) h =
    let l : length ns ≡ length (item_parts ts) = omega arith in
    ap (λ r. part t ∷ r) (parts_pair ns ts l)

pair_valid : (ns : List Bytes) (ts : Items) → Texts ns → ValidItems ts → ValidMembers (pair ns ts) × (depth_members (pair ns ts) ≤ depth_items ts)
pair_valid [] ts x v = (tt, omega arith)
pair_valid (n ∷ ns) none x v = (tt, omega arith)
pair_valid (n ∷ ns) (item t ts) x v =
    let w = pair_valid ns ts x.1 v.1 in
    ((x.0, v.0, w.0), omega arith)

-- Containers.

pub payloads_append : (ps qs : List Part) → payloads (ps ++ qs) ≡ payloads ps ++ payloads qs
payloads_append [] qs = refl
payloads_append (p ∷ ps) qs = rw (payloads_append ps qs, append_assoc)

fits_drop : (n : ℕ) (ps : List Part) → AllFit ps → AllFit (drop n ps)
fits_drop zero ps f = f
fits_drop (suc n) [] f = f
fits_drop (suc n) (p ∷ ps) f = fits_drop n ps f.1

module _ (k : ℕ) (inner : Bytes → Answer Tree) (r : Reads k inner) (n : ℕ) (b : Bytes) (t : Tree) (o : Octets b) where
  array_sound : array_in inner n b ≡ gives t → Is (suc k) (record { kind = Container; bytes = be32 (2 ^ 31 + n) ++ b }) t
  array_sound e =
      from_bind e λ ps hps e₁.
      from_bind e₁ λ ts hts e₂.
      let s = parts_sound n 0 b ps o hps in
      let o₁ : Octets (payloads ps) = octets_right (entries ps) (payloads ps) (rw s.bytes o) in
      let h = items_sound k inner r ps ts o₁ s.fits hts in
      rw (← gives_inj {x = array ts} e₂)
      (record { same = rw (h.0, s.count, s.bytes); valid = h.1; deep = omega (arith, h.2) })

  object_sound : object_in inner n b ≡ gives t → Is (suc k) (record { kind = Container; bytes = be32 (2 ^ 30 + n) ++ b }) t
  object_sound e =
      from_bind e λ ps hps e₁.
      from_bind e₁ λ ns hns e₂.
      from_bind e₂ λ ts hts e₃.
      let s = parts_sound (n + n) n b ps o hps in
      let o₁ : Octets (payloads ps) = octets_right (entries ps) (payloads ps) (rw s.bytes o) in
      let o₂ : Octets (payloads (take n ps) ++ payloads (drop n ps)) =
      rw (← payloads_append (take n ps) (drop n ps), take-append-drop n ps) o₁ in
      let o₃ : Octets (payloads (drop n ps)) = octets_right (payloads (take n ps)) (payloads (drop n ps)) o₂ in
      let q = names_sound n ps ns s.named hns in
      let h = items_sound k inner r (drop n ps) ts o₃ (fits_drop n ps s.fits) hts in
      let c : length ps ≡ n + n = s.count in
      let l₁ : length (drop n ps) ≡ n = omega (arith, length-drop n ps) in
      let l₂ : length (take n ps) ≡ n = omega (arith, length-take n ps) in
      let l : length ns ≡ length (item_parts ts) =
      sym (length_name_parts ns) ∙ ap length q.0 ∙ l₂ ∙ sym l₁ ∙ sym (ap length h.0) in
      let v = pair_valid ns ts q.1 h.1 in
      rw (← gives_inj {x = object (pair ns ts)} e₃)
      (record {
        same = rw (names_pair ns ts l, parts_pair ns ts l, q.0, h.0, l₁, take-append-drop n ps, s.bytes);
        valid = v.0;
        deep = omega (arith, v.1, h.2);
      })

container_sound : (k : ℕ) (inner : Bytes → Answer Tree) → Reads k inner → (h : Result Header Refusal) (b : Bytes) (t : Tree) → Octets b → Heads b h →
    container_in inner h (drop 4 b) ≡ gives t → Is (suc k) (record { kind = Container; bytes = b }) t
container_sound k inner r (Err x) b t o w e = refused_gives e
container_sound k inner r (Ok (Scalar n)) b t o w e = refused_gives e
container_sound k inner r (Ok (Array n)) b t o w e = rw w at (array_sound k inner r n (drop 4 b) t (octets_drop 4 b o) e)
container_sound k inner r (Ok (Object n)) b t o w e = rw w at (object_sound k inner r n (drop 4 b) t (octets_drop 4 b o) e)

deep_sound : {C : Type 0} (h : Result Header Refusal) {t : Tree} → too_deep h ≡ gives t → C
deep_sound (Err x) e = refused_gives e
deep_sound (Ok (Scalar n)) e = refused_gives e
deep_sound (Ok (Array n)) e = refused_gives e
deep_sound (Ok (Object n)) e = refused_gives e

-- A nested record is the payload of the tree that it reads as.
pub nested_sound : (k : ℕ) → Reads k (nested k)
unfolding nested
nested_sound zero b t o e = deep_sound (header b) e
nested_sound (suc k) b t o e = container_sound k (nested k) (nested_sound k) (header b) b t o (heads b o) e

-- Records.

-- `read` by its rules: for proofs that take them apart, since `unfolding read` opens `◌>>=◌` too.
pub read_is : (b : Bytes) → read b ≡ (require (leb (length b) 65536) Limit >>= λ _. root_in (header b) (drop 4 b))
unfolding read
read_is b = refl

-- A tree whose part is of another kind than a container is encoded as a scalar.
scalar_encode : (t : Tree) (k : Kind) (b : Bytes) → part t ≡ record { kind = k; bytes = b } → (k ≡ Container → ⊥) →
    encode t ≡ record_of (2 ^ 29) (record { kind = k; bytes = b } ∷ [])
scalar_encode null k b e h = ap (λ p. record_of (2 ^ 29) (p ∷ [])) e
scalar_encode (boolean x) k b e h = ap (λ p. record_of (2 ^ 29) (p ∷ [])) e
scalar_encode (number x) k b e h = ap (λ p. record_of (2 ^ 29) (p ∷ [])) e
scalar_encode (string x) k b e h = ap (λ p. record_of (2 ^ 29) (p ∷ [])) e
scalar_encode (extension x) k b e h = ap (λ p. record_of (2 ^ 29) (p ∷ [])) e
scalar_encode (array x) k b e h = absurd (h (sym (ap (λ (p : Part). p.kind) e)))
scalar_encode (object x) k b e h = absurd (h (sym (ap (λ (p : Part). p.kind) e)))

pub container_encode : (t : Tree) (b : Bytes) → part t ≡ record { kind = Container; bytes = b } → encode t ≡ b
container_encode null b e = cc
container_encode (boolean true) b e = cc
container_encode (boolean false) b e = cc
container_encode (number x) b e = cc
container_encode (string x) b e = cc
container_encode (extension x) b e = cc
container_encode (array x) b e = ap (λ (p : Part). p.bytes) e
container_encode (object x) b e = ap (λ (p : Part). p.bytes) e

not_container : (k : Kind) (b : Bytes) (t : Tree) → payload_in (λ _. refused Layout) k b ≡ gives t → k ≡ Container → ⊥
not_container k b t e h = refused_gives (rw h at e)

-- What is shown of the tree of a record.
pub record Root (b : Bytes) (t : Tree) : Type 0 where
  pub bytes : encode t ≡ b
  pub valid : Valid t
  pub deep : depth t ≤ 64

scalar_sound : (n : ℕ) (b : Bytes) (t : Tree) → Octets b → be32 (2 ^ 29 + n) ++ drop 4 b ≡ b → scalar_in n (drop 4 b) ≡ gives t → Root b t
scalar_sound n b t o w e =
    from_require _ _ _ e λ hn e₁.
    from_require _ _ _ e₁ λ hl e₂.
    from_bind e₂ λ x hx e₃.
    from_require _ _ _ e₃ λ hs e₄.
    let c : Bytes = drop 4 b in
    let d : Bytes = drop 4 (drop 4 b) in
    let z : n ≡ 0 = eqb→eq n 0 hn in
    let y = entry_sound false (word (drop 4 b)) x hx in
    let s : x.len ≡ length (drop 4 (drop 4 b)) = eqb→eq x.len (length (drop 4 (drop 4 b))) hs in
    let ok : T (length_ok x.kind (length (drop 4 (drop 4 b)))) = rw (← s) y.1.0 in
    let oc : Octets (drop 4 b) = octets_drop 4 b o in
    let p = payload_sound 64 (λ _. refused Layout) (λ b t o e. refused_gives e) x.kind (drop 4 (drop 4 b)) t (octets_drop 4 (drop 4 b) oc) ok e₄ in
    let q : encode t ≡ be32 (2 ^ 29) ++ drop 4 b =
    rw (scalar_encode t x.kind (drop 4 (drop 4 b)) p.same (not_container x.kind (drop 4 (drop 4 b)) t e₄), ← s, ← y.0)
    (ap (λ l. be32 (2 ^ 29) ++ l) (ap₂ ◌++◌ (append-nil (be32 (word (drop 4 b)))) (append-nil (drop 4 (drop 4 b))) ∙ be32_word (drop 4 b) oc (leb→le 4 (length (drop 4 b)) hl))) in
    record { bytes = q ∙ rw z at w; valid = p.valid; deep = p.deep }

root_of : (b : Bytes) (t : Tree) → Is 64 (record { kind = Container; bytes = b }) t → Root b t
root_of b t h = record { bytes = container_encode t b h.same; valid = h.valid; deep = h.deep }

root_sound : (h : Result Header Refusal) (b : Bytes) (t : Tree) → Octets b → Heads b h → root_in h (drop 4 b) ≡ gives t → Root b t
root_sound (Err x) b t o w e = refused_gives e
root_sound (Ok (Scalar n)) b t o w e = scalar_sound n b t o w e
root_sound (Ok (Array n)) b t o w e = root_of b t (container_sound 63 (nested 63) (nested_sound 63) (Ok (Array n)) b t o w e)
root_sound (Ok (Object n)) b t o w e = root_of b t (container_sound 63 (nested 63) (nested_sound 63) (Ok (Object n)) b t o w e)

-- A readable record is the bytes of its tree.
pub read_sound : (b : Bytes) (t : Tree) → Octets b → read b ≡ gives t → Root b t × (length b ≤ 65536)
read_sound b t o e =
    from_require _ _ _ (sym (read_is b) ∙ e) λ l e₁.
    (root_sound (header b) b t o (heads b o) e₁, leb→le (length b) 65536 l)
