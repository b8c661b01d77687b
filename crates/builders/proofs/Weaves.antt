-- What the loop stores that writes the members: four columns in a row, which with a header are the object's record.
use Prim.Native.Nat.{ℕ, ◌+◌, ◌*◌, ◌^◌, ◌≤◌}
use native.Mathlib.Omega.{arith}
use mathlib.Core.Path.{◌≡◌, refl, sym, ap, ap₂, ◌∙◌}
use mathlib.Core.List.{List, [], ◌∷◌, ◌++◌, append_assoc}
use lib.ListN.{length, length-append}
use Rattle.layout.specs.Bytes.{Bytes, be32}
use Rattle.layout.specs.Tree.{Members, object, names}
use Rattle.layout.specs.Encode.{Part, entries, payloads, name_parts, member_parts, encode}
use Rattle.layout.specs.Patch.{patch}
use Rattle.layout.proofs.Patches.{patch_append, patch_comm}
use Rattle.layout.proofs.Words.{length_be32}
use Rattle.layout.proofs.Level.{entries_length}
use Rattle.layout.proofs.Decoding.{payloads_append}
use Rattle.layout.proofs.Encoding.{names_count}
use Rattle.builders.specs.Weave.{stored, woven, column}
use Rattle.layout.specs.declared.parts.MemberAt.{MemberAt}
use Rattle.builders.proofs.Stands.{Stand, stand_key_entries, stand_val_entries, stand_names, stand_values}

-- What is stored next, behind what was stored.
pub patch_then : (o o₁ o₂ : Bytes) (at p : ℕ) (a b : Bytes) → o₁ ≡ patch o at a → o₂ ≡ patch o₁ p b → p ≡ at + length a
    → o₂ ≡ patch o at (a ++ b)
patch_then o o₁ o₂ at p a b e₁ e₂ e₃ = rw (e₂, e₁, e₃) (patch_append o at a b)

-- Of two, three or four regions in a row, the first grows at its end.
module _ (o : Bytes) (p : ℕ) (u t : Bytes) (q : ℕ) (v : Bytes) where
  slip : p + length u + length t ≤ q → patch (patch (patch o p u) q v) (p + length u) t ≡ patch (patch o p (u ++ t)) q v
  slip h = patch_comm (patch o p u) (p + length u) q t v h ∙ ap (λ (l : Bytes). patch l q v) (patch_append o p u t)

  slip₂ : (r : ℕ) (w : Bytes) → p + length u + length t ≤ q → p + length u + length t ≤ r
      → patch (patch (patch (patch o p u) q v) r w) (p + length u) t ≡ patch (patch (patch o p (u ++ t)) q v) r w
  slip₂ r w h k = patch_comm (patch (patch o p u) q v) (p + length u) r t w k ∙ ap (λ (l : Bytes). patch l r w) (slip h)

  slip₃ : (r : ℕ) (w : Bytes) (m : ℕ) (x : Bytes) → p + length u + length t ≤ q → p + length u + length t ≤ r
      → p + length u + length t ≤ m
      → patch (patch (patch (patch (patch o p u) q v) r w) m x) (p + length u) t ≡ patch (patch (patch (patch o p (u ++ t)) q v) r w) m x
  slip₃ r w m x h k j = patch_comm (patch (patch (patch o p u) q v) r w) (p + length u) m t x j ∙ ap (λ (l : Bytes). patch l m x) (slip₂ r w h k)

-- Four regions in a row, each of which grows at its end.
module _ (o : Bytes) (a b c d : ℕ) (x xs y ys z zs w ws : Bytes) where
  four_grow : a + length (x ++ xs) ≤ b → b + length (y ++ ys) ≤ c → c + length (z ++ zs) ≤ d
      → patch (patch (patch (patch (patch (patch (patch (patch o a x) b y) c z) d w) (a + length x) xs) (b + length y) ys) (c + length z) zs) (d + length w) ws
      ≡ patch (patch (patch (patch o a (x ++ xs)) b (y ++ ys)) c (z ++ zs)) d (w ++ ws)
  four_grow h k l =
      let h₁ : a + length x + length xs ≤ b = omega (arith, length-append x xs) in
      let k₁ : b + length y + length ys ≤ c = omega (arith, length-append y ys) in
      let l₁ : c + length z + length zs ≤ d = omega (arith, length-append z zs) in
      let h₂ : a + length x + length xs ≤ c = omega arith in
      let h₃ : a + length x + length xs ≤ d = omega arith in
      let k₂ : b + length y + length ys ≤ d = omega arith in
      let a₁ : Bytes = patch o a (x ++ xs) in
      let b₁ : Bytes = patch a₁ b (y ++ ys) in
      ap (λ (r : Bytes). patch (patch (patch r (b + length y) ys) (c + length z) zs) (d + length w) ws) (slip₃ o a x xs b y c z d w h₁ h₂ h₃)
      ∙ ap (λ (r : Bytes). patch (patch r (c + length z) zs) (d + length w) ws) (slip₂ a₁ b y ys c z d w k₁ k₂)
      ∙ ap (λ (r : Bytes). patch r (d + length w) ws) (slip b₁ c z zs d w l₁)
      ∙ patch_append (patch b₁ c (z ++ zs)) d w ws

abbrev key_entry : MemberAt → Bytes
key_entry m = be32 m.key.jentry

module _ (name value : MemberAt → Bytes) (entry : MemberAt → ℕ) where
  abbrev val_entry : MemberAt → Bytes
  val_entry m = be32 (entry m)

  -- Where the regions do not overlap, the loop stores the four columns.
  woven_is : (o : Bytes) (a b c d : ℕ) (ms : List MemberAt)
      → a + length (column key_entry ms) ≤ b → b + length (column val_entry ms) ≤ c → c + length (column name ms) ≤ d
      → woven name value entry o a b c d ms
      ≡ patch (patch (patch (patch o a (column key_entry ms)) b (column val_entry ms)) c (column name ms)) d (column value ms)
  unfolding woven column patch
  woven_is o a b c d [] h k l = refl
  woven_is o a b c d (m ∷ ms) h k l =
      let x = length_be32 m.key.jentry in
      let y = length_be32 (entry m) in
      let xs = length-append (key_entry m) (column key_entry ms) in
      let ys = length-append (val_entry m) (column val_entry ms) in
      let zs = length-append (name m) (column name ms) in
      ap₂ (λ (i j : ℕ). woven name value entry (stored name value entry o a b c d m) (a + i) (b + j) (c + length (name m)) (d + length (value m)) ms) (sym x) (sym y)
      ∙ woven_is (stored name value entry o a b c d m) (a + length (key_entry m)) (b + length (val_entry m)) (c + length (name m)) (d + length (value m)) ms
      (omega arith) (omega arith) (omega arith)
      ∙ four_grow o a b c d (key_entry m) (column key_entry ms) (val_entry m) (column val_entry ms) (name m) (column name ms) (value m) (column value ms) h k l

-- A header and four regions in a row are one.
five_append : (o : Bytes) (at : ℕ) (h x y z w : Bytes) (p q r s : ℕ) → p ≡ at + length h → q ≡ p + length x → r ≡ q + length y
    → s ≡ r + length z
    → patch (patch (patch (patch (patch o at h) p x) q y) r z) s w ≡ patch o at (h ++ ((x ++ y) ++ (z ++ w)))
five_append o at h x y z w p q r s e₁ e₂ e₃ e₄ =
    let l₁ = length-append h x in
    let l₂ = length-append (h ++ x) y in
    let l₃ = length-append ((h ++ x) ++ y) z in
    patch_then _ _ _ at s (((h ++ x) ++ y) ++ z) w
    (patch_then _ _ _ at r ((h ++ x) ++ y) z
    (patch_then _ _ _ at q (h ++ x) y
    (patch_then o _ _ at p h x refl refl e₁)
    refl (omega arith))
    refl (omega arith))
    refl (omega arith)
    ∙ ap (patch o at) (simp append_assoc)

pub entries_append : (ps qs : List Part) → entries (ps ++ qs) ≡ entries ps ++ entries qs
entries_append [] qs = refl
entries_append (p ∷ ps) qs = rw (entries_append ps qs, append_assoc)

-- The header first, then the members: the record of the object.
pub woven_record : (name value : MemberAt → Bytes) (entry : MemberAt → ℕ) (xs : List MemberAt) (ms : Members) (o o₁ o₂ : Bytes) (at n a b c d : ℕ)
    → Stand name value entry xs ms → n ≡ length (member_parts ms)
    → a ≡ at + 4 → b ≡ a + 4 * n → c ≡ b + 4 * n → d ≡ c + length (payloads (name_parts (names ms)))
    → o₁ ≡ patch o at (be32 (2 ^ 30 + n)) → o₂ ≡ woven name value entry o₁ a b c d xs
    → o₂ ≡ patch o at (encode (object ms))
woven_record name value entry xs ms o o₁ o₂ at n a b c d h en ha hb hc hd e₁ e₂ =
    let ks : List Part = name_parts (names ms) in
    let vs : List Part = member_parts ms in
    let ea = stand_key_entries name value entry xs ms h in
    let eb = stand_val_entries name value entry xs ms h in
    let ec = stand_names name value entry xs ms h in
    let ed = stand_values name value entry xs ms h in
    let la : length (entries ks) ≡ 4 * n = rw en (entries_length ks ∙ ap (λ (i : ℕ). 4 * i) (names_count ms)) in
    let lb : length (entries vs) ≡ 4 * n = rw en (entries_length vs) in
    let fa : a + length (column key_entry xs) ≤ b = rw ea (omega arith) in
    let fb : b + length (column (val_entry name value entry) xs) ≤ c = rw eb (omega arith) in
    let fc : c + length (column name xs) ≤ d = rw ec (omega arith) in
    e₂
    ∙ woven_is name value entry o₁ a b c d xs fa fb fc
    ∙ rw (e₁, ea, eb, ec, ed)
    (five_append o at (be32 (2 ^ 30 + n)) (entries ks) (entries vs) (payloads ks) (payloads vs) a b c d
    (omega (arith, length_be32 (2 ^ 30 + n))) (omega arith) (omega arith) (omega arith)
    ∙ rw (en, entries_append, payloads_append))
