-- Sound trees have equal values exactly where they are equal, and sound records exactly where their bytes are.
use native.Mathlib.Omega.{arith}
use mathlib.Core.Path.{◌≡◌, refl, ap, ap₂, sym, ◌∙◌, subst}
use mathlib.Core.Logic.{◌⊎◌, inl, inr, ⊎_elim, ◌↔◌}
use mathlib.Core.List.{List, [], ◌∷◌}
use Rattle.layout.specs.Bytes.{Bytes, Octets}
use Rattle.layout.specs.Answer.{gives}
use Rattle.layout.specs.Tree.{Tree, null, boolean, number, string, extension, array, object, Items, none, item, Members, empty, member, names}
use Rattle.layout.specs.Encode.{encode}
use Rattle.layout.specs.Read.{read}
use Rattle.layout.specs.Sound.{◌≺◌, Rising, Sound, SoundItems, SoundMembers}
use Rattle.layout.specs.Value.{Taken, Same, SameItems, SameMembers}
use Rattle.layout.proofs.Decoding.{read_sound}
use Rattle.layout.proofs.Answers.{gives_inj}

pub ≺-irrefl : (a : Bytes) → a ≺ a → ⊥
≺-irrefl [] h = h
≺-irrefl (x ∷ a) h = ⊎_elim (λ l. omega arith) (λ e. ≺-irrefl a e.1) h

pub ≺-trans : (a b c : Bytes) → a ≺ b → b ≺ c → a ≺ c
≺-trans [] [] c h k = absurd h
≺-trans [] (y ∷ b) [] h k = absurd k
≺-trans [] (y ∷ b) (z ∷ c) h k = tt
≺-trans (x ∷ a) [] c h k = absurd h
≺-trans (x ∷ a) (y ∷ b) [] h k = absurd k
≺-trans (x ∷ a) (y ∷ b) (z ∷ c) h k =
    ⊎_elim
    (λ l. inl (⊎_elim (λ m. omega arith) (λ m. omega (arith, m.0)) k))
    (λ e. ⊎_elim (λ m. inl (omega (arith, e.0))) (λ m. inr (e.0 ∙ m.0, ≺-trans a b c e.1 m.1)) k)
    h

abbrev pub In : Bytes → List Bytes → Type 0
In m [] = ⊥
In m (n ∷ ns) = (m ≡ n) ⊎ In m ns

pub rising_tail : (n : Bytes) (ns : List Bytes) → Rising (n ∷ ns) → Rising ns
rising_tail n [] h = tt
rising_tail n (m ∷ ns) h = h.1

pub rising_all : (n : Bytes) (ns : List Bytes) → Rising (n ∷ ns) → (m : Bytes) → In m ns → n ≺ m
rising_all n [] h m i = absurd i
rising_all n (x ∷ ns) h m i =
    ⊎_elim (λ (e : m ≡ x). subst (λ y. n ≺ y) (sym e) h.0) (λ j. ≺-trans n x m h.0 (rising_all x ns h.1 m j)) i

pub taken_in : (n : Bytes) (t : Tree) (ms r : Members) → Taken n t ms r → In n (names ms)
taken_in n t empty r h = h
taken_in n t (member m u ms) r h = ⊎_elim (λ e. inl e.0) (λ e. inr (taken_in n t ms e.0 e.2)) h

pub taken_names : (n : Bytes) (t : Tree) (ms r : Members) → Taken n t ms r → (m : Bytes) → In m (names ms) → (m ≡ n) ⊎ In m (names r)
taken_names n t empty r h m i = absurd h
taken_names n t (member x u ms) r h m i =
    ⊎_elim
    (λ e. ⊎_elim (λ j. inl (j ∙ sym e.0)) (λ j. inr (rw e.2 j)) i)
    (λ e. ⊎_elim (λ j. inr (rw e.1 (inl j)))
    (λ j. ⊎_elim (λ k. inl k) (λ k. inr (rw e.1 (inr k))) (taken_names n t ms e.0 e.2 m j)) i)
    h

-- The names of an equal object are the same.
pub same_names : (ms ns : Members) → SameMembers ms ns → (m : Bytes) → In m (names ns) → In m (names ms)
same_names empty ns h m i = rw h at i
same_names (member n t ms) ns h m i =
    ⊎_elim (λ e. inl e) (λ j. inr (same_names ms h.1 h.4 m j)) (taken_names n h.0 ns h.1 h.2 m i)

mutual
  same_eq : (t u : Tree) → Sound t → Sound u → Same t u → t ≡ u
  same_eq null u s r h = sym h
  same_eq (boolean x) u s r h = sym h
  same_eq (number b) u s r h = sym h
  same_eq (string b) u s r h = sym h
  same_eq (extension b) u s r h = sym h
  same_eq (array ts) u s r h =
      let r₁ : SoundItems h.0 = subst Sound h.1 r in
      ap array (same_items ts h.0 s r₁ h.2) ∙ sym h.1
  same_eq (object ms) u s r h =
      let r₁ : Sound (object h.0) = subst Sound h.1 r in
      ap object (same_members ms h.0 s.0 r₁.0 s.1 r₁.1 h.2) ∙ sym h.1

  same_items : (ts us : Items) → SoundItems ts → SoundItems us → SameItems ts us → ts ≡ us
  same_items none us s r h = sym h
  same_items (item t ts) us s r h =
      let r₁ : Sound h.0 × SoundItems h.1 = subst SoundItems h.2 r in
      ap₂ item (same_eq t h.0 s.0 r₁.0 h.3) (same_items ts h.1 s.1 r₁.1 h.4) ∙ sym h.2

  same_members : (ms ns : Members) → Rising (names ms) → Rising (names ns) → SoundMembers ms → SoundMembers ns → SameMembers ms ns → ms ≡ ns
  same_members empty ns p q s r h = sym h
  same_members (member n t ms) empty p q s r h = absurd h.2
  same_members (member n t ms) (member m u ns) p q s r h =
      ⊎_elim
      (λ e.
      let q₁ : Rising (names h.1) = rw e.2 (rising_tail m (names ns) q) in
      let r₁ : SoundMembers h.1 = rw e.2 r.1 in
      let r₀ : Sound h.0 = rw e.1 r.0 in
      let t₁ : t ≡ h.0 = same_eq t h.0 s.0 r₀ h.3 in
      let t₂ : ms ≡ h.1 = same_members ms h.1 (rising_tail n (names ms) p) q₁ s.1 r₁ h.4 in
      cc (e.0, e.1, e.2, t₁, t₂))
      (λ e.
      let i : In m (names h.1) = rw e.1 (inl refl) in
      let b₁ : n ≺ m = rising_all n (names ms) p m (same_names ms h.1 h.4 m i) in
      let b₂ : m ≺ n = rising_all m (names ns) q n (taken_in n h.0 ns e.0 e.2) in
      absurd (≺-irrefl n (≺-trans n m n b₁ b₂)))
      h.2

mutual
  pub same_refl : (t : Tree) → Same t t
  same_refl null = refl
  same_refl (boolean x) = refl
  same_refl (number b) = refl
  same_refl (string b) = refl
  same_refl (extension b) = refl
  same_refl (array ts) = (ts, refl, same_items_refl ts)
  same_refl (object ms) = (ms, refl, same_members_refl ms)

  same_items_refl : (ts : Items) → SameItems ts ts
  same_items_refl none = refl
  same_items_refl (item t ts) = (t, ts, refl, same_refl t, same_items_refl ts)

  pub same_members_refl : (ms : Members) → SameMembers ms ms
  same_members_refl empty = refl
  same_members_refl (member n t ms) = (t, ms, inl (refl, refl, refl), same_refl t, same_members_refl ms)

-- Sound trees have equal values where they are equal, and only there.
pub sound_same : (t u : Tree) → Sound t → Sound u → Same t u ↔ (t ≡ u)
sound_same t u s r = (same_eq t u s r, λ e. subst (λ v. Same t v) e (same_refl t))

-- Sound records have equal bytes exactly where their values are equal.
pub sound_bytes : (a b : Bytes) (t u : Tree) → Octets a → Octets b → read a ≡ gives t → read b ≡ gives u → Sound t → Sound u → Same t u ↔ (a ≡ b)
sound_bytes a b t u o p e f s r = (
  λ h. sym (read_sound a t o e).0.bytes ∙ ap encode (same_eq t u s r h) ∙ (read_sound b u p f).0.bytes,
  λ (h : a ≡ b). (sound_same t u s r).1 (gives_inj (sym e ∙ ap read h ∙ f)),
)
