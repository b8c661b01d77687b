-- What `is_sorted_by` says of an iterator whose list is known: whether a test holds of each item and the next.
use mathlib.Core.Path.{◌≡◌, sym, subst}
use mathlib.Core.Bool.{Bool, true, false, ◌&&◌}
use mathlib.Core.Logic.{inl, inr}
use mathlib.Core.List.{List, [], ◌∷◌}
use denote.Ref.{Bor}
use denote.Param.Members.{Mut}
use Rattle.std.specs.Prelude.{Option, Some, None}
use Rattle.std.specs.Fn.{CalledAtTwo}
use Rattle.std.specs.Iterator.{AlwaysYields, YieldsThen}
use Rattle.std.specs.Iterator.Order.{OrderTurn, ChecksNeighbours}
use Rattle.std.specs.List.{FoldsTo}
use Rattle.std.specs.Option.{MatchOption}
use Rattle.std.proofs.lemmas.Iterator.{YieldsList}

module _ {B : Type 0} (test : B → B → Bool) where
  abbrev pub follows : B → List B → Bool
  follows x [] = true
  follows x (y ∷ ys) = test x y && follows y ys

  abbrev pub neighbours : List B → Bool
  neighbours [] = true
  neighbours (x ∷ xs) = follows x xs

module _ {S A B F : Type 0} (steps : S → Option A → S → Type 0) {v : A → B} {g : Mut F (Bor A × (Bor A × Unit {0})) Bool}
    (test : B → B → Bool) (f : F)
    (closure : (x y : A) (r : Bool) (q : F) → CalledAtTwo g f x y r q → (q ≡ f) × (r ≡ test (v x) (v y))) where
  onward : (x : A) (xs : List A) (ys : List B) (s u : S) (o : Option A) (q : F × A) (r : Bool)
      → YieldsThen steps s xs o u → FoldsTo {P = F × A} (OrderTurn g) (f, x) xs q
      → MatchOption o (r ≡ true) (λ y. (r ≡ false) × ((w : F) × CalledAtTwo g q.0 q.1 y false w))
      → AlwaysYields steps v s ys → r ≡ follows test (v x) ys
  onward x [] [] s u None q r a e m all = m
  onward x [] (y ∷ ys) s u None q r a e m all = absurd (all.0 u (subst (λ w. steps w None u) (sym a.1) a.2))
  onward x [] [] s u (Some z) q r a e m all = absurd (all z u (subst (λ w. steps w (Some z) u) (sym a.1) a.2))
  onward x [] (y ∷ ys) s u (Some z) q r a e m all =
      let was = all.1 z u (subst (λ w. steps w (Some z) u) (sym a.1) a.2) in
      let no = closure x z false m.1.0 (subst (λ (p : F × A). CalledAtTwo g p.0 p.1 z false m.1.0) (sym e) m.1.1) in
      rw (m.0, ← was.0, ← no.1)
  onward x (z ∷ zs) [] s u o q r a e m all = absurd (all z a.1.0 a.1.1)
  onward x (z ∷ zs) (y ∷ ys) s u o q r a e m all =
      let was = all.1 z a.1.0 a.1.1 in
      let yes = closure x z true e.0.0 e.1.0 in
      let next : FoldsTo {P = F × A} (OrderTurn g) (f, z) zs q =
      subst (λ (p : F × A). FoldsTo {P = F × A} (OrderTurn g) p zs q) (λ i. (yes.0 i, e.1.1 i)) e.2 in
      let rest : r ≡ follows test (v z) ys = onward z zs ys a.1.0 u o q r (a.0, a.1.2, a.2) next m was.1 in
      rw (← was.0, ← yes.1) rest

  from_first : (ys : List B) (s : S) (r : Bool) → ChecksNeighbours g steps s f r → AlwaysYields steps v s ys → r ≡ neighbours test ys
  from_first [] s r (inl d) all = d.1
  from_first (y ∷ ys) s r (inl d) all = absurd (all.0 d.0.0 (subst (λ w. steps w None d.0.0) (sym d.0.1.1) d.0.1.2))
  from_first [] s r (inr d) all = absurd (all d.0 d.5.1.0 d.5.1.1)
  from_first (y ∷ ys) s r (inr d) all =
      let was = all.1 d.0 d.5.1.0 d.5.1.1 in
      rw (← was.0) (onward d.0 d.1 ys d.5.1.0 d.3 d.2 d.4 r (d.5.0, d.5.1.2, d.5.2) d.6 d.7 was.1)

  pub sorted_from_yields_List : {s : S} {ys : List B} (r : Bool) → ChecksNeighbours g steps s f r → YieldsList steps v s ys → r ≡ neighbours test ys
  sorted_from_yields_List {s} {ys} r d e = from_first ys s r d e.runs
