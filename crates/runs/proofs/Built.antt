-- Object build on values: the plain build of two values, and build of trees of equal values, give equal values or the same number.
use Prim.Native.Nat.{suc}
use native.Mathlib.Omega.{arith}
use mathlib.Core.Path.{◌≡◌, refl, ap, sym, ◌∙◌}
use mathlib.Core.Logic.{inl}
use mathlib.Core.Bool.{Bool, true, false, not}
use mathlib.Core.List.{List, ◌∷◌}
use lib.Dec.{T, eqb, eqb→eq, eqb-suc-suc}
use borrow.Author.Tests.{ne_eqb}
use Rattle.layout.specs.Bytes.{Bytes, Octets}
use Rattle.layout.specs.Answer.{Answer, gives, refused, ◌>>=◌, require}
use Rattle.layout.specs.Text.{utf8}
use Rattle.layout.specs.Tree.{Tree, null, boolean, number, string, extension, array, object, Items, none, item, Members, empty, member, names, pair}
use Rattle.layout.specs.Value.{Same, SameItems, SameMembers}
use Rattle.layout.specs.declared.refusal.Refusal.{Refusal}
use Rattle.layout.specs.declared.refusal.Refusal.TheVariants.{Kind, Repeated}
use Rattle.layout.proofs.Answers.{from_bind, from_require, gives_inj, refused_gives}
use Rattle.layout.proofs.Decoding.{names_pair}
use Rattle.builders.specs.Order.{in_order, distinct}
use Rattle.builders.specs.Build.{texts_of, count, build}
use Rattle.builders.proofs.Builds.{count_item_parts}
use Rattle.builders.proofs.Results.{is_true, count_texts}
use Rattle.builders.proofs.Proper.{Proper, ProperItems, ProperMembers}
use Rattle.runs.specs.Plain.{repeats, array_items, string_text, in_turn, plain_build}
use Rattle.runs.proofs.Named.{repeats_is}
use Rattle.runs.proofs.Alikes.{SameAnswer, finds_same, anew_same}

-- The names, the test of the counts, the pairs: what build does before it looks for a repeated name.
abbrev pairs : Answer (List Bytes) → Bool → Items → Answer Members
pairs texts counts us = texts >>= λ ns. require counts Kind >>= λ _. gives (pair ns us)

-- Names that are no strings give 7, and nothing else.
texts_refused : (ts : Items) (r : Refusal) → texts_of ts ≡ refused r → r ≡ Kind
unfolding ◌>>=◌
texts_refused none r e = refused_gives (sym e)
texts_refused (item null ts) r e = cc
texts_refused (item (boolean x) ts) r e = cc
texts_refused (item (number b) ts) r e = cc
texts_refused (item (string b) ts) r e = go (texts_of ts) (texts_refused ts) e
  where
    go : (a : Answer (List Bytes)) → ((q : Refusal) → a ≡ refused q → q ≡ Kind) → (a >>= λ ns. gives (b ∷ ns)) ≡ refused r → r ≡ Kind
    go (gives ns) h e = refused_gives (sym e)
    go (refused q) h e = h r e
texts_refused (item (extension b) ts) r e = cc
texts_refused (item (array us) ts) r e = cc
texts_refused (item (object ms) ts) r e = cc

unequal : (us : Items) (a : Answer (List Bytes)) → ((r : Refusal) → a ≡ refused r → r ≡ Kind) → pairs a false us ≡ refused Kind
unfolding ◌>>=◌ require
unequal us (gives ns) h = refl
unequal us (refused r) h = ap refused (h r refl)

one_more : (b : Bytes) (u : Tree) (us : Items) (a : Answer (List Bytes)) (c : Bool) (m : Answer Members) → pairs a c us ≡ m
    → pairs (a >>= λ ns. gives (b ∷ ns)) c (item u us) ≡ (m >>= λ ms. gives (member b u ms))
unfolding ◌>>=◌ require
one_more b u us (refused r) c m e = rw (← e) refl
one_more b u us (gives ns) true m e = rw (← e) refl
one_more b u us (gives ns) false m e = rw (← e) refl

pairs_in_turn : (ts us : Items) → pairs (texts_of ts) (eqb (count ts) (count us)) us ≡ in_turn ts us
unfolding ◌>>=◌ require
pairs_in_turn none none = refl
pairs_in_turn none (item u us) = rw (ne_eqb 0 (suc (count us)) (λ q. omega arith))
pairs_in_turn (item t ts) none = rw (ne_eqb (suc (count ts)) 0 (λ q. omega arith)) (unequal none (texts_of (item t ts)) (texts_refused (item t ts)))
pairs_in_turn (item null ts) (item u us) = refl
pairs_in_turn (item (boolean x) ts) (item u us) = refl
pairs_in_turn (item (number b) ts) (item u us) = refl
pairs_in_turn (item (string b) ts) (item u us) =
    rw (eqb-suc-suc (count ts) (count us)) (one_more b u us (texts_of ts) (eqb (count ts) (count us)) (in_turn ts us) (pairs_in_turn ts us))
pairs_in_turn (item (extension b) ts) (item u us) = refl
pairs_in_turn (item (array vs) ts) (item u us) = refl
pairs_in_turn (item (object ms) ts) (item u us) = refl

-- Two lists of members from equal values: the same names with equal values, or the same number.
abbrev SameTurn : Answer Members → Answer Members → Type 0
SameTurn (gives ms) (gives ns) = (names ns ≡ names ms) × SameMembers ms ns
SameTurn (gives ms) (refused r) = ⊥
SameTurn (refused q) (gives ns) = ⊥
SameTurn (refused q) (refused r) = q ≡ r

turn_same : (ts us ts' us' : Items) → SameItems ts ts' → SameItems us us' → SameTurn (in_turn ts us) (in_turn ts' us')
unfolding ◌>>=◌
turn_same none none ts' us' h k = rw (h, k) (refl, refl)
turn_same none (item u us) ts' us' h k = rw (h, k.2) refl
turn_same (item t ts) none ts' us' h k = rw (h.2, k) refl
turn_same (item null ts) (item u us) ts' us' h k = rw (h.2, h.3, k.2) refl
turn_same (item (boolean x) ts) (item u us) ts' us' h k = rw (h.2, h.3, k.2) refl
turn_same (item (number b) ts) (item u us) ts' us' h k = rw (h.2, h.3, k.2) refl
turn_same (item (string b) ts) (item u us) ts' us' h k =
    rw (h.2, h.3, k.2) (go (in_turn ts us) (in_turn h.1 k.1) (turn_same ts us h.1 k.1 h.4 k.4))
  where
    go : (m n : Answer Members) → SameTurn m n → SameTurn (m >>= λ ms. gives (member b u ms)) (n >>= λ ms. gives (member b k.0 ms))
    go (gives ms) (gives ns) w = (ap (λ (x : List Bytes). b ∷ x) w.0, (k.0, ns, inl (refl, refl, refl), k.3, w.1))
    go (gives ms) (refused r) w = absurd w
    go (refused q) (gives ns) w = absurd w
    go (refused q) (refused r) w = w
turn_same (item (extension b) ts) (item u us) ts' us' h k = rw (h.2, h.3, k.2) refl
turn_same (item (array vs) ts) (item u us) ts' us' h k = rw (h.2, h.3.1, k.2) refl
turn_same (item (object ms) ts) (item u us) ts' us' h k = rw (h.2, h.3.1, k.2) refl

-- Build, from the pairs on.
abbrev built : Members → Answer Tree
built ms = require (distinct (names ms)) Repeated >>= λ _. gives (object (in_order ms))

build_turn : (ts us : Items) → build (array ts) (array us) ≡ (in_turn ts us >>= built)
unfolding build ◌>>=◌ require
build_turn ts us =
    rw (← pairs_in_turn ts us)
    (go (texts_of ts) (eqb (count ts) (count us))
    (λ ns e c. names_pair ns us (count_texts ts ns e ∙ eqb→eq (count ts) (count us) c ∙ count_item_parts us)))
  where
    go : (a : Answer (List Bytes)) (c : Bool) → ((ns : List Bytes) → a ≡ gives ns → T c → names (pair ns us) ≡ ns)
        → (a >>= λ ns. require c Kind >>= λ _. require (distinct ns) Repeated >>= λ _. gives (object (in_order (pair ns us)))) ≡ (pairs a c us >>= built)
    go (refused r) c h = refl
    go (gives ns) false h = refl
    go (gives ns) true h = rw (h ns refl tt) refl

arrays_same : (ts us ts' us' : Items) → SameItems ts ts' → SameItems us us'
    → SameAnswer (plain_build (array ts) (array us)) (build (array ts') (array us'))
unfolding plain_build ◌>>=◌ require
arrays_same ts us ts' us' h k = rw (build_turn ts' us') (go (in_turn ts us) (in_turn ts' us') (turn_same ts us ts' us' h k))
  where
    test : (ms ns : Members) (d : Bool) → distinct (names ms) ≡ d → SameMembers ms ns
        → SameAnswer (require d Repeated >>= λ _. gives (object ms)) (require d Repeated >>= λ _. gives (object (in_order ns)))
    test ms ns true e w = anew_same ms ns e (finds_same ms ns w e)
    test ms ns false e w = refl

    go : (m n : Answer Members) → SameTurn m n
        → SameAnswer (m >>= λ ms. require (not (repeats ms)) Repeated >>= λ _. gives (object ms)) (n >>= built)
    go (gives ms) (gives ns) w = rw (repeats_is ms, w.0) (test ms ns (distinct (names ms)) refl w.1)
    go (gives ms) (refused r) w = absurd w
    go (refused q) (gives ns) w = absurd w
    go (refused q) (refused r) w = w

pub build_same : (t u t' u' : Tree) → Same t t' → Same u u' → SameAnswer (plain_build t u) (build t' u')
unfolding build plain_build ◌>>=◌
build_same null u t' u' h k = rw h refl
build_same (boolean x) u t' u' h k = rw h refl
build_same (number b) u t' u' h k = rw h refl
build_same (string b) u t' u' h k = rw h refl
build_same (extension b) u t' u' h k = rw h refl
build_same (object ms) u t' u' h k = rw h.1 refl
build_same (array ts) null t' u' h k = rw (h.1, k) refl
build_same (array ts) (boolean x) t' u' h k = rw (h.1, k) refl
build_same (array ts) (number b) t' u' h k = rw (h.1, k) refl
build_same (array ts) (string b) t' u' h k = rw (h.1, k) refl
build_same (array ts) (extension b) t' u' h k = rw (h.1, k) refl
build_same (array ts) (object ms) t' u' h k = rw (h.1, k.1) refl
build_same (array ts) (array us) t' u' h k = rw (h.1, k.1) (arrays_same ts us h.0 k.0 h.2 k.2)

-- ---- the result is proper

turn_proper : (ts us : Items) (ms : Members) → ProperItems ts → ProperItems us → in_turn ts us ≡ gives ms → ProperMembers ms
turn_proper none none ms p q e = rw (← gives_inj {x = empty} e) tt
turn_proper none (item u us) ms p q e = refused_gives e
turn_proper (item t ts) none ms p q e = refused_gives e
turn_proper (item t ts) (item u us) ms p q e =
    from_bind e λ n hn e₁. from_bind e₁ λ ns hm e₂.
    rw (← gives_inj {x = member n u ns} e₂) (name_proper t n p.0 hn, q.0, turn_proper ts us ns p.1 q.1 hm)
  where
    name_proper : (t : Tree) (n : Bytes) → Proper t → string_text t ≡ gives n → T (utf8 n) × Octets n
    name_proper null n p e = refused_gives e
    name_proper (boolean x) n p e = refused_gives e
    name_proper (number b) n p e = refused_gives e
    name_proper (string b) n p e = rw (← gives_inj {x = b} e) p
    name_proper (extension b) n p e = refused_gives e
    name_proper (array ts) n p e = refused_gives e
    name_proper (object ms) n p e = refused_gives e

items_proper : (t : Tree) (ts : Items) → Proper t → array_items t ≡ gives ts → ProperItems ts
items_proper null ts p e = refused_gives e
items_proper (boolean x) ts p e = refused_gives e
items_proper (number b) ts p e = refused_gives e
items_proper (string b) ts p e = refused_gives e
items_proper (extension b) ts p e = refused_gives e
items_proper (array us) ts p e = rw (← gives_inj {x = us} e) p
items_proper (object ms) ts p e = refused_gives e

pub build_proper : (t u v : Tree) → Proper t → Proper u → plain_build t u ≡ gives v → Proper v
unfolding plain_build
build_proper t u v p q e =
    from_bind e λ ts ht e₁. from_bind e₁ λ us hu e₂. from_bind e₂ λ ms hm e₃. from_require (not (repeats ms)) Repeated (λ _. gives (object ms)) e₃ λ d e₄.
    let is : object ms ≡ v = gives_inj e₄ in
    rw (← is) (
      sym (repeats_is ms) ∙ is_true (not (repeats ms)) d,
      turn_proper ts us ms (items_proper t ts p ht) (items_proper u us q hu) hm,
    )
