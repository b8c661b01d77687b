-- One level down: from a container in which the rest of a path finds an item to the part that the next step leads to.
use Prim.Native.Nat.{ℕ, suc, ◌+◌, ◌-◌, ◌≤◌, ◌<◌}
use native.Mathlib.Omega.{arith}
use mathlib.Core.Path.{◌≡◌, refl, ap, ap₂, sym, ◌∙◌}
use mathlib.Core.Bool.{true, false}
use mathlib.Core.List.{List, [], ◌∷◌}
use lib.ListN.{length, take, drop}
use Rattle.layout.specs.Bytes.{Bytes, Octets}
use Rattle.layout.specs.Answer.{gives}
use Rattle.layout.specs.Entry.{code_of, length_of, entry_at}
use Rattle.layout.specs.Tree.{Tree, null, boolean, number, string, extension, array, object, kind}
use Rattle.layout.specs.Encode.{payload, part}
use Rattle.layout.specs.Read.{header, nested}
use Rattle.layout.specs.Check.{checked}
use Rattle.layout.specs.Limits.{size}
use Rattle.layout.specs.Place.{part_at, parts_at}
use Rattle.layout.specs.declared.item.Kind.TheVariants.{Container}
use Rattle.layout.proofs.Fields.{length_lt}
use Rattle.layout.proofs.Words.{octets_take, octets_drop}
use Rattle.layout.proofs.Readables.{nested_reads, size_payload}
use Rattle.edits.specs.Keypath.{Step}
use Rattle.edits.specs.Find.{◌then◌, step_into, look_up}
use Rattle.edits.specs.Delete.{remains, anew, delete}
use Rattle.edits.specs.Steps.{code_key, step}
use Rattle.edits.specs.Spot.{spot}
use Rattle.edits.specs.Held.{search_in}
use Rattle.edits.specs.Remains.{remains_of}
use Rattle.layout.specs.Parts.{next_part}
use Rattle.layout.proofs.Carries.{part_on}
use Rattle.edits.specs.Way.{step_at, steps_from, way_behind, Cuts, Onward}
use Rattle.layout.specs.declared.parts.PartAt.{PartAt}
use Rattle.edits.specs.declared.delete.Way.{Way}
use Rattle.edits.proofs.Deletes.{then_some, some_inj, nothing_some}
use Rattle.edits.proofs.Kept.{delete_kept, step_inside}
use Rattle.edits.proofs.Tables.{Contains, contains, contains_more}
use Rattle.edits.proofs.Keys.{part_key_at}
use Rattle.edits.proofs.Spots.{spot_part, spot_none}
use Rattle.std.specs.Prelude.{Ok, Some, None, Option}

-- The next step, and those behind it.
pub steps_cons : (path : Bytes) (w : Way) → w.step.index < w.count → steps_from path w ≡ step_at path w.step ∷ steps_from path (way_behind path w)
unfolding parts_at
steps_cons path w h = let z : w.count - w.step.index ≡ suc (w.count - (w.step.index + 1)) = omega arith in rw z

-- Only a container has something inside.
pub inside_container : (p : Step) (t v : Tree) → step_into p t ≡ Some v → kind t ≡ Container
inside_container p null v e = nothing_some e
inside_container p (boolean x) v e = nothing_some e
inside_container p (number b) v e = nothing_some e
inside_container p (string b) v e = nothing_some e
inside_container p (extension b) v e = nothing_some e
inside_container p (array ts) v e = refl
inside_container p (object ms) v e = refl

-- The part that the next step leads to, where it is not the last.
pub record Below (s path : Bytes) (w : Way) (a : PartAt) (allowance : ℕ) : Type 0 where
  pub tree : Tree
  pub value : Tree
  pub after : Tree
  pub contained : Contains 64 s tree
  pub found : step_into (step_at path w.step) tree ≡ Some value
  pub container : kind value ≡ Container
  pub child : take (length_of (entry_at s a.index)) (drop a.place s) ≡ payload value
  pub child_within : a.place + length (payload value) ≤ length s
  pub allowed : 1 ≤ allowance
  pub cuts : Cuts (payload value) path (way_behind path w) (allowance - 1)
  pub inner : remains_of (payload value) (steps_from path (way_behind path w)) ≡ payload after
  pub made : kind after ≡ Container
  pub shorter : length (payload after) ≤ length (payload value)
  pub remains_is : remains_of s (steps_from path w) ≡ payload (anew (Some after) (step_at path w.step) tree)
  pub remains_shorter : length (remains_of s (steps_from path w)) ≤ length s

-- What is left of a container is a container.
pub anew_kind : (o : Option Tree) (p : Step) (t : Tree) → kind (anew o p t) ≡ kind t
anew_kind o p null = refl
anew_kind o p (boolean true) = refl
anew_kind o p (boolean false) = refl
anew_kind o p (number b) = refl
anew_kind o p (string b) = refl
anew_kind o p (extension b) = refl
anew_kind o p (array ts) = refl
anew_kind o p (object ms) = refl

-- Where a path of one step or more finds something, what is left is shorter or as long.
remains_no_longer : (p : Step) (q : List Step) (t x u : Tree) → look_up (p ∷ q) t ≡ Some x → remains (p ∷ q) t ≡ Some u → length (payload u) ≤ length (payload t)
remains_no_longer p q t x u e h =
    let d : delete (p ∷ q) t ≡ u = rw (e, some_inj h) in
    omega (arith, (delete_kept (p ∷ q) t).payload, ap size d, size_payload t, size_payload u)

below_by : (s path : Bytes) (w : Way) (a : PartAt) (allowance : ℕ) (p₂ : Step) (q₂ : List Step) → Octets s → Cuts s path w allowance
    → Onward s path w a → steps_from path (way_behind path w) ≡ p₂ ∷ q₂ → (t : Tree) → Contains allowance s t → Below s path w a allowance
unfolding remains_of search_in
below_by s path w a allowance p₂ q₂ o c h e₂ t k =
    let p : Step = step_at path w.step in
    let all : steps_from path w ≡ step_at path w.step ∷ p₂ ∷ q₂ = steps_cons path w c.more ∙ ap (λ (l : List Step). step_at path w.step ∷ l) e₂ in
    let k₆ : Contains 64 s t = contains_more allowance 64 s t o c.allowed k in
    let sp = spot_part t s (step_at path w.step) a k.bytes k.container k.short h.leads in
    let v : Tree = sp.tree in
    let x : Tree = c.finds.0 in
    let found_all : look_up (step_at path w.step ∷ p₂ ∷ q₂) t ≡ Some c.finds.0 = rw (all, k₆.reads) at c.finds.1 in
    let found_in : look_up (p₂ ∷ q₂) sp.tree ≡ Some c.finds.0 = rw sp.found at found_all in
    let step₂ = then_some (step_into p₂ sp.tree) (look_up q₂) c.finds.0 found_in in
    let kv : kind sp.tree ≡ Container = inside_container p₂ sp.tree step₂.0 step₂.1 in
    let ins = step_inside (step_at path w.step) t sp.tree sp.found in
    let len : length (payload sp.tree) ≤ length s = omega (arith, sp.within) in
    let ov : Octets (payload sp.tree) = rw (← sp.bytes) (octets_take (length (payload sp.tree)) (drop a.place s) (octets_drop a.place s o)) in
    let same : part sp.tree ≡ record { kind = Container; bytes = payload sp.tree } = rw kv in
    let rv : nested (allowance - 1) (payload sp.tree) ≡ gives sp.tree =
    (nested_reads (allowance - 1) (payload sp.tree) sp.tree ov (omega (arith, len, c.short))).1 (same, ins.valid k.valid, omega (arith, ins.deep, k.deep)) in
    let r₆ : nested 64 (payload sp.tree) ≡ gives sp.tree =
    (nested_reads 64 (payload sp.tree) sp.tree ov (omega (arith, len, c.short))).1 (same, ins.valid k.valid, omega (arith, ins.deep, k.deep, c.allowed)) in
    let li : remains_of s (steps_from path w) ≡ payload (anew (Some (anew (step_into p₂ sp.tree then remains q₂) p₂ sp.tree)) (step_at path w.step) t) =
    rw (all, k₆.reads, sp.found) in
    let ls : length (payload (anew (Some (anew (step_into p₂ sp.tree then remains q₂) p₂ sp.tree)) (step_at path w.step) t)) ≤ length (payload t) =
    remains_no_longer (step_at path w.step) (p₂ ∷ q₂) t c.finds.0
    (anew (Some (anew (step_into p₂ sp.tree then remains q₂) p₂ sp.tree)) (step_at path w.step) t) found_all (rw sp.found) in
    record {
      tree = t;
      value = sp.tree;
      after = anew (step_into p₂ sp.tree then remains q₂) p₂ sp.tree;
      contained = k₆;
      found = sp.found;
      container = kv;
      child = rw sp.len sp.bytes;
      child_within = sp.within;
      allowed = omega (arith, ins.deep, k.deep);
      cuts =
          record {
            readable = ap checked rv;
            allowed = omega (arith, c.allowed);
            short = omega (arith, len, c.short);
            more = h.more;
            few = c.few;
            near = omega (arith, c.near, length_lt (entry_at path w.step.index));
            carried = part_on path w.count w.step (next_part path w.step) c.carried refl;
            finds = (c.finds.0, rw (e₂, r₆) found_in);
          };
      inner = rw (e₂, r₆);
      made = anew_kind (step_into p₂ sp.tree then remains q₂) p₂ sp.tree ∙ kv;
      shorter = remains_no_longer p₂ q₂ sp.tree c.finds.0 (anew (step_into p₂ sp.tree then remains q₂) p₂ sp.tree) found_in refl;
      remains_is = li;
      remains_shorter = omega (arith, ap length li, ls, ap length k.bytes);
    }

pub below : (s path : Bytes) (w : Way) (a : PartAt) (allowance : ℕ) → Octets s → Cuts s path w allowance → Onward s path w a → Below s path w a allowance
below s path w a allowance o c h =
    let more : w.step.index + 1 < w.count = h.more in
    let e₂ = steps_cons path (way_behind path w) h.more in
    let k = contains allowance s o c.short c.readable in
    below_by s path w a allowance _ _ o c h e₂ k.0 k.1

-- What is left of a container in which the rest of a path finds an item is no longer than it.
pub cuts_shorter : (s path : Bytes) (w : Way) (allowance : ℕ) → Octets s → Cuts s path w allowance → length (remains_of s (steps_from path w)) ≤ length s
unfolding remains_of search_in
cuts_shorter s path w allowance o c =
    let k = contains allowance s o c.short c.readable in
    let k₆ : Contains 64 s k.0 = contains_more allowance 64 s k.0 o c.allowed k.1 in
    let all = steps_cons path w c.more in
    let p : Step = step_at path w.step in
    let q : List Step = steps_from path (way_behind path w) in
    let found : look_up (step_at path w.step ∷ steps_from path (way_behind path w)) k.0 ≡ Some c.finds.0 = rw (all, k₆.reads) at c.finds.1 in
    let u : Tree = anew (step_into (step_at path w.step) k.0 then remains (steps_from path (way_behind path w))) (step_at path w.step) k.0 in
    rw (all, k₆.reads)
    (omega (
      arith,
      remains_no_longer (step_at path w.step) (steps_from path (way_behind path w)) k.0 c.finds.0
          (anew (step_into (step_at path w.step) k.0 then remains (steps_from path (way_behind path w))) (step_at path w.step) k.0) found refl,
      ap length k₆.bytes,
    ))

-- Where the next step leads; the same as the code reads the step.
abbrev pub next_spot : Bytes → Bytes → Way → Option PartAt
next_spot s path w = spot (header s) s (step_at path w.step)

pub leads_is : (s path : Bytes) (w : Way) (e l : ℕ) (piece : Bytes) (r : Option PartAt) → e ≡ entry_at path w.step.index → l ≡ length_of e
    → piece ≡ take l (drop w.step.place path) → r ≡ spot (header s) s (step (code_key (code_of e) piece) piece)
    → r ≡ next_spot s path w
leads_is s path w e l piece r he hl hp hr =
    let q = part_key_at path w.step.index w.step.place e l piece he hl hp in
    let b : (part_at path w.step.index w.step.place).bytes ≡ piece = sym (hp ∙ rw (hl, he)) in
    hr ∙ ap (spot (header s) s) (sym (ap₂ step q b))

pub leads_nowhere : {C : Type 0} {s path : Bytes} {w : Way} {allowance : ℕ} → Octets s → Cuts s path w allowance
    → next_spot s path w ≡ None → C
unfolding search_in
leads_nowhere {C} {s} {path} {w} {allowance} o c q =
    let k = contains allowance s o c.short c.readable in
    let k₆ : Contains 64 s k.0 = contains_more allowance 64 s k.0 o c.allowed k.1 in
    let none = spot_none k.0 s (step_at path w.step) k₆.bytes k₆.container k₆.short q in
    let found : look_up (step_at path w.step ∷ steps_from path (way_behind path w)) k.0 ≡ Some c.finds.0 =
    rw (steps_cons path w c.more, k₆.reads) at c.finds.1 in
    nothing_some (rw none at found)

-- The last step.
pub last_step : (path : Bytes) (w : Way) → w.step.index + 1 ≡ w.count → steps_from path w ≡ step_at path w.step ∷ []
unfolding parts_at
last_step path w h = let z : w.count - w.step.index ≡ suc 0 = omega arith in rw z

-- Readable with as many levels as a record has.
pub whole_levels : {s path : Bytes} {w : Way} {allowance : ℕ} → Octets s → Cuts s path w allowance → checked (nested 64 s) ≡ Ok tt
whole_levels {s} {path} {w} {allowance} o c =
    let k = contains allowance s o c.short c.readable in
    ap checked (contains_more allowance 64 s k.0 o c.allowed k.1).reads
