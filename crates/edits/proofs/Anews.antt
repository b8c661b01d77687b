-- A container with one of its parts written anew, as the code stores it.
use Prim.Native.Nat.{ℕ, suc, ◌+◌, ◌-◌, ◌%◌, ◌^◌, ◌≤◌}
use native.Mathlib.Omega.{arith}
use mathlib.Core.Path.{◌≡◌, refl, ap, sym, ◌∙◌}
use mathlib.Core.List.{List, [], ◌∷◌, ◌++◌}
use lib.ListN.{length, take, drop}
use lib.Seq.{take_at}
use Rattle.layout.specs.Bytes.{Bytes, Octets, be32, word_at}
use Rattle.layout.specs.Entry.{entry_of, length_of, entry_at}
use Rattle.layout.specs.Tree.{Tree}
use Rattle.layout.specs.Encode.{Part, entry_word, payload, part, record_of}
use Rattle.layout.specs.Check.{checked}
use Rattle.layout.specs.Patch.{patch}
use Rattle.layout.specs.declared.item.Kind.TheVariants.{Container}
use Rattle.layout.proofs.Answers.{gives_inj}
use Rattle.layout.proofs.Fields.{word_at_be32}
use Rattle.edits.specs.Delete.{anew}
use Rattle.layout.specs.Parts.{next_part, first_part, parts_end}
use Rattle.edits.specs.Cut.{Stores}
use Rattle.edits.specs.Way.{Cuts, Onward, step_at, steps_from, way_behind}
use Rattle.edits.specs.Manner.{InRuns}
use Rattle.edits.specs.Remains.{remains_of}
use Rattle.edits.specs.Runs.{Copied}
use Rattle.layout.specs.declared.parts.PartAt.{PartAt}
use Rattle.layout.specs.declared.parts.Cursor.{Cursor}
use Rattle.edits.specs.declared.delete.Way.{Way}
use Rattle.edits.proofs.Tables.{parted}
use Rattle.edits.proofs.Cuts.{IsPartAt, at_part, anew_stored}
use Rattle.edits.proofs.Leds.{Led, runs_led, stores_as}
use Rattle.edits.proofs.Onwards.{Below, below}
use Rattle.std.specs.Prelude.{Some}

drop_one : (l : List Part) (q : Part) (r : List Part) (k : ℕ) → length l ≡ k → drop (suc k) (l ++ (q ∷ r)) ≡ r
drop_one [] q r k e = rw (← e)
drop_one (x ∷ l) q r k e = rw (← e) (drop_one l q r (length l) refl)

-- A container to be written anew in runs; and the part and the way behind the part that is written anew.
pub record RunsAnew (s path : Bytes) (n : ℕ) (a : PartAt) (w : Way) (allowance : ℕ) : Type 0 where
  pub octets : Octets s
  pub cuts : Cuts s path w allowance
  pub onward : Onward s path w a
  pub in_runs : InRuns s n

pub record Behind (s path : Bytes) (a : PartAt) (w : Way) (next : PartAt) (w' : Way) : Type 0 where
  pub next_is : next ≡ next_part s a
  pub way_is : w' ≡ way_behind path w

module _ {s path : Bytes} {n : ℕ} {a : PartAt} {w : Way} {allowance : ℕ} (given : RunsAnew s path n a w allowance) where
  pub down : Below s path w a allowance
  down = below s path w a allowance given.octets given.cuts given.onward

  led : Led s n a (step_at path w.step)
  led =
      runs_led s n a (step_at path w.step) given.octets (ap checked down.contained.reads) given.cuts.short
      given.in_runs given.onward.leads

  pub here : IsPartAt s n a
  here = at_part s n a (parted s n given.octets led.table) led.inside

  -- The part that is put in its stead.
  abbrev pub new_part : Part
  new_part = record { kind = Container; bytes = payload down.after }

  same_tree : led.tree ≡ down.tree
  same_tree = gives_inj (sym led.contained.reads ∙ down.contained.reads)

  lefts : here.nth.left ≡ led.left
  lefts = sym here.nth.taken ∙ ap (take a.index) led.parts ∙ take_at led.left (part led.value ∷ led.right) a.index led.before

  rights : here.nth.right ≡ led.right
  rights = sym here.nth.dropped ∙ ap (drop (suc a.index)) led.parts ∙ drop_one led.left (part led.value) led.right a.index led.before

  head_word : word_at s 0 ≡ led.word
  head_word = ap (λ b. word_at b 0) (sym led.bytes) ∙ word_at_be32 led.word _ led.small

  new_is : part down.after ≡ new_part
  new_is = rw down.made

  pub remains_anew : remains_of s (steps_from path w) ≡ record_of (word_at s 0) (here.nth.left ++ (new_part ∷ here.nth.right))
  remains_anew =
      down.remains_is
      ∙ ap (λ (t : Tree). payload (anew (Some down.after) (step_at path w.step) t)) (sym same_tree)
      ∙ led.changed down.after
      ∙ rw (head_word, lefts, rights, new_is)

  -- The bytes that the nested call is given, and what it stores.
  module _ {next : PartAt} {w' : Way} (behind : Behind s path a w next w') where
    abbrev child : Bytes
    child = take (next.place - a.place) (drop a.place s)

    child_bytes : child ≡ payload down.value
    child_bytes =
        let z : next.place - a.place ≡ length_of (entry_at s a.index) = rw behind.next_is (omega arith) in
        rw z down.child

    pub child_cuts : Cuts child path w' (allowance - 1)
    child_cuts = rw (child_bytes, behind.way_is) down.cuts

    child_remains : remains_of child (steps_from path w') ≡ payload down.after
    child_remains = rw (child_bytes, behind.way_is) down.inner

    module _ {len p : ℕ} {b₂ b₃ : Bytes} (stores : Stores len b₂ b₃ p (remains_of child (steps_from path w'))) where
      pub child_short : a.place + len ≤ length s
      child_short = omega (arith, stores.length_is, ap length child_remains, down.shorter, down.child_within)

    module _ {b b₁ b₂ b₃ b₄ b₅ : Bytes} {at v len e : ℕ} {at₁ end : Cursor} {first last : PartAt} (start rest : Cursor) where
      pub part_anew_stored : first ≡ first_part n → last ≡ parts_end s n
          → v ≡ word_at s 0 → b₁ ≡ patch b at (be32 v) → start.jentry ≡ at + 4 → start.place ≡ at + first.place
          → Copied s first a start at₁ b₁ b₂
          → Stores len b₂ b₃ at₁.place (remains_of child (steps_from path w'))
          → e ≡ entry_of (5 % 2 ^ 3) (len % 2 ^ 28) → b₄ ≡ patch b₃ at₁.jentry (be32 e)
          → rest.jentry ≡ at₁.jentry + 4 → rest.place ≡ at₁.place + len
          → Copied s next last rest end b₄ b₅
          → Stores (end.place - at) b b₅ at (remains_of s (steps_from path w))
      part_anew_stored hf hl ev e₁ sj sp h₁ l ee e₄ rj rp h₂ =
          let ln : len ≡ length (payload down.after) = l.length_is ∙ ap length child_remains in
          let ez : e ≡ entry_word new_part = ee ∙ omega (arith, ln, child_short l, given.cuts.short) in
          stores_as (remains_anew ∙ ap (λ (x : ℕ). record_of x (here.nth.left ++ (new_part ∷ here.nth.right))) (sym ev))
          (anew_stored s n a here b b₁ b₂ b₃ b₄ b₅ at v len e start at₁ rest end next new_part e₁ sj (rw hf at sp) (rw hf at h₁)
          (stores_as (sym child_remains) l) ez e₄ rj rp behind.next_is (rw hl at h₂))
