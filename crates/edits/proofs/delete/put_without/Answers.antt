-- `edits::delete::put_without` meets its contract.
use mathlib.Core.Path.{◌≡◌, sym, ap, ◌∙◌}
use mathlib.Core.Bool.{true}
use Rattle.layout.specs.Bytes.{Octets}
use Rattle.layout.specs.Read.{header}
use Rattle.layout.specs.Parts.{rises}
use Rattle.layout.specs.declared.util.Header.TheVariants.{Array, Object}
use Rattle.layout.proofs.Words.{slice_octets}
use Rattle.edits.proofs.Leds.{manner_array, manner_object, manner_search, no_manner, array_led, rising_led, stores_as}
use Rattle.edits.proofs.delete.put_without.Goals.{After-manner_of, In-Items, In-Rising, In-Unsorted}
use Rattle.edits.proofs.delete.put_without.Goals as goal
use Rattle.std.specs.Prelude.{Ok, Some}

octets : (c : After-manner_of) → Octets c.args.s.now
octets c = slice_octets c.args.s.now c.type_inv.s

an_array : (c : In-Items) → header c.args.s.now ≡ Ok (Array c.in-Items.n)
an_array c = manner_array c.args.s.now _ _ (sym (c.in-Some.is ∙ ap Some c.in-Items.is) ∙ c.manner_of.ensures)

a_rising_object : (c : In-Rising) → (header c.args.s.now ≡ Ok (Object c.in-Rising.n)) × (rises c.args.s.now c.in-Rising.n ≡ true)
a_rising_object c = manner_object c.args.s.now _ _ (sym (c.in-Some.is ∙ ap Some c.in-Rising.is) ∙ c.manner_of.ensures)

an_object : (c : In-Unsorted) → header c.args.s.now ≡ Ok (Object c.in-Unsorted.n)
an_object c = manner_search c.args.s.now _ _ (sym (c.in-Some.is ∙ ap Some c.in-Unsorted.is) ∙ c.manner_of.ensures)

pub put_array_without-requires : goal.put_array_without-requires
put_array_without-requires c =
    let r = array_led c.args.s.now _ c.args.part c.requires.2.0 (octets (goal.at.put_array_without-requires c).After-manner_of) c.requires.0 c.requires.1
    (an_array (goal.at.put_array_without-requires c).In-Items) c.requires.2.1 in
    (r.0.table, r.0.inside, c.requires.3)

pub put_object_without-requires : goal.put_object_without-requires
put_object_without-requires c =
    let is = a_rising_object (goal.at.put_object_without-requires c).In-Rising in
    let r = rising_led c.args.s.now _ c.args.part c.requires.2.0 (octets (goal.at.put_object_without-requires c).After-manner_of) c.requires.0 c.requires.1 is.0 is.1 c.requires.2.1 in
    (r.0.table, r.0.inside, r.1, c.requires.3)

pub put_sorted_without-requires : goal.put_sorted_without-requires
put_sorted_without-requires c = (c.requires.0, c.requires.1, an_object (goal.at.put_sorted_without-requires c).In-Unsorted, c.requires.2, c.requires.3)

pub returns-in-Items : goal.returns-in-Items
returns-in-Items c =
    λ p q.
    stores_as (array_led c.args.s.now _ c.args.part p (octets (goal.at.returns-in-Items c).After-manner_of) c.requires.0 c.requires.1 (an_array (goal.at.returns-in-Items c).In-Items) q).1
    c.put_array_without.ensures

pub returns-in-Rising : goal.returns-in-Rising
returns-in-Rising c =
    λ p q.
    let is = a_rising_object (goal.at.returns-in-Rising c).In-Rising in
    stores_as (rising_led c.args.s.now _ c.args.part p (octets (goal.at.returns-in-Rising c).After-manner_of) c.requires.0 c.requires.1 is.0 is.1 q).2
    c.put_object_without.ensures

pub returns-in-Unsorted : goal.returns-in-Unsorted
returns-in-Unsorted c = c.put_sorted_without.ensures

pub returns-in_default : goal.returns-in_default
returns-in_default c =
    λ p q.
    no_manner c.args.s.now _ (sym c.in_default.is ∙ c.manner_of.ensures) c.args.part p q
