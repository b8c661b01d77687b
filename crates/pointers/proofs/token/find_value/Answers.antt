-- `pointers::token::find_value` meets its contract.
use mathlib.Core.Path.{◌≡◌, sym, ap, ◌∙◌}
use borrow.Author.Tests.{tests}
use Prim.Native.Nat.{◌+◌}
use Rattle.std.proofs.Common.{rules}
use Rattle.layout.specs.Order.{same_bytes}
use Rattle.layout.specs.Parts.{names_of}
use Rattle.edits.specs.Spot.{first, spot_at}
use Rattle.edits.proofs.Parts.{first_lt, first_is}
use Rattle.edits.proofs.Finds.{name_bounds, member_value}
use Rattle.pointers.specs.Pointer.{undo}
use Rattle.pointers.proofs.Tokens.{undo_plain}
use Rattle.pointers.proofs.Searches.{name_step}
use Rattle.pointers.proofs.token.find_value.Goals as goal
use Rattle.pointers.proofs.token.find_value.Goals.{After-find_name}

pub returns-then-is_plain : goal.returns-then-is_plain
returns-then-is_plain c =
    rw (undo_plain c.args.token.now (sym c.is_plain.ensures ∙ c.if-is_plain.true))
    (name_step _ _ _ _ _ c.requires.1 c.encoded.ensures c.find_step.ensures)

name_found : (c : After-find_name)
    → c.find_name.result ≡ spot_at c.args.s.now (c.args.n + c.args.n) (first (undo c.args.token.now) (names_of c.args.s.now c.args.n))
name_found c =
    c.find_name.ensures (same_bytes (undo c.args.token.now)) (λ x b k. search (rules, tests))
    ∙ ap (spot_at c.args.s.now (c.args.n + c.args.n)) (first_is (undo c.args.token.now) (names_of c.args.s.now c.args.n))

pub value_of-requires : goal.value_of-requires
value_of-requires c = (c.requires.0, name_bounds _ _ _ _ (name_found c) c.requires.0 (λ k. first_lt _ _ _ _ k))

pub returns : goal.returns
returns c = member_value _ _ _ _ (name_found (goal.at.returns c).After-find_name) _ c.value_of.ensures
