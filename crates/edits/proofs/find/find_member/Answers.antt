-- `edits::find::find_member` meets its contract.
use mathlib.Core.Path.{◌≡◌, ap, ◌∙◌}
use borrow.Author.Tests.{tests}
use Prim.Native.Nat.{◌+◌}
use Rattle.std.proofs.Common.{rules}
use Rattle.layout.specs.Order.{same_bytes}
use Rattle.layout.specs.Parts.{names_of}
use Rattle.edits.specs.Spot.{first, spot_at}
use Rattle.edits.proofs.Parts.{first_lt, first_is}
use Rattle.edits.proofs.Finds.{member_value, name_bounds}
use Rattle.edits.proofs.find.find_member.Goals as goal
use Rattle.edits.proofs.find.find_member.Goals.{After-find_name}

name_found : (c : After-find_name)
    → c.find_name.result ≡ spot_at c.args.s.now (c.args.n + c.args.n) (first c.args.name.now (names_of c.args.s.now c.args.n))
name_found c =
    c.find_name.ensures (same_bytes c.args.name.now) (λ x b k. search (rules, tests))
    ∙ ap (spot_at c.args.s.now (c.args.n + c.args.n)) (first_is c.args.name.now (names_of c.args.s.now c.args.n))

pub value_of-requires : goal.value_of-requires
value_of-requires c = (c.requires, name_bounds _ _ _ _ (name_found c) c.requires (λ k. first_lt _ _ _ _ k))

pub returns : goal.returns
returns c = member_value _ _ _ _ (name_found (goal.at.returns c).After-find_name) _ c.value_of.ensures
