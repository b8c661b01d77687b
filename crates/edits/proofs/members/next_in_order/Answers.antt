-- `edits::members::next_in_order` meets its contract.
use native.Mathlib.Omega.{arith}
use Rattle.edits.proofs.members.next_in_order.Goals as goal

pub next_searched-requires : goal.next_searched-requires
next_searched-requires c =
    let first = c.requires.1 c.if-ahead.false in
    omega (arith, c.requires.0.few, c.requires.0.key_jentry, c.requires.0.val_jentry, c.requires.0.key, c.requires.0.val, first)
