-- `pointers::token::token_place` meets its contract.
use mathlib.Core.Path.{◌≡◌}
use lib.ListN.{drop}
use Rattle.pointers.specs.Token.{counted}
use Rattle.pointers.proofs.Indexes.{meant}
use Rattle.pointers.proofs.token.token_place.Given as goal

-- What the token means is what the digits that are left write, behind those that write k.
abbrev pub invariant-loop-digit : goal.invariant-loop-digit
invariant-loop-digit l = meant l.token l.n ≡ counted l.k (drop l.digit-index l.token) l.n
