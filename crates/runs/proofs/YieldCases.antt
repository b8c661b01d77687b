-- Worked edits of a record whose names do not rise: what the statement of demand 2 says of them.
use mathlib.Core.Path.{◌≡◌, refl, subst₂}
use mathlib.Core.List.{[], ◌++◌}
use lib.ListN.{replicate}
use Rattle.layout.specs.Bytes.{Bytes, be32}
use Rattle.layout.specs.Tree.{null}
use Rattle.layout.specs.Order.{order, same_bytes}
use Rattle.layout.specs.Ended.{result}
use Rattle.builders.specs.Order.{has}
use Rattle.runs.specs.declared.call.Edit.TheVariants.{Delete, Strip}
use Rattle.runs.specs.Call.{outcome}
use Rattle.runs.specs.Account.{value, edited, entered}
use Rattle.runs.specs.Demand2.{Yields, SeenAs}
use Rattle.runs.proofs.Yields.{demand_2, demand_2_seen}
use Rattle.runs.proofs.Samples.{true_b, true_b_value, unsorted, sorted, unsorted_once, name_a, name_c}
use Rattle.std.specs.Prelude.{Ok, Some}

-- {"b":true,"a":null} without a name that is not there: the record's own bytes, unsorted as they are.
none_gone : outcome Delete unsorted [] name_c 22 ≡ result unsorted
unfolding outcome be32 order same_bytes has
none_gone = refl

-- Without "a", and without its null: {"b":true}.
a_gone : outcome Delete unsorted [] name_a 22 ≡ result true_b
unfolding outcome be32 order same_bytes has
a_gone = refl

nulls_gone : outcome Strip unsorted [] [] 13 ≡ result true_b
unfolding outcome be32 order same_bytes has
nulls_gone = refl

-- What the plain edit makes of the second, from the value in the other order, and that the bytes have this value.
a_left : entered 22 (edited Delete sorted null name_a) ≡ value true_b_value
unfolding edited
a_left = refl

a_yields : Yields (result true_b) (value true_b_value)
a_yields =
    subst₂ Yields a_gone a_left (demand_2.each_yields Delete unsorted [] name_a 22 sorted null unsorted_once (λ k. absurd k))

-- The same as it is seen, in a buffer of 22 bytes of 255: 13 of them are filled, and the last nine stay.
abbrev lent : Bytes
lent = replicate 22 255

a_seen : SeenAs (Ok (Some 13)) lent (true_b ++ replicate 9 255) (value true_b_value)
unfolding outcome be32 order same_bytes has edited
a_seen =
    demand_2_seen Delete unsorted [] name_a sorted null unsorted_once (λ k. absurd k) (Ok (Some 13)) lent (true_b ++ replicate 9 255)
    (record { answer = refl; bytes = refl })
