-- The law of a walk: what a step hands out stands inside the slice.
use Prim.Native.Nat.{◌≤◌}
use mathlib.Core.Path.{◌≡◌, refl}
use native.Mathlib.Omega.{arith}
use lib.ListN.{length}
use Rattle.layout.specs.Bytes.{Bytes}
use Rattle.layout.specs.Walk.{array_step, object_step}
use Rattle.layout.specs.declared.refusal.Refusal.{Refusal}
use Rattle.layout.specs.declared.item.JsonbItem.{JsonbItem}
use Rattle.layout.specs.declared.iterator.ArrayIterator.{ArrayIterator}
use Rattle.layout.specs.declared.iterator.ObjectIterator.{ObjectIterator}
use Rattle.layout.specs.declared.iterator.ObjectMember.{ObjectMember}
use Rattle.layout.proofs.Numbered.{item_inside, value_inside}
use Rattle.std.specs.Prelude.{Ok, Err, Some, None, Result, Option, IfOk, IfSome}

pub item_placed : (s : Bytes) (w : ArrayIterator) (r : Result (Option (JsonbItem × ArrayIterator)) Refusal) → r ≡ array_step s w
    → IfOk r (λ o. IfSome o (λ f. f.0.place ≤ length s))
item_placed s w (Ok (Some f)) h = omega (arith, item_inside s w _ f.0 f.1 h refl)
item_placed s w (Ok None) h = tt
item_placed s w (Err e) h = tt

pub value_placed : (s : Bytes) (w : ObjectIterator) (r : Result (Option (ObjectMember × ObjectIterator)) Refusal) → r ≡ object_step s w
    → IfOk r (λ o. IfSome o (λ f. f.0.val.place ≤ length s))
value_placed s w (Ok (Some f)) h = omega (arith, value_inside s w _ f.0 f.1 h refl)
value_placed s w (Ok None) h = tt
value_placed s w (Err e) h = tt
