-- `layout::every::part_passes`, `layout::every::parts_pass` and `layout::every::passes` meet their contracts.
-- They call each other; the number that falls is three times the allowance, and a place in the turn. The loop over the
-- parts keeps that all pass where those that are left do.
use Prim.Native.Nat.{◌+◌, ◌*◌}
use mathlib.Core.List.{map}
use mathlib.Core.Path.{◌≡◌}
use Rattle.layout.specs.Place.{parts_at}
use Rattle.layout.specs.Left.{left, part_shown}
use Rattle.layout.specs.EveryAt.{every_parts, every_at}
use Rattle.layout.proofs.every.+questions.Given as goal

abbrev pub decreases-part_passes : goal.decreases-part_passes
decreases-part_passes g l = 3 * l.allowance + 1

abbrev pub decreases-parts_pass : goal.decreases-parts_pass
decreases-parts_pass g l = 3 * l.allowance + 2

abbrev pub decreases-passes : goal.decreases-passes
decreases-passes g l = 3 * l.allowance

abbrev pub invariant-parts_pass-loop-part : goal.invariant-parts_pass-loop-part
invariant-parts_pass-loop-part g l =
    (goal.iterator-parts_pass-loop-part g).can_next l.part-iterator × (goal.iterator-parts_pass-loop-part g).is_finite l.part-iterator
    × (every_parts (g.Q.Question.asked l.question) (every_at (g.Q.Question.asked l.question) l.allowance) (parts_at l.s 0 l.start l.n)
    ≡ every_parts (g.Q.Question.asked l.question) (every_at (g.Q.Question.asked l.question) l.allowance) (map part_shown (left l.part-iterator)))
