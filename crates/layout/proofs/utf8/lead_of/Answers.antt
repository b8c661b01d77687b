-- `layout::utf8::lead_of` meets its contract.
use Rattle.layout.specs.Text.{lead}
use Rattle.layout.proofs.utf8.lead_of.Goals as goal

pub returns-then-is_between : goal.returns-then-is_between
unfolding lead
returns-then-is_between c = rw (← c.is_between.ensures, c.if-is_between.true)

pub returns-then-is_between-2 : goal.returns-then-is_between-2
unfolding lead
returns-then-is_between-2 c = rw (← c.is_between.ensures, c.if-is_between.false, ← c.is_between-2.ensures, c.if-is_between-2.true)

pub returns-then-is_between-3 : goal.returns-then-is_between-3
unfolding lead
returns-then-is_between-3 c = rw (← c.is_between.ensures, c.if-is_between.false, ← c.is_between-2.ensures, c.if-is_between-2.false, ← c.is_between-3.ensures, c.if-is_between-3.true)

pub returns-then-is_between-4 : goal.returns-then-is_between-4
unfolding lead
returns-then-is_between-4 c =
    rw (
      ← c.is_between.ensures,
      c.if-is_between.false,
      ← c.is_between-2.ensures,
      c.if-is_between-2.false,
      ← c.is_between-3.ensures,
      c.if-is_between-3.false,
      ← c.is_between-4.ensures,
      c.if-is_between-4.true,
    )

pub returns-then-is_between-5 : goal.returns-then-is_between-5
unfolding lead
returns-then-is_between-5 c =
    rw (
      ← c.is_between.ensures,
      c.if-is_between.false,
      ← c.is_between-2.ensures,
      c.if-is_between-2.false,
      ← c.is_between-3.ensures,
      c.if-is_between-3.false,
      ← c.is_between-4.ensures,
      c.if-is_between-4.false,
      ← c.is_between-5.ensures,
      c.if-is_between-5.true,
    )

pub returns-then-is_between-6 : goal.returns-then-is_between-6
unfolding lead
returns-then-is_between-6 c =
    rw (
      ← c.is_between.ensures,
      c.if-is_between.false,
      ← c.is_between-2.ensures,
      c.if-is_between-2.false,
      ← c.is_between-3.ensures,
      c.if-is_between-3.false,
      ← c.is_between-4.ensures,
      c.if-is_between-4.false,
      ← c.is_between-5.ensures,
      c.if-is_between-5.false,
      ← c.is_between-6.ensures,
      c.if-is_between-6.true,
    )

pub returns-then-is_between-7 : goal.returns-then-is_between-7
unfolding lead
returns-then-is_between-7 c =
    rw (
      ← c.is_between.ensures,
      c.if-is_between.false,
      ← c.is_between-2.ensures,
      c.if-is_between-2.false,
      ← c.is_between-3.ensures,
      c.if-is_between-3.false,
      ← c.is_between-4.ensures,
      c.if-is_between-4.false,
      ← c.is_between-5.ensures,
      c.if-is_between-5.false,
      ← c.is_between-6.ensures,
      c.if-is_between-6.false,
      ← c.is_between-7.ensures,
      c.if-is_between-7.true,
    )

pub returns-then-is_between-8 : goal.returns-then-is_between-8
unfolding lead
returns-then-is_between-8 c =
    rw (
      ← c.is_between.ensures,
      c.if-is_between.false,
      ← c.is_between-2.ensures,
      c.if-is_between-2.false,
      ← c.is_between-3.ensures,
      c.if-is_between-3.false,
      ← c.is_between-4.ensures,
      c.if-is_between-4.false,
      ← c.is_between-5.ensures,
      c.if-is_between-5.false,
      ← c.is_between-6.ensures,
      c.if-is_between-6.false,
      ← c.is_between-7.ensures,
      c.if-is_between-7.false,
      ← c.is_between-8.ensures,
      c.if-is_between-8.true,
    )

pub returns-then-is_between-9 : goal.returns-then-is_between-9
unfolding lead
returns-then-is_between-9 c =
    rw (
      ← c.is_between.ensures,
      c.if-is_between.false,
      ← c.is_between-2.ensures,
      c.if-is_between-2.false,
      ← c.is_between-3.ensures,
      c.if-is_between-3.false,
      ← c.is_between-4.ensures,
      c.if-is_between-4.false,
      ← c.is_between-5.ensures,
      c.if-is_between-5.false,
      ← c.is_between-6.ensures,
      c.if-is_between-6.false,
      ← c.is_between-7.ensures,
      c.if-is_between-7.false,
      ← c.is_between-8.ensures,
      c.if-is_between-8.false,
      ← c.is_between-9.ensures,
      c.if-is_between-9.true,
    )

pub returns : goal.returns
unfolding lead
returns c =
    rw (
      ← c.is_between.ensures,
      c.if-is_between.false,
      ← c.is_between-2.ensures,
      c.if-is_between-2.false,
      ← c.is_between-3.ensures,
      c.if-is_between-3.false,
      ← c.is_between-4.ensures,
      c.if-is_between-4.false,
      ← c.is_between-5.ensures,
      c.if-is_between-5.false,
      ← c.is_between-6.ensures,
      c.if-is_between-6.false,
      ← c.is_between-7.ensures,
      c.if-is_between-7.false,
      ← c.is_between-8.ensures,
      c.if-is_between-8.false,
      ← c.is_between-9.ensures,
      c.if-is_between-9.false,
    )
