-- `values::value::is_same_nested` and what it calls in a cycle meet their contracts.
use Prim.Native.Nat.{ℕ, ◌^◌, ◌<◌}
use native.Mathlib.Omega.{arith}
use mathlib.Core.Path.{◌≡◌, ◌∙◌, sym}
use mathlib.Core.List.{List, [], map}
use mathlib.Core.Logic.{inl, inr}
use denote.Enum.Bare.{differs_true, differs_false}
use Rattle.std.proofs.Common.{◌⊎◌, ap, rules}
use Rattle.layout.specs.Entry.{kind_of}
use Rattle.layout.specs.Left.{Placed, part_shown}
use Rattle.layout.specs.contracts.item.Kind.{the_type}
use Rattle.layout.specs.declared.item.Kind.{Kind}
use Rattle.layout.proofs.Checks.{told_array, told_object}
use Rattle.values.specs.Alike.{part_of}
use Rattle.values.proofs.Turns.{item_unlike, item_nested, item_other}
use Rattle.values.proofs.Turns.{items_start, items_stop, items_more, items_end}
use Rattle.values.proofs.Turns.{like_not, like_by, bit_most, count_start, count_full, count_more, count_end}
use Rattle.values.proofs.Turns.{members_start, members_stop, members_more, members_end}
use Rattle.values.proofs.Turns.{Headed, headed_by, same_none, same_unlike, same_refused, same_scalar, same_array, same_object}
use Rattle.std.specs.Prelude.{Ok}
use Rattle.values.proofs.value.+likeness.Goals.{is_same_nested-After-read_header}
use Rattle.values.proofs.value.+likeness.Goals.{is_same_nested-In-Ok-Array}
use Rattle.values.proofs.value.+likeness.Goals.{is_same_nested-In-Ok-Object}
use Rattle.values.proofs.value.+likeness.Goals as goal

pub are_same_items-loop-item-init : goal.are_same_items-loop-item-init
are_same_items-loop-item-init t c =
    rw (c.into_iter-item-iterator.ensures.into_iter_gives, c.zip-item-items.ensures.first, c.zip-item-items.ensures.second, c.of.ensures, c.of-2.ensures)
    (items_start _ _ _ _)

pub are_same_items-is_same_item-requires : goal.are_same_items-is_same_item-requires
are_same_items-is_same_item-requires t c = omega (arith, c.decreases)

pub are_same_items-returns-then-not-is_same_item : goal.are_same_items-returns-then-not-is_same_item
are_same_items-returns-then-not-is_same_item t c =
    items_stop c.loop-item.invariant (ap (map part_shown) c.in-Some.ensures.steps.0) (ap (map part_shown) c.in-Some.ensures.steps.1)
    _ c.is_same_item.ensures c.if-not-is_same_item.true

pub are_same_items-loop-item-preserved : goal.are_same_items-loop-item-preserved
are_same_items-loop-item-preserved t c =
    items_more c.loop-item.invariant (ap (map part_shown) c.in-Some.ensures.steps.0) (ap (map part_shown) c.in-Some.ensures.steps.1)
    _ c.is_same_item.ensures c.if-not-is_same_item.false

pub are_same_items-returns : goal.are_same_items-returns
are_same_items-returns t c = items_end c.loop-item.invariant (by c.in-None.ensures.steps)
  where
    by : {X Y : Type 0} {A : X → Type 0} {B : Y → Type 0} {ps qs : List Placed} → ((x : X) × ((ps ≡ []) × A x)) ⊎ ((y : Y) × ((qs ≡ []) × B y))
        → (map part_shown ps ≡ []) ⊎ (map part_shown qs ≡ [])
    by (inl h) = inl (ap (map part_shown) h.1.0)
    by (inr h) = inr (ap (map part_shown) h.1.0)

pub are_same_members-loop-member-init : goal.are_same_members-loop-member-init
are_same_members-loop-member-init t c = rw (c.new-behind.ensures, c.new-others.ensures) (members_start _ _ _ _)

pub are_same_members-count_like-left-requires : goal.are_same_members-count_like-left-requires
are_same_members-count_like-left-requires t c = omega (arith, c.decreases)

pub are_same_members-count_like-found-requires : goal.are_same_members-count_like-found-requires
are_same_members-count_like-found-requires t c = omega (arith, c.decreases)

pub are_same_members-returns-then-found-left : goal.are_same_members-returns-then-found-left
are_same_members-returns-then-found-left t c =
    members_stop c.loop-member.invariant _ _ c.in-Some.ensures.steps _ _ c.count_like-left.ensures c.count_like-found.ensures c.if-found-left.true

pub are_same_members-loop-member-preserved : goal.are_same_members-loop-member-preserved
are_same_members-loop-member-preserved t c =
    members_more c.loop-member.invariant _ _ c.in-Some.ensures.steps _ _ c.count_like-left.ensures c.count_like-found.ensures c.if-found-left.false

pub are_same_members-returns : goal.are_same_members-returns
are_same_members-returns t c = members_end c.loop-member.invariant c.in_default.ensures.steps.0

pub count_like-loop-other-init : goal.count_like-loop-other-init
count_like-loop-other-init t c = rw c.into_iter-other-iterator.ensures.into_iter_gives (count_start _ _ _ _)

pub count_like-returns-then-count-limit : goal.count_like-returns-then-count-limit
count_like-returns-then-count-limit t c = count_full c.loop-other.invariant c.if-count-limit.true

pub count_like-is_like-requires : goal.count_like-is_like-requires
count_like-is_like-requires t c = omega (arith, c.decreases)

pub count_like-overflow_add-count : goal.count_like-overflow_add-count
count_like-overflow_add-count t c = omega (arith, bit_most c.is_like.result, c.loop-other.invariant.most, c.if-count-limit.false)

pub count_like-loop-other-preserved : goal.count_like-loop-other-preserved
count_like-loop-other-preserved t c = count_more c.loop-other.invariant _ _ c.in-Some.ensures.steps c.if-count-limit.false _ c.is_like.ensures

pub count_like-returns : goal.count_like-returns
count_like-returns t c = count_end c.loop-other.invariant c.in-None.ensures.steps.0

pub is_like-is_same_item-requires : goal.is_like-is_same_item-requires
is_like-is_same_item-requires t c = omega (arith, c.decreases)

pub is_like-returns-then-is_same_bytes : goal.is_like-returns-then-is_same_bytes
is_like-returns-then-is_same_bytes t c = like_by _ _ _ _ c.is_same_bytes.ensures _ c.if-is_same_bytes.true c.is_same_item.ensures

pub is_like-returns-else-is_same_bytes : goal.is_like-returns-else-is_same_bytes
is_like-returns-else-is_same_bytes t c = like_not _ _ _ _ c.is_same_bytes.ensures c.if-is_same_bytes.false

-- The kind of an entry.
kind_is : {k : Kind} {code read : ℕ} → k ≡ kind_of read → read ≡ code → k ≡ kind_of code
kind_is hk hc = hk ∙ ap kind_of hc

pub is_same_item-returns-then-ne : goal.is_same_item-returns-then-ne
is_same_item-returns-then-ne t c =
    item_unlike _ (part_of c.args.item) (part_of c.args.other)
    (kind_is c.kind_of-kind.ensures c.type_code.ensures) (kind_is c.kind_of.ensures c.type_code-2.ensures)
    (differs_true the_type _ _ (sym c.ne.ensures ∙ c.if-ne.true))

pub is_same_item-is_same_nested-requires : goal.is_same_item-is_same_nested-requires
is_same_item-is_same_nested-requires t c = omega (arith, c.decreases)

pub is_same_item-returns-in-Container : goal.is_same_item-returns-in-Container
is_same_item-returns-in-Container t c =
    item_nested _ (part_of c.args.item) (part_of c.args.other)
    (kind_is c.kind_of-kind.ensures c.type_code.ensures) (kind_is c.kind_of.ensures c.type_code-2.ensures)
    (differs_false the_type (search rules) _ _ (sym c.ne.ensures ∙ c.if-ne.false))
    c.in-Container.is _ c.is_same_nested.ensures

pub is_same_item-returns-in_default : goal.is_same_item-returns-in_default
is_same_item-returns-in_default t c =
    item_other _ (part_of c.args.item) (part_of c.args.other)
    (kind_is c.kind_of-kind.ensures c.type_code.ensures) (kind_is c.kind_of.ensures c.type_code-2.ensures)
    (differs_false the_type (search rules) _ _ (sym c.ne.ensures ∙ c.if-ne.false))
    c.in_default.not-Container _ c.is_same_bytes.ensures

headed : (t : ℕ) (c : is_same_nested-After-read_header t) → Headed
    c.args.allowance
    c.args.a.now
    c.args.b.now
    c.read_header.result
headed t c =
    headed_by _ _ _ _ _ _ c.if-allowance-eq0.false c.read_u32.ensures c.read_u32-2.ensures c.if-read_u32.false
    c.read_header.ensures

-- How many parts a container can have.
array_count : (t : ℕ) (c : is_same_nested-In-Ok-Array t) → c.in-Ok-Array.n < 2 ^ 29
array_count t c = (told_array _ _ c.read_header.ensures _ (c.in-Ok-Array.is ∙ ap Ok c.in-Ok-Array.field-0-is)).1

object_count : (t : ℕ) (c : is_same_nested-In-Ok-Object t) → c.in-Ok-Object.n < 2 ^ 29
object_count t c = (told_object _ _ c.read_header.ensures _ (c.in-Ok-Object.is ∙ ap Ok c.in-Ok-Object.field-0-is)).1

pub is_same_nested-returns-then-allowance-eq0 : goal.is_same_nested-returns-then-allowance-eq0
is_same_nested-returns-then-allowance-eq0 t c = same_none _ _ _ c.if-allowance-eq0.true

pub is_same_nested-returns-then-read_u32 : goal.is_same_nested-returns-then-read_u32
is_same_nested-returns-then-read_u32 t c = same_unlike _ _ _ _ _ c.if-allowance-eq0.false c.read_u32.ensures c.read_u32-2.ensures c.if-read_u32.true

pub is_same_nested-are_same_items-requires-in-Ok-Array : goal.is_same_nested-are_same_items-requires-in-Ok-Array
is_same_nested-are_same_items-requires-in-Ok-Array t c =
    omega (arith, c.decreases, c.if-allowance-eq0.false, array_count t (goal.at.is_same_nested-are_same_items-requires-in-Ok-Array t c).In-Ok-Array)

pub is_same_nested-are_same_members-requires : goal.is_same_nested-are_same_members-requires
is_same_nested-are_same_members-requires t c =
    omega (arith, c.decreases, c.if-allowance-eq0.false, object_count t (goal.at.is_same_nested-are_same_members-requires t c).In-Ok-Object)

pub is_same_nested-returns-in-Err : goal.is_same_nested-returns-in-Err
is_same_nested-returns-in-Err t c = same_refused (headed t (goal.at.is_same_nested-returns-in-Err t c).After-read_header) _ c.in-Err.is

pub is_same_nested-returns-in-Ok-Scalar : goal.is_same_nested-returns-in-Ok-Scalar
is_same_nested-returns-in-Ok-Scalar t c =
    same_scalar (headed t (goal.at.is_same_nested-returns-in-Ok-Scalar t c).After-read_header) _ _ (c.in-Ok-Scalar.is ∙ ap Ok c.in-Ok-Scalar.field-0-is)
    c.are_same_items.ensures

pub is_same_nested-returns-in-Ok-Array : goal.is_same_nested-returns-in-Ok-Array
is_same_nested-returns-in-Ok-Array t c =
    same_array (headed t (goal.at.is_same_nested-returns-in-Ok-Array t c).After-read_header) _ _ (c.in-Ok-Array.is ∙ ap Ok c.in-Ok-Array.field-0-is)
    c.are_same_items-in-Ok-Array.ensures

pub is_same_nested-returns-in-Ok-Object : goal.is_same_nested-returns-in-Ok-Object
is_same_nested-returns-in-Ok-Object t c =
    same_object (headed t (goal.at.is_same_nested-returns-in-Ok-Object t c).After-read_header) _ _ (c.in-Ok-Object.is ∙ ap Ok c.in-Ok-Object.field-0-is)
    c.are_same_members.ensures
