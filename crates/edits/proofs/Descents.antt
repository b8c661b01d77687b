-- A search that goes from item to item, whatever says where it goes next: the steps of a path, the tokens of a pointer. And what a
-- look-up ends in, from what such a search finds.
use Prim.Native.Nat.{ℕ, ◌%◌, ◌^◌, ◌≤◌}
use mathlib.Core.Path.{◌≡◌, refl, ap, sym, ◌∙◌}
use lib.ListN.{length, drop}
use Rattle.layout.specs.Bytes.{Bytes, Octets}
use Rattle.layout.specs.Answer.{Answer, gives}
use Rattle.layout.specs.Entry.{entry_of}
use Rattle.layout.specs.Tree.{Tree}
use Rattle.layout.specs.Encode.{encode}
use Rattle.layout.specs.Read.{header, container_in, root_in, nested, read}
use Rattle.layout.specs.Check.{checked}
use Rattle.layout.specs.Ended.{into}
use Rattle.layout.specs.Room.{EndedIn}
use Rattle.layout.specs.Pipeline.{on_record}
use Rattle.layout.specs.declared.util.Header.{Header}
use Rattle.layout.specs.declared.util.Header.TheVariants.{Array, Object, Scalar}
use Rattle.layout.specs.declared.parts.ItemAt.{ItemAt}
use Rattle.layout.proofs.Answers.{from_require}
use Rattle.layout.proofs.Decoding.{read_is}
use Rattle.layout.proofs.Nestings.{readable_gives}
use Rattle.layout.proofs.Patches.{in_as}
use Rattle.layout.proofs.Pipelines.{record_absent, record_done}
use Rattle.builders.proofs.Knowns.{Known, known}
use Rattle.edits.specs.Find.{◌then◌}
use Rattle.edits.specs.Held.{Held, Leads, search_in, Finds, item_record}
use Rattle.edits.proofs.Helds.{agree_none, agree_some, found_none, found_some, root_held, held_record}
use Rattle.std.specs.Prelude.{Ok, Err, Some, None, Result, Option}
use Rattle.layout.specs.declared.refusal.Refusal.{Refusal}
use Rattle.layout.specs.Ended.{Ending}

-- ---- from one item to the next

-- What a search finds in a container is what it finds in its tree.
pub search_is : (s : Bytes) (t : Tree) (look : Tree → Option Tree) → nested 64 s ≡ gives t → search_in s look ≡ look t
unfolding search_in
search_is s t look e = rw e

-- The item that was found so far, and what is still to be looked for, from there on.
pub record Going (s : Bytes) (look : Tree → Option Tree) (x : ItemAt) (rest : Tree → Option Tree) : Type 0 where
  pub tree : Tree
  pub held : Held s x tree
  pub goes_on : search_in s look ≡ rest tree

pub going_start : (s : Bytes) (look : Tree → Option Tree) (j : ℕ) → Octets s → length s ≤ 65536 → checked (nested 64 s) ≡ Ok tt
    → j ≡ entry_of (5 % 2 ^ 3) (length s % 2 ^ 28) → Going s look (record { jentry = j; place = 0 }) look
going_start s look j o l c q =
    let w = readable_gives (nested 64 s) (Ok tt) (sym c) refl in
    record { tree = w.0; held = root_held s w.0 j o l w.1 q; goes_on = search_is s w.0 look w.1 }

module _ {s : Bytes} {look rest : Tree → Option Tree} {x : ItemAt} (g : Going s look x rest) where
  -- One step, and what is left behind it.
  module _ (into next : Tree → Option Tree) (first : (t : Tree) → rest t ≡ (into t then next)) (r : Option ItemAt) (hr : Leads s x into r) where
    going_turn : (o : Option Tree) → into g.tree ≡ o → search_in s look ≡ (o then next)
    going_turn o q = g.goes_on ∙ first g.tree ∙ ap (λ (o : Option Tree). o then next) q

    pub going_stop : r ≡ None → Finds s look None
    going_stop q = agree_none s _ (going_turn None (found_none s _ r (hr g.tree g.held) q))

    pub going_on : (y : ItemAt) → r ≡ Some y → Going s look y next
    going_on y q =
        let w = found_some s _ r y (hr g.tree g.held) q in
        record { tree = w.0; held = w.2; goes_on = going_turn (Some w.0) w.1 }

  -- Nothing is left.
  pub going_end : ((t : Tree) → rest t ≡ Some t) → Finds s look (Some x)
  going_end h = agree_some s _ g.tree x (g.goes_on ∙ h g.tree) g.held

-- ---- the record by its header

-- A container that is a record reads as one that stands in another.
root_container : (h : Result Header Refusal) (b : Bytes) → ((n : ℕ) → h ≡ Ok (Scalar n) → ⊥) → container_in (nested 63) h b ≡ root_in h b
root_container (Err r) b q = refl
root_container (Ok (Scalar n)) b q = absurd (q n refl)
root_container (Ok (Array n)) b q = refl
root_container (Ok (Object n)) b q = refl

nested_root : (s : Bytes) → nested 64 s ≡ container_in (nested 63) (header s) (drop 4 s)
unfolding nested
nested_root s = refl

pub nested_read : (s : Bytes) (t : Tree) → read s ≡ gives t → ((n : ℕ) → header s ≡ Ok (Scalar n) → ⊥) → nested 64 s ≡ gives t
nested_read s t e q =
    from_require _ _ _ (sym (read_is s) ∙ e) λ _ e₁. nested_root s ∙ root_container (header s) (drop 4 s) q ∙ e₁

-- A record that is a container: what a search asks of it, and what its answer says.
module _ (a : Bytes) (t : Tree) (k : Known a t) (q : (n : ℕ) → header a ≡ Ok (Scalar n) → ⊥) where
  inner : nested 64 a ≡ gives t
  inner = nested_read a t k.reads q

  pub container_ready : (length a ≤ 65536) × (checked (nested 64 a) ≡ Ok tt)
  container_ready = (k.short, ap checked inner)

  module _ (look : Tree → Option Tree) (r : Option ItemAt) (h : Finds a look r) where
    pub finds_none : r ≡ None → look t ≡ None
    finds_none e = sym (search_is a t look inner) ∙ found_none a _ r h e

    pub finds_item : (x : ItemAt) → r ≡ Some x → (v : Tree) × (look t ≡ Some v) × Held a x v
    finds_item x e =
        let w = found_some a _ r x h e in
        (w.0, sym (search_is a t look inner) ∙ w.1, w.2)

-- A record of bytes that the check let pass, and its tree.
pub record Passed (a : Bytes) : Type 0 where
  pub octets : Octets a
  pub readable : checked (read a) ≡ Ok tt

pub passed_tree : {a : Bytes} → Passed a → (t : Tree) × Known a t
passed_tree {a} s = let w = readable_gives (read a) (Ok tt) (sym s.readable) refl in (w.0, known a w.0 s.octets w.1)

-- ---- what a look-up ends in

-- The record `a` is known, and what stands beside it was read: a path, a pointer.
module _ {P : Type 0} (beside : Bytes → Answer P) (look : P → Tree → Option Tree) {a : Bytes} (t : Tree) (k : Known a t)
    (other : Bytes) (p : P) (hp : beside other ≡ gives p) {o : Bytes} (room : ℕ) where
  pub look_absent : look p t ≡ None → EndedIn (Ok None) o o (on_record beside (λ t p. gives (look p t)) a other room)
  look_absent q = record_absent beside (λ t p. gives (look p t)) a other room o t k.reads p hp (ap gives q)

  look_done : (v : Tree) → look p t ≡ Some v → (e : Ending) (o' : Bytes) → EndedIn e o o' (into room (encode v))
      → EndedIn e o o' (on_record beside (λ t p. gives (look p t)) a other room)
  look_done v q = record_done beside (λ t p. gives (look p t)) a other room o t k.reads p hp v (ap gives q)

  -- The record itself is stored.
  pub look_whole : look p t ≡ Some t → {e : Ending} {o' : Bytes} → EndedIn e o o' (into room a)
      → EndedIn e o o' (on_record beside (λ t p. gives (look p t)) a other room)
  look_whole q {e} {o'} h = look_done t q e o' (in_as _ a (encode t) (sym k.bytes) h)

  -- An item of it is.
  pub look_item : {x : ItemAt} (v : Tree) → look p t ≡ Some v → Held a x v → {e : Ending} {o' : Bytes}
      → EndedIn e o o' (into room (item_record a x)) → EndedIn e o o' (on_record beside (λ t p. gives (look p t)) a other room)
  look_item {x} v q held {e} {o'} h = look_done v q e o' (in_as _ (item_record a x) (encode v) (held_record a x v held) h)
