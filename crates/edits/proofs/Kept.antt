-- Look-up and delete keep a record what it is: what they give is valid, sound and readable where the record was, is no deeper and no
-- longer, and passes what is asked of each number, extension and name.
use Prim.Native.Nat.{ℕ, zero, suc, ◌+◌, ◌≤◌}
use native.Mathlib.Omega.{arith}
use mathlib.Core.Path.{◌≡◌, refl}
use mathlib.Core.List.{List, [], ◌∷◌}
use lib.Dec.{T}
use Rattle.layout.specs.Bytes.{Bytes}
use Rattle.layout.specs.Tree.{Tree, null, boolean, number, string, extension, array, object, Items, none, item, Members, empty, member}
use Rattle.layout.specs.Limits.{Valid, ValidItems, ValidMembers, depth, depth_items, depth_members, size, size_items, size_members, record_length, Readable}
use Rattle.layout.specs.Sound.{Sound, SoundItems, SoundMembers}
use Rattle.layout.specs.Every.{Ask, every, every_items}
use Rattle.layout.proofs.Questions.{Apiece, and_apart, and_joined, member_apart, member_joined}
use Rattle.builders.specs.Order.{by, insert, insert_all, in_order, find}
use Rattle.builders.specs.Build.{count}
use Rattle.builders.proofs.Orderings.{order_cases, by_order}
use Rattle.builders.proofs.InOrders.{in_order_rising, in_order_valid, in_order_sound, in_order_asked, in_order_depth}
use Rattle.edits.specs.Keypath.{Step}
use Rattle.edits.specs.Find.{◌then◌, step_place, step_name, item_at, step_into, look_up}
use Rattle.edits.specs.Delete.{kept_member, change_item, change_member, anew, remains, or_same, delete}
use Rattle.edits.proofs.Deletes.{some_inj, nothing_some, then_some}
use Rattle.std.specs.Prelude.{Some, None, Option}

-- `u` is no more than `t`.
pub record NoMore (u t : Tree) : Type 0 where
  pub valid : Valid t → Valid u
  pub sound : Sound t → Sound u
  pub deep : depth u ≤ depth t
  pub payload : size u ≤ size t
  pub long : record_length u ≤ record_length t
  pub asked : (a : Ask) → Apiece a → T (every a t) → T (every a u)

pub record NoMoreItems (us ts : Items) : Type 0 where
  pub valid : ValidItems ts → ValidItems us
  pub sound : SoundItems ts → SoundItems us
  pub deep : depth_items us ≤ depth_items ts
  pub payload : size_items us ≤ size_items ts
  pub asked : (a : Ask) → Apiece a → T (every a (array ts)) → T (every a (array us))

pub record NoMoreMembers (ns ms : Members) : Type 0 where
  pub valid : ValidMembers ms → ValidMembers ns
  pub sound : SoundMembers ms → SoundMembers ns
  pub deep : depth_members ns ≤ depth_members ms
  pub payload : size_members ns ≤ size_members ms
  pub asked : (a : Ask) → Apiece a → T (every a (object ms)) → T (every a (object ns))

pub no_more_readable : (u t : Tree) → NoMore u t → Readable t → Readable u
no_more_readable u t k r = (k.valid r.0, omega (arith, r.1), omega (arith, r.2))

pub no_more_same : (t : Tree) → NoMore t t
no_more_same t =
    record { valid = λ v. v; sound = λ s. s; deep = omega arith; payload = omega arith; long = omega arith; asked = λ a p h. h }

-- ---- look_up

-- What stands in a container is shorter by its entry and more.
pub record Inside (c t : Tree) : Type 0 where
  pub valid : Valid t → Valid c
  pub sound : Sound t → Sound c
  pub deep : suc (depth c) ≤ depth t
  pub payload : 8 + size c ≤ size t
  pub asked : (a : Ask) → Apiece a → T (every a t) → T (every a c)

record InsideItems (c : Tree) (ts : Items) : Type 0 where
  valid : ValidItems ts → Valid c
  sound : SoundItems ts → Sound c
  deep : depth c ≤ depth_items ts
  payload : 4 + size c ≤ size_items ts
  asked : (a : Ask) → Apiece a → T (every a (array ts)) → T (every a c)

record InsideMembers (c : Tree) (ms : Members) : Type 0 where
  valid : ValidMembers ms → Valid c
  sound : SoundMembers ms → Sound c
  deep : depth c ≤ depth_members ms
  payload : 8 + size c ≤ size_members ms
  asked : (a : Ask) → Apiece a → T (every a (object ms)) → T (every a c)

item_inside : (ts : Items) (i : ℕ) (c : Tree) → item_at ts i ≡ Some c → InsideItems c ts
item_inside none i c e = nothing_some e
item_inside (item t ts) zero c e =
    rw (← some_inj {x = t} e)
    (record {
      valid = λ v. v.0;
      sound = λ s. s.0;
      deep = omega arith;
      payload = omega arith;
      asked = λ a p h. (and_apart (every a t) (every_items a ts) h).0;
    })
item_inside (item t ts) (suc i) c e =
    let k = item_inside ts i c e in
    record {
      valid = λ v. k.valid v.1;
      sound = λ s. k.sound s.1;
      deep = omega arith;
      payload = omega arith;
      asked = λ a p h. k.asked a p (and_apart (every a t) (every_items a ts) h).1;
    }

member_inside : (n : Bytes) (ms : Members) (c : Tree) → find n ms ≡ Some c → InsideMembers c ms
member_inside n empty c e = nothing_some e
member_inside n (member m t ms) c e =
    by_order n m (λ (a : Option Tree). a ≡ Some c → InsideMembers c (member m t ms)) _ _ _
    (λ _ e. later (member_inside n ms c e)) (λ _ e. rw (← some_inj {x = t} e) here) (λ _ e. later (member_inside n ms c e)) e
  where
    here : InsideMembers t (member m t ms)
    here =
        record {
          valid = λ v. v.1;
          sound = λ s. s.0;
          deep = omega arith;
          payload = omega arith;
          asked = λ a p h. (member_apart a p m t ms h).1;
        }

    later : InsideMembers c ms → InsideMembers c (member m t ms)
    later k =
        record {
          valid = λ v. k.valid v.2;
          sound = λ s. k.sound s.1;
          deep = omega arith;
          payload = omega arith;
          asked = λ a p h. k.asked a p (member_apart a p m t ms h).2;
        }

pub step_inside : (s : Step) (t c : Tree) → step_into s t ≡ Some c → Inside c t
step_inside s null c e = nothing_some e
step_inside s (boolean x) c e = nothing_some e
step_inside s (number b) c e = nothing_some e
step_inside s (string b) c e = nothing_some e
step_inside s (extension b) c e = nothing_some e
step_inside s (array ts) c e =
    let f = then_some (step_place s (count ts)) (item_at ts) c e in
    let k = item_inside ts f.0 c f.2 in
    record { valid = k.valid; sound = k.sound; deep = omega arith; payload = omega arith; asked = k.asked }
step_inside s (object ms) c e =
    let k = member_inside (step_name s) ms c e in
    record { valid = k.valid; sound = λ s. k.sound s.1; deep = omega arith; payload = omega arith; asked = k.asked }

-- A record is its payload, and 8 bytes more of a scalar.
record_size : (t : Tree) → (size t ≤ record_length t) × (record_length t ≤ 8 + size t)
record_size null = (omega arith, omega arith)
record_size (boolean x) = (omega arith, omega arith)
record_size (number b) = (omega arith, omega arith)
record_size (string b) = (omega arith, omega arith)
record_size (extension b) = (omega arith, omega arith)
record_size (array ts) = (omega arith, omega arith)
record_size (object ms) = (omega arith, omega arith)

-- One step inward.
pub step_kept : (s : Step) (t c : Tree) → step_into s t ≡ Some c → NoMore c t
step_kept s t c e =
    let k = step_inside s t c e in
    record {
      valid = k.valid;
      sound = k.sound;
      deep = omega arith;
      payload = omega arith;
      long = omega (arith, (record_size t).0, (record_size c).1);
      asked = k.asked;
    }

pub look_up_kept : (p : List Step) (t u : Tree) → look_up p t ≡ Some u → NoMore u t
look_up_kept [] t u e = rw (← some_inj {x = t} e) (no_more_same t)
look_up_kept (s ∷ p) t u e =
    let f = then_some (step_into s t) (look_up p) u e in
    let k = step_kept s t f.0 f.1 in
    let l = look_up_kept p f.0 u f.2 in
    record {
      valid = λ v. l.valid (k.valid v);
      sound = λ s. l.sound (k.sound s);
      deep = omega arith;
      payload = omega arith;
      long = omega arith;
      asked = λ a p h. l.asked a p (k.asked a p h);
    }

pub look_up_readable : (p : List Step) (t u : Tree) → look_up p t ≡ Some u → Readable t → Readable u
look_up_readable p t u e r = no_more_readable u t (look_up_kept p t u e) r

-- ---- delete

-- What is left of an item, if anything, is no more than it was.
abbrev NoMoreOf : Option Tree → Tree → Type 0
NoMoreOf None c = Unit {0}
NoMoreOf (Some u) c = NoMore u c

item_kept : (o : Option Tree) (i : ℕ) (ts : Items) (c : Tree) → item_at ts i ≡ Some c → NoMoreOf o c → NoMoreItems (change_item o i ts) ts
item_kept o i none c e l = nothing_some e
item_kept None zero (item t ts) c e l =
    record {
      valid = λ v. v.1;
      sound = λ s. s.1;
      deep = omega arith;
      payload = omega arith;
      asked = λ a p h. (and_apart (every a t) (every_items a ts) h).1;
    }
item_kept (Some u) zero (item t ts) c e l =
    let k : NoMore u t = rw (some_inj {x = t} e) l in
    record {
      valid = λ v. (k.valid v.0, v.1);
      sound = λ s. (k.sound s.0, s.1);
      deep = omega arith;
      payload = omega arith;
      asked = λ a p h.
          let rest = and_apart (every a t) (every_items a ts) h in
          and_joined (every a u) (every_items a ts) (k.asked a p rest.0) rest.1;
    }
item_kept o (suc i) (item t ts) c e l =
    let k = item_kept o i ts c e l in
    record {
      valid = λ v. (v.0, k.valid v.1);
      sound = λ s. (s.0, k.sound s.1);
      deep = omega arith;
      payload = omega arith;
      asked = λ a p h.
          let rest = and_apart (every a t) (every_items a ts) h in
          and_joined (every a t) (every_items a (change_item o i ts)) rest.0 (k.asked a p rest.1);
    }

member_kept : (o : Option Tree) (n : Bytes) (ms : Members) (c : Tree) → find n ms ≡ Some c → NoMoreOf o c → NoMoreMembers (change_member o n ms) ms
member_kept o n empty c e l = nothing_some e
member_kept o n (member m t ms) c e l =
    order_cases n m
    (λ r. by r (find n ms) (Some t) (find n ms) ≡ Some c
    → NoMoreMembers (by r (member m t (change_member o n ms)) (kept_member m o ms) (member m t (change_member o n ms))) (member m t ms))
    (λ _ e. later (change_member o n ms) (member_kept o n ms c e l))
    (λ _ e. here o (rw (some_inj {x = t} e) l))
    (λ _ e. later (change_member o n ms) (member_kept o n ms c e l))
    e
  where
    later : (ns : Members) → NoMoreMembers ns ms → NoMoreMembers (member m t ns) (member m t ms)
    later ns k =
        record {
          valid = λ v. (v.0, v.1, k.valid v.2);
          sound = λ s. (s.0, k.sound s.1);
          deep = omega arith;
          payload = omega arith;
          asked = λ a p h. let rest = member_apart a p m t ms h in member_joined a p m t ns rest.0 rest.1 (k.asked a p rest.2);
        }

    here : (o : Option Tree) → NoMoreOf o t → NoMoreMembers (kept_member m o ms) (member m t ms)
    here None k =
        record {
          valid = λ v. v.2;
          sound = λ s. s.1;
          deep = omega arith;
          payload = omega arith;
          asked = λ a p h. (member_apart a p m t ms h).2;
        }
    here (Some u) k =
        record {
          valid = λ v. (v.0, k.valid v.1, v.2);
          sound = λ s. (k.sound s.0, s.1);
          deep = omega arith;
          payload = omega arith;
          asked = λ a p h. let rest = member_apart a p m t ms h in member_joined a p m u ms rest.0 (k.asked a p rest.1) rest.2;
        }

-- Members in order have no more bytes.
insert_size : (n : Bytes) (t : Tree) (ms : Members) → size_members (insert n t ms) ≤ size_members (member n t ms)
insert_size n t empty = omega arith
insert_size n t (member m u ms) =
    by_order n m (λ (a : Members). size_members a ≤ size_members (member n t (member m u ms))) _ _ _
    (λ _. omega arith) (λ _. omega arith) (λ _. omega (arith, insert_size n t ms))

all_size : (ms done : Members) → size_members (insert_all ms done) ≤ size_members ms + size_members done
all_size empty done = omega arith
all_size (member n t ms) done = omega (arith, all_size ms (insert n t done), insert_size n t done)

pub in_order_shorter : (ms : Members) → size_members (in_order ms) ≤ size_members ms
in_order_shorter ms = omega (arith, all_size ms empty)

-- A container written anew.
anew_kept : (o : Option Tree) (s : Step) (t c : Tree) → step_into s t ≡ Some c → NoMoreOf o c → NoMore (anew o s t) t
anew_kept o s null c e l = nothing_some e
anew_kept o s (boolean x) c e l = nothing_some e
anew_kept o s (number b) c e l = nothing_some e
anew_kept o s (string b) c e l = nothing_some e
anew_kept o s (extension b) c e l = nothing_some e
anew_kept o s (array ts) c e l =
    let f = then_some (step_place s (count ts)) (item_at ts) c e in
    let k = item_kept o f.0 ts c f.2 l in
    rw f.1
    (record {
      valid = k.valid;
      sound = k.sound;
      deep = omega arith;
      payload = omega arith;
      long = omega arith;
      asked = k.asked;
    })
anew_kept o s (object ms) c e l =
    let ns = change_member o (step_name s) ms in
    let k = member_kept o (step_name s) ms c e l in
    let d = in_order_depth ns in
    let b = in_order_shorter ns in
    record {
      valid = λ v. in_order_valid ns (k.valid v);
      sound = λ s. (in_order_rising ns, in_order_sound ns (k.sound s.1));
      deep = omega arith;
      payload = omega arith;
      long = omega arith;
      asked = λ a p h. in_order_asked a p ns (k.asked a p h);
    }

remains_kept : (p : List Step) (t v : Tree) → look_up p t ≡ Some v → NoMoreOf (remains p t) t
remains_kept [] t v e = tt
remains_kept (s ∷ p) t v e =
    let f = then_some (step_into s t) (look_up p) v e in
    rw f.1 (anew_kept (remains p f.0) s t f.0 f.1 (remains_kept p f.0 v f.2))

pub delete_kept : (p : List Step) (t : Tree) → NoMore (delete p t) t
delete_kept p t = by_found (look_up p t) refl
  where
    or_same_kept : (o : Option Tree) → NoMoreOf o t → NoMore (or_same t o) t
    or_same_kept None l = no_more_same t
    or_same_kept (Some u) l = l

    by_found : (o : Option Tree) → look_up p t ≡ o → NoMore (or_same t (o then λ _. remains p t)) t
    by_found None e = no_more_same t
    by_found (Some v) e = or_same_kept (remains p t) (remains_kept p t v e)

pub delete_readable : (p : List Step) (t : Tree) → Readable t → Readable (delete p t)
delete_readable p t r = no_more_readable (delete p t) t (delete_kept p t) r
