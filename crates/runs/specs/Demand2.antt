-- Demand 2: "each edit yields the value described". The value described is the plain edit of Plain.antt on the values of the records,
-- with the absence and the numbers of Account.antt. It is said of every readable record in which no object has a name twice, in
-- whatever order its names stand; it is proved as `demand_2` of proofs/Yields.antt. Of a repeated name document 01 says "the Rust's
-- bytes hold": what these mean is said by the laws Firsts, Concats and Strips of edits.
use Rattle.std.specs.Prelude.{ℕ, T, length, take, drop, ◌≡◌, false, Ok, Err, Some, None}
use Rattle.layout.specs.Bytes.{Bytes, Octets}
use Rattle.layout.specs.Answer.{gives, refused}
use Rattle.layout.specs.Tree.{Tree, null, boolean, number, string, extension, array, object, Items, none, item, Members, empty, member}
use Rattle.layout.specs.Read.{read}
use Rattle.layout.specs.Value.{Same}
use Rattle.layout.specs.Limits.{record_length}
use Rattle.layout.specs.Ended.{Outcome, result, absence as absent, refusal as refuses, Ended}
use Rattle.layout.specs.declared.refusal.Refusal.{Refusal}
use Rattle.runs.specs.declared.call.Edit.{Edit}
use Rattle.runs.specs.Call.{outcome, takes_two}
use Rattle.runs.specs.Plain.{repeats}
use Rattle.runs.specs.Account.{Entry, value, absence, refusal, entered, edited}
use Rattle.layout.specs.Ended.{Ending}

-- ---- records and their values

-- `b` is a readable record with the value `v`: bytes that read as a tree of equal value, whatever the order in which either has its
-- members.
pub record ReadsAs (b : Bytes) (v : Tree) : Type 0 where
  pub octets : Octets b
  pub tree : Tree
  pub reads : read b ≡ gives tree
  pub same : Same v tree

-- No name twice in any object, at any level.
abbrev mutual
  pub Once : Tree → Type 0
  Once null = Unit {0}
  Once (boolean x) = Unit {0}
  Once (number b) = Unit {0}
  Once (string b) = Unit {0}
  Once (extension b) = Unit {0}
  Once (array ts) = OnceItems ts
  Once (object ms) = (repeats ms ≡ false) × OnceMembers ms

  pub OnceItems : Items → Type 0
  OnceItems none = Unit {0}
  OnceItems (item t ts) = Once t × OnceItems ts

  pub OnceMembers : Members → Type 0
  OnceMembers empty = Unit {0}
  OnceMembers (member n t ms) = Once t × OnceMembers ms

-- Such a record without a repeated name, sorted or not.
pub record OnceWith (b : Bytes) (v : Tree) : Type 0 where
  pub reads_as : ReadsAs b v
  pub once : Once reads_as.tree

-- ---- what an edit yields

-- What document 01 gives a call, beside what the plain edit makes of the values. Where that is a value, the call gives a result, and
-- the result is a readable record with this value; where it is an absence or a number, so is the call's.
abbrev pub Yields : Outcome → Entry → Type 0
Yields o (value v) = (b : Bytes) × (o ≡ result b) × OnceWith b v
Yields o absence = o ≡ absent
Yields o (refusal r) = o ≡ refuses r

pub record Demand2 : Type 0 where
  -- "Each edit", on records with the values `t` and `u`, with any bytes as path and a buffer of `room` bytes: `outcome` is what the
  -- functions promise, `edited` the plain edit with "path, 7, absence, 8", and `entered` adds "9, 10".
  pub each_yields : (e : Edit) (left right path : Bytes) (room : ℕ) (t u : Tree)
      → OnceWith left t → (T (takes_two e) → OnceWith right u)
      → Yields (outcome e left right path room) (entered room (edited e t u path))
  -- "Left record, right record", and only then the rest: bytes that are not readable give their own number, from 1 to 5.
  pub left_refused : (e : Edit) (left right path : Bytes) (room : ℕ) (r : Refusal)
      → read left ≡ refused r
      → outcome e left right path room ≡ refuses r
  pub right_refused : (e : Edit) (left right path : Bytes) (room : ℕ) (t : Tree) (r : Refusal)
      → T (takes_two e) → read left ≡ gives t → read right ≡ refused r
      → outcome e left right path room ≡ refuses r

-- ---- the same of what is observed

-- What a call answered, and its buffer before and after it, beside what the plain edit makes of the values. "A success gives the length
-- and fills that many first bytes; those after them are unchanged"; "a number or an absence changes no byte lent".
abbrev pub SeenAs : Ending → Bytes → Bytes → Entry → Type 0
SeenAs r before after (value v) =
    (r ≡ Ok (Some (record_length v)))
    × OnceWith (take (record_length v) after) v
    × (drop (record_length v) after ≡ drop (record_length v) before)
SeenAs r before after absence = (r ≡ Ok None) × (after ≡ before)
SeenAs r before after (refusal q) = (r ≡ Err q) × (after ≡ before)

-- Of the program it asks only that the answer and the buffer meet the function's promise, `Ended`.
abbrev pub Demand2Seen : Type 0
Demand2Seen =
    (e : Edit) (left right path : Bytes) (t u : Tree)
    → OnceWith left t → (T (takes_two e) → OnceWith right u)
    → (r : Ending) (before after : Bytes) → Ended r before after (outcome e left right path (length before))
    → SeenAs r before after (entered (length before) (edited e t u path))
