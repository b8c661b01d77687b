-- The walks: document 01, "Walks, `iterator.rs`". "The walk holds the places of the next entries and payloads; a step reads
-- there in whichever slice it is lent." Document 02 §2: a step tests the text that it hands out, and counts its characters.
use Rattle.std.specs.Prelude.{ℕ, zero, suc, ◌+◌, ◌*◌, ◌-◌, ◌≡◌, ◌⊎◌, true, false, not, cond, List, [], ◌∷◌, eqb, take, drop, Ok, Err, Some, None, Result, Option}
use Rattle.layout.specs.Bytes.{Bytes, inside, word_at}
use Rattle.layout.specs.Entry.{code_of, length_of, kind_of, entry_good, lengths}
use Rattle.layout.specs.Answer.{Answer, gives, refused, ◌>>=◌}
use Rattle.layout.specs.Text.{code_points}
use Rattle.layout.specs.Tree.{Tree}
use Rattle.layout.specs.Encode.{Part}
use Rattle.layout.specs.Read.{header, read}
use Rattle.layout.specs.declared.refusal.Refusal.{Refusal}
use Rattle.layout.specs.declared.refusal.Refusal.TheVariants.{Short, Layout, Text}
use Rattle.layout.specs.declared.util.Header.{Header}
use Rattle.layout.specs.declared.util.Header.TheVariants.{Array, Object, Scalar}
use Rattle.layout.specs.declared.item.Kind.TheVariants.{String}
use Rattle.layout.specs.declared.item.JsonbItem.{JsonbItem}
use Rattle.layout.specs.declared.iterator.ArrayIterator.{ArrayIterator}
use Rattle.layout.specs.declared.iterator.ObjectIterator.{ObjectIterator}
use Rattle.layout.specs.declared.iterator.ObjectMember.{ObjectMember}

-- "The item's kind, place and length", and its characters.
unfoldable pub item_of : ℕ → ℕ → Option ℕ → JsonbItem
item_of w place c = record { kind = kind_of (code_of w); place = place; length = length_of w; characters = c }

-- Document 02 §2: "Let walks hand this number out with every name and string item", which have code 1; the other kinds have none.
-- "A step tests the text it hands out", and "can now meet 3".
unfoldable pub counted : Option ℕ → Answer (Option ℕ)
counted None = refused Text
counted (Some n) = gives (Some n)

unfoldable pub characters_of : Bytes → ℕ → ℕ → Answer (Option ℕ)
characters_of s w place =
    cond (eqb (code_of w) 1) (counted (code_points (take (length_of w) (drop place s)))) (gives None)

-- What is handed out of an entry whose payload stands at a place of the slice.
unfoldable pub item_at : Bytes → ℕ → ℕ → Answer JsonbItem
unfolding characters_of counted code_points ◌>>=◌
item_at s w place = do
  c ← characters_of s w place
  gives (item_of w place c)

-- A step that has come so far ends with what it hands out, or with the refusal.
unfoldable pub ends_with : {A B : Type 0} → (A → B) → (Refusal → B) → Answer A → B
ends_with found fault (gives a) = found a
ends_with found fault (refused r) = fault r

-- "A step over an array gives the item's kind, place and length." "An entry outside the slice gives 1; a payload outside it,
-- code 7, bit 31 set [..] gives 2"; "Past the last item a step answers the end." A length of null, true or false is not
-- asked about. Document 02 §2: "3, after all of that step's tests for 1 and 2, without moving".
unfoldable pub array_step : Bytes → ArrayIterator → Result (Option (JsonbItem × ArrayIterator)) Refusal
array_step s w =
    let e = word_at s w.jentry_offset in
    cond (eqb w.remaining 0) (Ok None)
    (cond (not (inside s w.jentry_offset 4)) (Err Short)
    (cond (not (entry_good false e)) (Err Layout)
    (cond (not (inside s w.item_offset (length_of e))) (Err Layout)
    (ends_with
    (λ i. Ok (Some (
      i,
      record {
        jentry_offset = w.jentry_offset + 4;
        item_offset = w.item_offset + length_of e;
        remaining = w.remaining - 1;
      },
    )))
    Err
    (item_at s e w.item_offset)))))

-- What is handed out of the entries `k` and `v` of a name and its value.
unfoldable pub member_at : Bytes → ObjectIterator → ℕ → ℕ → Answer ObjectMember
member_at s w k v = do
  key ← item_at s k w.key_offset
  val ← item_at s v w.val_offset
  gives (record { key = key; val = val })

-- "Object order: name entry, value entry, name, value, each tested whole before the next." This is the second half of a step,
-- the name and the value, and behind their places the texts; `object_step` below comes to it behind its tests of the entries.
unfoldable pub member_step : Bytes → ObjectIterator → ℕ → ℕ → Result (Option (ObjectMember × ObjectIterator)) Refusal
member_step s w k v =
    cond (not (inside s w.key_offset (length_of k))) (Err Layout)
    (cond (not (inside s w.val_offset (length_of v))) (Err Layout)
    (ends_with
    (λ m. Ok (Some (
      m,
      record {
        key_jentry_offset = w.key_jentry_offset + 4;
        val_jentry_offset = w.val_jentry_offset + 4;
        key_offset = w.key_offset + length_of k;
        val_offset = w.val_offset + length_of v;
        remaining = w.remaining - 1;
      },
    )))
    Err
    (member_at s w k v)))

-- The first half: the end, the name's entry ("a name whose code is not 1" is a fault of it), the value's entry.
unfoldable pub object_step : Bytes → ObjectIterator → Result (Option (ObjectMember × ObjectIterator)) Refusal
object_step s w =
    let k = word_at s w.key_jentry_offset in
    let v = word_at s w.val_jentry_offset in
    cond (eqb w.remaining 0) (Ok None)
    (cond (not (inside s w.key_jentry_offset 4)) (Err Short)
    (cond (not (entry_good true k)) (Err Layout)
    (cond (not (inside s w.val_jentry_offset 4)) (Err Short)
    (cond (not (entry_good false v)) (Err Layout)
    (member_step s w k v)))))

-- "The walk holds the places of the next entries and payloads": before the first of `n` items, "header, n entries, n payloads".
unfoldable pub array_walk : ℕ → ArrayIterator
array_walk n = record { jentry_offset = 4; item_offset = 4 + 4 * n; remaining = n }

-- Before the first of `n` members, "header, n name entries, n value entries, n names, n values".
unfoldable pub object_walk : Bytes → ℕ → ObjectIterator
object_walk s n =
    record {
      key_jentry_offset = 4;
      val_jentry_offset = 4 + 4 * n;
      key_offset = 4 + 8 * n;
      val_offset = 4 + 8 * n + lengths s 0 n;
      remaining = n;
    }

-- "Opening checks the record as readable": the refusal of a record that is not, else what its header says.
unfoldable pub opening : {A : Type 0} → (Refusal → A) → (Result Header Refusal → A) → Answer Tree → Result Header Refusal → A
opening fault found (refused r) h = fault r
opening fault found (gives t) h = found h

-- "Opening a walk on a readable record of another kind is an absence." No readable record has a header that is refused.
unfoldable pub array_opened : Result Header Refusal → Result (Option ArrayIterator) Refusal
array_opened (Ok (Array n)) = Ok (Some (array_walk n))
array_opened (Ok (Object n)) = Ok None
array_opened (Ok (Scalar n)) = Ok None
array_opened (Err r) = Ok None

abbrev pub array_open : Bytes → Result (Option ArrayIterator) Refusal
array_open s = opening Err array_opened (read s) (header s)

unfoldable pub object_opened : Bytes → Result Header Refusal → Result (Option ObjectIterator) Refusal
object_opened s (Ok (Array n)) = Ok None
object_opened s (Ok (Object n)) = Ok (Some (object_walk s n))
object_opened s (Ok (Scalar n)) = Ok None
object_opened s (Err r) = Ok None

abbrev pub object_open : Bytes → Result (Option ObjectIterator) Refusal
object_open s = opening Err (object_opened s) (read s) (header s)

-- The part of the record that an item names.
abbrev pub part_of : Bytes → JsonbItem → Part
part_of s i = record { kind = i.kind; bytes = take i.length (drop i.place s) }

-- Document 02 §2, of an item that is handed out: a string is a text, and has the number of its code points; nothing else has one.
abbrev pub Numbered : Bytes → JsonbItem → Type 0
Numbered s i =
    ((i.kind ≡ String) × ((n : ℕ) × (code_points (part_of s i).bytes ≡ Some n) × (i.characters ≡ Some n)))
    ⊎ ((i.kind ≡ String → ⊥) × (i.characters ≡ None))

-- What a walk hands out that comes to its end within `k` steps; nothing where it is refused or takes longer.
abbrev pub also : {A : Type 0} → A → Option (List A) → Option (List A)
also p None = None
also p (Some ps) = Some (p ∷ ps)

abbrev pub array_rest : Bytes → Result (Option (JsonbItem × ArrayIterator)) Refusal → (ArrayIterator → Option (List Part)) → Option (List Part)
array_rest s (Ok (Some (i, next))) rest = also (part_of s i) (rest next)
array_rest s (Ok None) rest = Some []
array_rest s (Err r) rest = None

unfoldable pub walked : Bytes → ArrayIterator → ℕ → Option (List Part)
walked s w zero = None
walked s w (suc k) = array_rest s (array_step s w) (λ next. walked s next k)

-- The same of an object's members, each its name and its value.
pub record MemberParts : Type 0 where
  pub name : Part
  pub value : Part

abbrev pub object_rest : Bytes → Result (Option (ObjectMember × ObjectIterator)) Refusal → (ObjectIterator → Option (List MemberParts)) → Option (List MemberParts)
object_rest s (Ok (Some (m, next))) rest = also (record { name = part_of s m.key; value = part_of s m.val }) (rest next)
object_rest s (Ok None) rest = Some []
object_rest s (Err r) rest = None

unfoldable pub object_walked : Bytes → ObjectIterator → ℕ → Option (List MemberParts)
object_walked s w zero = None
object_walked s w (suc k) = object_rest s (object_step s w) (λ next. object_walked s next k)

-- Parts in turn, as names and values.
abbrev pub paired : List Part → List Part → List MemberParts
paired [] vs = []
paired (n ∷ ns) [] = []
paired (n ∷ ns) (v ∷ vs) = record { name = n; value = v } ∷ paired ns vs
