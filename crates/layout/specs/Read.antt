-- The reading of a record: document 01, "Readable and sound", rules 1 to 6 in their order. The first fault decides. A record
-- that reads as a tree is what document 01 calls readable.
use Rattle.std.specs.Prelude.{ℕ, zero, suc, ◌+◌, ◌*◌, Bool, true, false, not, cond, ◌&&◌, ◌||◌, List, [], ◌∷◌, leb, ltb, eqb, length, take, drop, Ok, Err, Result}
use Rattle.layout.specs.Bytes.{Bytes, word}
use Rattle.layout.specs.Answer.{Answer, gives, refused, ◌>>=◌, require}
use Rattle.layout.specs.Entry.{top_of, code_of, length_of, kind_of, entry_good, sort_of, count_of}
use Rattle.layout.specs.Text.{utf8}
use Rattle.layout.specs.Number.{listed}
use Rattle.layout.specs.Tree.{Tree, null, boolean, number, string, extension, array, object, Items, none, item, pair}
use Rattle.layout.specs.Encode.{Part}
use Rattle.layout.specs.declared.item.Kind.{Kind}
use Rattle.layout.specs.declared.item.Kind.TheVariants.{Null, String, Number, False, True, Container, Extension}
use Rattle.layout.specs.declared.refusal.Refusal.TheVariants.{Short, Layout, Limit, Text, Number as NotListed}
use Rattle.layout.specs.declared.util.Header.{Header}
use Rattle.layout.specs.declared.util.Header.TheVariants.{Array, Object, Scalar}
use Rattle.layout.specs.declared.refusal.Refusal.{Refusal}

-- Rule 2: "Under 4 bytes: 1. Top bits of no known kind: 2."
unfoldable pub header : Bytes → Result Header Refusal
unfolding sort_of count_of word
header b =
    cond (ltb (length b) 4) (Err Short)
    (cond (eqb (sort_of (word b)) 4) (Ok (Array (count_of (word b))))
    (cond (eqb (sort_of (word b)) 2) (Ok (Object (count_of (word b))))
    (cond (eqb (sort_of (word b)) 1) (Ok (Scalar (count_of (word b))))
    (Err Layout))))

-- Rule 5: "bit 31 set, code 7, a name whose code is not 1, or null, true or false with a length: 2". `entry_good` is the
-- first three. In the rule's order, one test a line, it is `entry_in_lines` of proofs/Entries.antt.
unfoldable pub entry_ok : Bool → ℕ → Bool
entry_ok name w =
    entry_good name w && (not (eqb (code_of w) 0 || (eqb (code_of w) 3 || eqb (code_of w) 4)) || eqb (length_of w) 0)

pub record Entry : Type 0 where
  pub kind : Kind
  pub len : ℕ

unfoldable pub entry : Bool → ℕ → Answer Entry
unfolding entry_ok entry_good top_of code_of length_of kind_of
entry name w =
    cond (entry_ok name w) (gives (record { kind = kind_of (code_of w); len = length_of w })) (refused Layout)

-- `n` entries, of which the first `names` are names.
abbrev pub table : ℕ → ℕ → Bytes → Answer (List Entry)
table zero names b = gives []
table (suc n) zero b = do
  e ← entry false (word b)
  es ← table n zero (drop 4 b)
  gives (e ∷ es)
table (suc n) (suc names) b = do
  e ← entry true (word b)
  es ← table n names (drop 4 b)
  gives (e ∷ es)

abbrev pub total : List Entry → ℕ
total [] = 0
total (e ∷ es) = e.len + total es

-- The payloads, each behind the one before.
abbrev pub cut : List Entry → Bytes → List Part
cut [] b = []
cut (e ∷ es) b = record { kind = e.kind; bytes = take e.len b } ∷ cut es (drop e.len b)

-- Rules 4 and 5 on what follows the header: "Table not within the bytes: 1", the entries, "Lengths not summing to the bytes
-- left: 2".
unfoldable pub parts : ℕ → ℕ → Bytes → Answer (List Part)
unfolding entry word
parts n names b = do
  _ ← require (leb (4 * n) (length b)) Short
  es ← table n names b
  _ ← require (eqb (total es) (length (drop (4 * n) b))) Layout
  gives (cut es (drop (4 * n) b))

-- Rule 6: "text that is not UTF-8 by RFC 3629: 3; a number not listed above: 4".
unfoldable pub text : Bytes → Answer Bytes
unfolding utf8
text b = do
  _ ← require (utf8 b) Text
  gives b

unfoldable pub number_in : Bytes → Answer Tree
unfolding listed
number_in b = do
  _ ← require (listed b) NotListed
  gives (number b)

-- One payload, where `inner` reads a nested container.
abbrev pub payload_in : (Bytes → Answer Tree) → Kind → Bytes → Answer Tree
payload_in inner Null b = gives null
payload_in inner String b = text b >>= λ s. gives (string s)
payload_in inner Number b = number_in b
payload_in inner False b = gives (boolean false)
payload_in inner True b = gives (boolean true)
payload_in inner Container b = inner b
payload_in inner Extension b = gives (extension b)

abbrev pub items_in : (Bytes → Answer Tree) → List Part → Answer Items
items_in inner [] = gives none
items_in inner (p ∷ ps) = do
  t ← payload_in inner p.kind p.bytes
  ts ← items_in inner ps
  gives (item t ts)

abbrev pub names_in : List Part → Answer (List Bytes)
names_in [] = gives []
names_in (p ∷ ps) = do
  n ← text p.bytes
  ns ← names_in ps
  gives (n ∷ ns)

-- A container of `n`, on what follows the header.
abbrev pub array_in : (Bytes → Answer Tree) → ℕ → Bytes → Answer Tree
array_in inner n b = do
  ps ← parts n 0 b
  ts ← items_in inner ps
  gives (array ts)

abbrev pub object_in : (Bytes → Answer Tree) → ℕ → Bytes → Answer Tree
object_in inner n b = do
  ps ← parts (n + n) n b
  ns ← names_in (take n ps)
  ts ← items_in inner (drop n ps)
  gives (object (pair ns ts))

-- Rule 3: "count not 0: 2; under 8 bytes: 1; entry by rule 5, where code 5 is also 2; payload not ending exactly at the end:
-- 2; then rule 6".
abbrev pub scalar_in : ℕ → Bytes → Answer Tree
scalar_in n b = do
  _ ← require (eqb n 0) Layout
  _ ← require (leb 4 (length b)) Short
  e ← entry false (word b)
  _ ← require (eqb e.len (length (drop 4 b))) Layout
  payload_in (λ _. refused Layout) e.kind (drop 4 b)

-- A container by its header; a scalar "inside another record 2".
abbrev pub container_in : (Bytes → Answer Tree) → Result Header Refusal → Bytes → Answer Tree
container_in inner (Err r) b = refused r
container_in inner (Ok (Scalar n)) b = refused Layout
container_in inner (Ok (Array n)) b = array_in inner n b
container_in inner (Ok (Object n)) b = object_in inner n b

-- Rule 4: "deeper than 64 is 5", behind rules 2 and 3.
abbrev pub too_deep : Result Header Refusal → Answer Tree
too_deep (Err r) = refused r
too_deep (Ok (Scalar n)) = refused Layout
too_deep (Ok (Array n)) = refused Limit
too_deep (Ok (Object n)) = refused Limit

-- A nested container, where `k` levels are left: "by the same rules on its own bytes, one level deeper".
unfoldable pub nested : ℕ → Bytes → Answer Tree
nested zero b = too_deep (header b)
nested (suc k) b = container_in (nested k) (header b) (drop 4 b)

-- "A root container is at depth 1": below it 63 levels are left.
abbrev pub root_in : Result Header Refusal → Bytes → Answer Tree
root_in (Err r) b = refused r
root_in (Ok (Scalar n)) b = scalar_in n b
root_in (Ok (Array n)) b = array_in (nested 63) n b
root_in (Ok (Object n)) b = object_in (nested 63) n b

-- A record. Rule 1: "Over 65,536 bytes: 5."
unfoldable pub read : Bytes → Answer Tree
unfolding nested header parts text number_in ◌>>=◌ require
read b = do
  _ ← require (leb (length b) 65536) Limit
  root_in (header b) (drop 4 b)
