-- Which numbers an answer can have: document 01, "Who can cause each number". `RefusedBy P m` says that `m` is refused, if it is, by a
-- number of which `P` holds. Reading is refused by the sender's five only: 1 short, 2 layout, 3 text, 4 number, 5 too long or deep.
use Prim.Native.Nat.{ℕ, zero, suc, ◌+◌}
use mathlib.Core.Bool.{Bool, true, false, cond}
use mathlib.Core.List.{List, [], ◌∷◌, ◌++◌}
use lib.Dec.{T, ltb, eqb}
use lib.ListN.{length, take, drop}
use Rattle.layout.specs.Bytes.{Bytes, word}
use Rattle.layout.specs.Answer.{Answer, gives, refused, ◌>>=◌, require}
use Rattle.layout.specs.Entry.{sort_of, count_of}
use Rattle.layout.specs.Tree.{Tree}
use Rattle.layout.specs.Encode.{Part}
use Rattle.layout.specs.Read.{header, entry_ok, entry, table, parts, text, number_in, payload_in, items_in, names_in}
use Rattle.layout.specs.Read.{array_in, object_in, scalar_in, container_in, too_deep, nested, root_in, read}
use Rattle.layout.specs.Refusal.{is_one_of, sender}
use Rattle.layout.specs.Pipeline.{within}
use Rattle.layout.specs.declared.item.Kind.{Kind}
use Rattle.layout.specs.declared.item.Kind.TheVariants.{Null, String, Number, False, True, Container, Extension}
use Rattle.layout.specs.declared.refusal.Refusal.{Refusal}
use Rattle.layout.specs.declared.refusal.Refusal.TheVariants.{Short, Layout, Limit, Text, Number as NotListed, Result as NoResult}
use Rattle.layout.specs.declared.util.Header.{Header}
use Rattle.layout.specs.declared.util.Header.TheVariants.{Array, Object, Scalar}
use Rattle.layout.proofs.Decoding.{read_is}
use Rattle.std.specs.Prelude.{Ok, Err, Result}

abbrev pub RefusedBy : {A : Type 0} → (Refusal → Type 0) → Answer A → Type 0
RefusedBy P (gives a) = Unit {0}
RefusedBy P (refused x) = P x

-- The sender's numbers.
pub record Sent (P : Refusal → Type 0) : Type 0 where
  pub short : P Short
  pub layout : P Layout
  pub text : P Text
  pub number : P NotListed
  pub limit : P Limit

module _ (P : Refusal → Type 0) where
  -- One step and then the next.
  pub by_bind : {A B : Type 0} (m : Answer A) (f : A → Answer B) → RefusedBy P m → ((a : A) → RefusedBy P (f a)) → RefusedBy P (m >>= f)
  unfolding ◌>>=◌
  by_bind (gives a) f h k = k a
  by_bind (refused x) f h k = h

  pub by_require : {B : Type 0} (t : Bool) (x : Refusal) (f : Unit {0} → Answer B) → P x → RefusedBy P (f tt) → RefusedBy P (require t x >>= f)
  unfolding ◌>>=◌ require
  by_require true x f h k = k
  by_require false x f h k = h

  pub by_cond : {A : Type 0} (t : Bool) (a : A) (x : Refusal) → P x → RefusedBy P (cond t (gives a) (refused x))
  by_cond true a x h = tt
  by_cond false a x h = h

  -- 9's test.
  pub within_by : P NoResult → (t : Tree) → RefusedBy P (within t)
  unfolding within
  within_by h t = by_require _ NoResult _ h tt

  module _ (sent : Sent P) where
    abbrev Headed : Result Header Refusal → Type 0
    Headed (Err x) = P x
    Headed (Ok (Scalar n)) = Unit {0}
    Headed (Ok (Array n)) = Unit {0}
    Headed (Ok (Object n)) = Unit {0}

    header_by : (b : Bytes) → Headed (header b)
    unfolding header
    header_by b = go (ltb (length b) 4) (eqb (sort_of (word b)) 4) (eqb (sort_of (word b)) 2) (eqb (sort_of (word b)) 1) (count_of (word b))
      where
        go : (s a o c : Bool) (n : ℕ) → Headed (cond s (Err Short) (cond a (Ok (Array n)) (cond o (Ok (Object n)) (cond c (Ok (Scalar n)) (Err Layout)))))
        go true a o c n = sent.short
        go false true o c n = tt
        go false false true c n = tt
        go false false false true n = tt
        go false false false false n = sent.layout

    entry_by : (name : Bool) (w : ℕ) → RefusedBy P (entry name w)
    unfolding entry
    entry_by name w = by_cond (entry_ok name w) _ Layout sent.layout

    table_by : (n names : ℕ) (b : Bytes) → RefusedBy P (table n names b)
    table_by zero names b = tt
    table_by (suc n) zero b = by_bind (entry false (word b)) _ (entry_by false (word b)) λ e. by_bind (table n zero (drop 4 b)) _ (table_by n zero (drop 4 b)) λ es. tt
    table_by (suc n) (suc names) b = by_bind (entry true (word b)) _ (entry_by true (word b)) λ e. by_bind (table n names (drop 4 b)) _ (table_by n names (drop 4 b)) λ es. tt

    parts_by : (n names : ℕ) (b : Bytes) → RefusedBy P (parts n names b)
    unfolding parts
    parts_by n names b = by_require _ Short _ sent.short (by_bind (table n names b) _ (table_by n names b) λ es. by_require _ Layout _ sent.layout tt)

    text_by : (b : Bytes) → RefusedBy P (text b)
    unfolding text
    text_by b = by_require _ Text _ sent.text tt

    number_by : (b : Bytes) → RefusedBy P (number_in b)
    unfolding number_in
    number_by b = by_require _ NotListed _ sent.number tt

    names_by : (ps : List Part) → RefusedBy P (names_in ps)
    names_by [] = tt
    names_by (p ∷ ps) = by_bind (text p.bytes) _ (text_by p.bytes) λ n. by_bind (names_in ps) _ (names_by ps) λ ns. tt

    -- With the reader of a nested container.
    module _ (inner : Bytes → Answer Tree) (deeper : (b : Bytes) → RefusedBy P (inner b)) where
      payload_by : (k : Kind) (b : Bytes) → RefusedBy P (payload_in inner k b)
      payload_by Null b = tt
      payload_by String b = by_bind (text b) _ (text_by b) λ s. tt
      payload_by Number b = number_by b
      payload_by False b = tt
      payload_by True b = tt
      payload_by Container b = deeper b
      payload_by Extension b = tt

      items_by : (ps : List Part) → RefusedBy P (items_in inner ps)
      items_by [] = tt
      items_by (p ∷ ps) = by_bind (payload_in inner p.kind p.bytes) _ (payload_by p.kind p.bytes) λ t. by_bind (items_in inner ps) _ (items_by ps) λ ts. tt

      array_by : (n : ℕ) (b : Bytes) → RefusedBy P (array_in inner n b)
      array_by n b = by_bind (parts n 0 b) _ (parts_by n 0 b) λ ps. by_bind (items_in inner ps) _ (items_by ps) λ ts. tt

      object_by : (n : ℕ) (b : Bytes) → RefusedBy P (object_in inner n b)
      object_by n b =
          by_bind (parts (n + n) n b) _ (parts_by (n + n) n b) λ ps.
          by_bind (names_in (take n ps)) _ (names_by (take n ps)) λ ns. by_bind (items_in inner (drop n ps)) _ (items_by (drop n ps)) λ ts. tt

      container_by : (h : Result Header Refusal) → Headed h → (b : Bytes) → RefusedBy P (container_in inner h b)
      container_by (Err x) hx b = hx
      container_by (Ok (Scalar n)) hx b = sent.layout
      container_by (Ok (Array n)) hx b = array_by n b
      container_by (Ok (Object n)) hx b = object_by n b

    scalar_by : (n : ℕ) (b : Bytes) → RefusedBy P (scalar_in n b)
    scalar_by n b =
        by_require _ Layout _ sent.layout (by_require _ Short _ sent.short (
        by_bind (entry false (word b)) _ (entry_by false (word b)) λ e.
        by_require _ Layout _ sent.layout (payload_by (λ _. refused Layout) (λ _. sent.layout) e.kind (drop 4 b))))

    deep_by : (h : Result Header Refusal) → Headed h → RefusedBy P (too_deep h)
    deep_by (Err x) hx = hx
    deep_by (Ok (Scalar n)) hx = sent.layout
    deep_by (Ok (Array n)) hx = sent.limit
    deep_by (Ok (Object n)) hx = sent.limit

    nested_by : (k : ℕ) (b : Bytes) → RefusedBy P (nested k b)
    unfolding nested
    nested_by zero b = deep_by (header b) (header_by b)
    nested_by (suc k) b = container_by (nested k) (nested_by k) (header b) (header_by b) (drop 4 b)

    root_by : (h : Result Header Refusal) → Headed h → (b : Bytes) → RefusedBy P (root_in h b)
    root_by (Err x) hx b = hx
    root_by (Ok (Scalar n)) hx b = scalar_by n b
    root_by (Ok (Array n)) hx b = array_by (nested 63) (nested_by 63) n b
    root_by (Ok (Object n)) hx b = object_by (nested 63) (nested_by 63) n b

    pub read_by : (b : Bytes) → RefusedBy P (read b)
    read_by b = rw (read_is b) (by_require _ Limit _ sent.limit (root_by (header b) (header_by b) (drop 4 b)))

-- The same as the numbers of the document.
abbrev pub OneOf : List ℕ → Refusal → Type 0
OneOf ns x = T (is_one_of ns x)

-- The sender's, in any list that starts with them.
pub sent : (more : List ℕ) → Sent (OneOf (sender ++ more))
sent more = record { short = tt; layout = tt; text = tt; number = tt; limit = tt }

pub read_sent : (b : Bytes) → RefusedBy (OneOf sender) (read b)
read_sent = read_by (OneOf sender) (sent [])
