-- Object build: from what the checks and the tests of names say to the outcome.
use Prim.Native.Nat.{ℕ, zero, suc, ◌+◌, ◌*◌, ◌-◌, ◌^◌, ◌<◌, ◌≤◌}
use native.Mathlib.Omega.{arith}
use mathlib.Core.Path.{◌≡◌, refl, ap, ap₂, sym, ◌∙◌}
use mathlib.Core.Bool.{Bool, true, false, cond, ◌&&◌}
use mathlib.Core.List.{List, [], ◌∷◌, ◌++◌, append-nil}
use lib.Dec.{eqb}
use lib.ListN.{length, drop, length-append}
use lib.Bits.{bit_or, or_shifted}
use borrow.Author.Tests.{eq-eqb, ne_eqb}
use Rattle.layout.specs.Bytes.{Bytes, Octets, be32}
use Rattle.layout.specs.Answer.{gives, refused, ◌>>=◌, require}
use Rattle.layout.specs.Entry.{code_of, entry_at, kind_of}
use Rattle.layout.specs.Tree.{Tree, null, boolean, number, string, extension, array, object, Items, none, item, Members, names, pair}
use Rattle.layout.specs.Encode.{Part, entries, payloads, name_parts, item_parts, member_parts, part, encode}
use Rattle.layout.specs.Read.{header, read}
use Rattle.layout.specs.Limits.{depth, depth_items, depth_members}
use Rattle.layout.specs.Order.{rising}
use Rattle.layout.specs.Sound.{Rising}
use Rattle.layout.specs.Place.{parts_at, rising_parts}
use Rattle.layout.specs.Check.{checked}
use Rattle.layout.specs.Room.{EndedIn}
use Rattle.layout.specs.Patch.{patch}
use Rattle.layout.specs.declared.refusal.Refusal.{Refusal}
use Rattle.layout.specs.declared.refusal.Refusal.TheVariants.{Kind, Repeated}
use Rattle.layout.specs.declared.util.Header.{Header}
use Rattle.layout.specs.declared.util.Header.TheVariants.{Array}
use Rattle.layout.proofs.Words.{drop_be32}
use Rattle.layout.proofs.Fields.{code_lt}
use Rattle.layout.proofs.Decoding.{names_pair, parts_pair, payloads_append}
use Rattle.layout.proofs.Encoding.{array_fits, names_count}
use Rattle.layout.proofs.Entries.{is_string}
use Rattle.layout.proofs.Level.{AllFit}
use Rattle.layout.proofs.Readables.{record_of_length, length_encode}
use Rattle.layout.proofs.Places.{parts_at_record}
use Rattle.layout.proofs.Sounds.{rising_test, rising_names}
use Rattle.layout.proofs.Nestings.{readable_gives, refused_as}
use Rattle.builders.specs.Order.{in_order, distinct}
use Rattle.builders.specs.Build.{items_of, texts_of, count, build, on_two}
use Rattle.builders.specs.Join.{given_start, Lies, joined}
use Rattle.builders.specs.Room.{room_for, sized}
use Rattle.builders.specs.declared.search.Kept.TheVariants.{All}
use Rattle.layout.specs.Parts.{texts, name_in, value_in, members_at, pairs_of, parts_of}
use Rattle.builders.specs.Names.{strings_at, Pairs}
use Rattle.builders.specs.Search.{kept_of}
use Rattle.builders.specs.Sorted.{sorted}
use Rattle.builders.specs.Weave.{own_entry, woven}
use Rattle.builders.specs.declared.join.Given.TheVariants.{Table}
use Rattle.layout.specs.declared.parts.Places.{Places}
use Rattle.builders.proofs.InOrders.{rising_in_order, rising_distinct, in_order_count, in_order_names, in_order_size, in_order_depth}
use Rattle.builders.proofs.Searches.{kept_all}
use Rattle.layout.proofs.Patches.{patch_none}
use Rattle.builders.proofs.Stands.{Stand, stand_sorted, stand_from}
use Rattle.builders.proofs.Weaves.{woven_record, entries_append}
use Rattle.builders.proofs.Joins.{Gives, few, count_table}
use Rattle.builders.proofs.Rooms.{sized_refused, sized_done}
use Rattle.builders.proofs.Knowns.{Known, known, BothOctets, no_array, an_array}
use Rattle.builders.proofs.Appends.{array_lies, items_given}
use Rattle.builders.proofs.Twos.{two_left, two_right, two_edit, two_sized}
use Rattle.std.specs.Prelude.{Ok, Err, Some, Result}
use Rattle.layout.specs.Ended.{Ending}

-- Items that are all strings are names.
abbrev all_strings : List Part → Bool
all_strings [] = true
all_strings (p ∷ ps) = is_string p.kind && all_strings ps

string_code : (c : ℕ) → c < 8 → eqb c 1 ≡ is_string (kind_of c)
unfolding kind_of
string_code zero h = refl
string_code (suc zero) h = refl
string_code (suc (suc zero)) h = refl
string_code (suc (suc (suc zero))) h = refl
string_code (suc (suc (suc (suc zero)))) h = refl
string_code (suc (suc (suc (suc (suc zero))))) h = refl
string_code (suc (suc (suc (suc (suc (suc zero)))))) h = refl
string_code (suc (suc (suc (suc (suc (suc (suc zero))))))) h = refl
string_code (suc (suc (suc (suc (suc (suc (suc (suc c)))))))) h = let z : ⊥ = omega arith in absurd z

strings_parts : (s : Bytes) (i p k : ℕ) → strings_at s i k ≡ all_strings (parts_at s i p k)
unfolding strings_at parts_at
strings_parts s i p zero = refl
strings_parts s i p (suc k) = ap₂ ◌&&◌ (string_code (code_of (entry_at s i)) (code_lt (entry_at s i))) (strings_parts s (i + 1) _ k)

cond_text : (b : Bool) (n : Bytes) (ns : List Bytes)
    → (cond b (gives ns) (refused Kind) >>= λ ms. gives (n ∷ ms)) ≡ cond b (gives (n ∷ ns)) (refused Kind)
unfolding ◌>>=◌
cond_text true n ns = refl
cond_text false n ns = refl

texts_by : (ts : Items) → texts_of ts ≡ cond (all_strings (item_parts ts)) (gives (texts (item_parts ts))) (refused Kind)
unfolding ◌>>=◌
texts_by none = refl
texts_by (item null ts) = refl
texts_by (item (boolean true) ts) = refl
texts_by (item (boolean false) ts) = refl
texts_by (item (number b) ts) = refl
texts_by (item (string b) ts) = ap (λ m. m >>= λ ns. gives (b ∷ ns)) (texts_by ts) ∙ cond_text (all_strings (item_parts ts)) b _
texts_by (item (extension b) ts) = refl
texts_by (item (array us) ts) = refl
texts_by (item (object ms) ts) = refl

strings_named : (ts : Items) → all_strings (item_parts ts) ≡ true → item_parts ts ≡ name_parts (texts (item_parts ts))
strings_named none h = refl
strings_named (item null ts) h = cc
strings_named (item (boolean true) ts) h = cc
strings_named (item (boolean false) ts) h = cc
strings_named (item (number b) ts) h = cc
strings_named (item (string b) ts) h = ap (λ ps. part (string b) ∷ ps) (strings_named ts h)
strings_named (item (extension b) ts) h = cc
strings_named (item (array us) ts) h = cc
strings_named (item (object ms) ts) h = cc

pub count_item_parts : (ts : Items) → count ts ≡ length (item_parts ts)
count_item_parts none = refl
count_item_parts (item t ts) = ap suc (count_item_parts ts)

pub length_texts : (ps : List Part) → length (texts ps) ≡ length ps
length_texts [] = refl
length_texts (p ∷ ps) = ap suc (length_texts ps)

pair_depth : (ns : List Bytes) (us : Items) → depth_members (pair ns us) ≤ depth_items us
pair_depth [] us = omega arith
pair_depth (n ∷ ns) none = omega arith
pair_depth (n ∷ ns) (item u us) = omega (arith, pair_depth ns us)

pub array_parts : (s : Bytes) (n : ℕ) (ts : Items) → Known s (array ts) → n ≡ length (item_parts ts)
    → (parts_of s n ≡ item_parts ts) × AllFit (item_parts ts)
array_parts s n ts k e =
    let f = array_fits ts (omega (arith, k.short, ap length k.bytes)) in
    (rw (e, ← k.bytes) (parts_at_record (2 ^ 31 + length (item_parts ts)) 0 (item_parts ts) f.fits tt), f.fits)

-- What gives 7.
no_names : (t u : Tree) → items_of t ≡ refused Kind → build t u ≡ refused Kind
unfolding build ◌>>=◌
no_names t u e = rw e

no_values : (t u : Tree) → items_of u ≡ refused Kind → build t u ≡ refused Kind
unfolding build ◌>>=◌
no_values null u e = refl
no_values (boolean x) u e = refl
no_values (number b) u e = refl
no_values (string b) u e = refl
no_values (extension b) u e = refl
no_values (array ts) u e = rw e
no_values (object ms) u e = refl

unequal : (ts us : Items) → (count ts ≡ count us → ⊥) → build (array ts) (array us) ≡ refused Kind
unfolding build ◌>>=◌ require
unequal ts us q = rw (texts_by ts, ne_eqb (count ts) (count us) q) (go (all_strings (item_parts ts)))
  where
    go : (b : Bool) → (cond b (gives (texts (item_parts ts))) (refused Kind) >>= λ ns. require false Kind >>= λ _.
        require (distinct ns) Repeated >>= λ _. gives (object (in_order (pair ns us)))) ≡ refused Kind
    go true = refl
    go false = refl

-- Arrays of as many strings as there are values.
module _ (ks vs : Bytes) (n : ℕ) (ts us : Items) (kk : Known ks (array ts)) (kv : Known vs (array us))
    (en : n ≡ length (item_parts ts)) (eu : n ≡ length (item_parts us)) where
  texts_none : strings_at ks 0 n ≡ false → build (array ts) (array us) ≡ refused Kind
  unfolding build ◌>>=◌
  texts_none q =
      let z : all_strings (item_parts ts) ≡ false =
      ap all_strings (sym (array_parts ks n ts kk en).0) ∙ sym (strings_parts ks 0 (4 + 4 * n) n) ∙ q in
      rw (texts_by ts, z)

  module _ (st : strings_at ks 0 n ≡ true) (o : Bytes) (room : ℕ) where
    abbrev ns : List Bytes
    ns = texts (item_parts ts)

    abbrev ms : Members
    ms = pair (texts (item_parts ts)) us

    parts_are : parts_of ks n ≡ item_parts ts
    parts_are = (array_parts ks n ts kk en).0

    strings : all_strings (item_parts ts) ≡ true
    strings = ap all_strings (sym parts_are) ∙ sym (strings_parts ks 0 (4 + 4 * n) n) ∙ st

    named : item_parts ts ≡ name_parts ns
    named = strings_named ts strings

    as_many : length ns ≡ length (item_parts us)
    as_many = length_texts (item_parts ts) ∙ sym en ∙ eu

    names_ms : names ms ≡ ns
    names_ms = names_pair ns us as_many

    parts_ms : member_parts ms ≡ item_parts us
    parts_ms = parts_pair ns us as_many

    built : (d : Bool) → distinct ns ≡ d
        → build (array ts) (array us) ≡ cond d (gives (object (in_order ms))) (refused Repeated)
    unfolding build ◌>>=◌ require
    built d e =
        let c : count ts ≡ count us = count_item_parts ts ∙ sym en ∙ eu ∙ sym (count_item_parts us) in
        rw (texts_by ts, strings, eq-eqb (count ts) (count us) c, e) (by_test d)
      where
        by_test : (d : Bool)
            → (require d Repeated >>= λ _. gives (object (in_order ms))) ≡ cond d (gives (object (in_order ms))) (refused Repeated)
        by_test true = refl
        by_test false = refl

    deep : depth (object (in_order ms)) ≤ 64
    deep = omega (arith, in_order_depth ms, pair_depth ns us, kv.deep)

    -- A result is what is stored, where its names are distinct.
    ends : (e : Ending) (o' b : Bytes) → distinct ns ≡ true → b ≡ encode (object (in_order ms))
        → EndedIn e o o' (sized room b)
        → EndedIn e o o' (on_two build ks vs room)
    ends e o' b d q h =
        two_sized build ks vs o room (array ts) kk.reads (array us) kv.reads (object (in_order ms)) (built true d) e o' b deep q h

    pub build_repeated : distinct (texts (parts_of ks n)) ≡ false
        → EndedIn (Err Repeated) o o (on_two build ks vs room)
    build_repeated q =
        two_edit build ks vs o room (array ts) kk.reads (array us) kv.reads Repeated
        (built false (ap (λ ps. distinct (texts ps)) (sym parts_are) ∙ q))

    given_keys : Gives ks (Table n) ts
    given_keys = items_given ks n ts kk en

    given_vals : Gives vs (Table n) us
    given_vals = items_given vs n us kv eu

    header_word : bit_or (2 ^ 30) n ≡ 2 ^ 30 + length (member_parts ms)
    header_word =
        or_shifted 1 30 n (omega (arith, few ks (Table n) (array_lies ks n ts kk en), count_table (Table n) n refl))
        ∙ ap (λ k. 2 ^ 30 + k) (eu ∙ sym (ap length parts_ms))

    -- Names that rise: the two tables and the two rows of payloads as they stand.
    joined_object : joined (bit_or (2 ^ 30) n) ks (Table n) vs (Table n) ≡ encode (object ms)
    unfolding joined
    joined_object =
        rw (
          header_word,
          given_keys.table,
          given_vals.table,
          given_keys.rest,
          given_vals.rest,
          names_ms,
          ← named,
          parts_ms,
          entries_append,
          payloads_append,
        )

    pub build_rising : rising_parts (parts_of ks n) ≡ true → (e : Ending) (o' : Bytes)
        → EndedIn e o o' (sized room (joined (bit_or (2 ^ 30) n) ks (Table n) vs (Table n)))
        → EndedIn e o o' (on_two build ks vs room)
    build_rising q e o' h =
        let r : rising ns ≡ true = sym (rising_names ns) ∙ ap rising_parts (sym named) ∙ ap rising_parts (sym parts_are) ∙ q in
        let up : Rising ns = (rising_test ns).0 (rw r tt) in
        let same : in_order ms ≡ ms = rising_in_order ms (rw names_ms up) in
        ends e o' _ (rising_distinct ns up) (joined_object ∙ ap (λ m. encode (object m)) (sym same)) h

    -- Other names: the members in byte order, one after another.
    module _ (dist : distinct (texts (parts_of ks n)) ≡ true) where
      distinct_ns : distinct ns ≡ true
      distinct_ns = ap (λ ps. distinct (texts ps)) (sym parts_are) ∙ dist

      distinct_ms : distinct (names ms) ≡ true
      distinct_ms = ap distinct names_ms ∙ distinct_ns

      length_keys : length ks ≡ 4 + 4 * n + length (payloads (item_parts ts))
      length_keys = omega (arith, ap length kk.bytes, record_of_length (2 ^ 31 + length (item_parts ts)) (item_parts ts))

      length_vals : length vs ≡ 4 + 4 * n + length (payloads (item_parts us))
      length_vals = omega (arith, ap length kv.bytes, record_of_length (2 ^ 31 + length (item_parts us)) (item_parts us))

      name_bytes : length (payloads (name_parts (names ms))) ≡ length (payloads (item_parts ts))
      name_bytes = ap (λ k. length (payloads k)) (ap name_parts names_ms ∙ sym named)

      result_length : length ks + (length vs - 4) ≡ length (encode (object (in_order ms)))
      result_length =
          omega (
            arith,
            length_keys,
            length_vals,
            name_bytes,
            ap length parts_ms,
            ap (λ k. length (payloads k)) parts_ms,
            names_count ms,
            length_encode (object (in_order ms)),
            in_order_size ms distinct_ms,
            length_encode (object ms),
            record_of_length (2 ^ 30 + length (member_parts ms)) (name_parts (names ms) ++ member_parts ms),
            length-append (name_parts (names ms)) (member_parts ms),
            ap length (payloads_append (name_parts (names ms)) (member_parts ms)),
            length-append (payloads (name_parts (names ms))) (payloads (member_parts ms)),
          )

      abbrev from : Places
      from = pairs_of n

      behind_header : (s : Bytes) (ws : Items) → Known s (array ws)
          → drop 4 s ≡ entries (item_parts ws) ++ payloads (item_parts ws)
      behind_header s ws k =
          ap (drop 4) (sym k.bytes) ∙ drop_be32 (2 ^ 31 + length (item_parts ws)) (entries (item_parts ws) ++ payloads (item_parts ws))

      stand : Stand (name_in ks) (value_in vs) own_entry (members_at ks vs from n) ms
      unfolding members_at given_start
      stand =
          let ln : n ≡ length ns = en ∙ sym (length_texts (item_parts ts)) in
          let fk : AllFit (name_parts ns) = rw (← named) (array_parts ks n ts kk en).1 in
          let e₁ : drop 4 ks ≡ entries (name_parts ns) ++ payloads (name_parts ns) = rw (← named) (behind_header ks ts kk) in
          let e₂ : drop (4 + 4 * n) ks ≡ payloads (name_parts ns) ++ [] = rw (← named, append-nil (payloads (item_parts ts))) given_keys.rest in
          let e₃ : drop (4 + 4 * n) vs ≡ payloads (item_parts us) ++ [] = rw (append-nil (payloads (item_parts us))) given_vals.rest in
          let all = stand_from ks vs 4 4 (4 + 4 * n) (4 + 4 * n) ns us (payloads (name_parts ns)) [] (payloads (item_parts us)) [] as_many
          fk (array_parts vs n us kv eu).1 e₁ e₂ (behind_header vs us kv) e₃ in
          rw (← ln) at all

      module _ (len : ℕ) (el : len ≡ length ks + (length vs - 4)) (serves : Result (Unit {0}) Refusal) (hs : serves ≡ room_for len room) where
        pub sorted_refused : (x : Refusal) → serves ≡ Err x → EndedIn (Err x) o o (on_two build ks vs room)
        sorted_refused x q =
            ends _ o _ distinct_ns refl (sized_refused (encode (object (in_order ms))) o room len (el ∙ result_length) serves hs x q)

        -- Lent no bytes, nothing is stored.
        pub sorted_measured : serves ≡ Ok tt → length o ≡ 0 → EndedIn (Ok (Some len)) o o (on_two build ks vs room)
        sorted_measured qs h =
            let b = encode (object (in_order ms)) in
            ends _ o _ distinct_ns refl (sized_done b o room len (el ∙ result_length) serves hs o qs (patch_none o 0 b h))

        pub sorted_done : (w : ℕ) (o₁ o₂ : Bytes) → serves ≡ Ok tt → w ≡ bit_or (2 ^ 30) n → o₁ ≡ patch o 0 (be32 w)
            → o₂ ≡ woven (name_in ks) (value_in vs) own_entry o₁ 4 (4 + 4 * n) (4 + 4 * n + 4 * n) (length ks + 4 * n)
            (sorted (name_in ks) (members_at ks vs from n))
            → EndedIn (Ok (Some len)) o o₂ (on_two build ks vs room)
        sorted_done w o₁ o₂ qs ew e₁ e₂ =
            let d : length ks + 4 * n ≡ 4 + 4 * n + 4 * n + length (payloads (name_parts (names (in_order ms)))) =
            omega (arith, length_keys, name_bytes, in_order_names ms distinct_ms) in
            let k : n ≡ length (member_parts (in_order ms)) = eu ∙ sym (ap length parts_ms) ∙ sym (in_order_count ms distinct_ms) in
            let hw : w ≡ 2 ^ 30 + n = ew ∙ header_word ∙ ap (λ j. 2 ^ 30 + j) (ap length parts_ms ∙ sym eu) in
            let st = stand_sorted (name_in ks) (value_in vs) own_entry (members_at ks vs from n) ms stand in
            let r = woven_record (name_in ks) (value_in vs) own_entry _ (in_order ms) o o₁ o₂ 0 n _ _ _ _ st k refl refl refl d (rw (← hw) e₁) e₂ in
            ends _ o₂ _ distinct_ns refl (sized_done (encode (object (in_order ms))) o room len (el ∙ result_length) serves hs o₂ qs r)

-- What a readable array is.
pub array_known : (s : Bytes) (n : ℕ) → Octets s → checked (read s) ≡ Ok tt → header s ≡ Ok (Array n)
    → (ts : Items) × Known s (array ts) × (n ≡ length (item_parts ts))
array_known s n o c h =
    let w = readable_gives (read s) (Ok tt) (sym c) refl in
    let k = known s w.0 o w.1 in
    let a = an_array w.0 n (sym k.head ∙ h) in
    (a.0, rw a.1 at k, a.2)

-- How much there is, in the code's terms.
pub record Bounds (ks vs : Bytes) (n : ℕ) : Type 0 where
  pub few : n ≤ 16384
  pub keys_table : 4 + 4 * n ≤ length ks
  pub keys : length ks ≤ 65536
  pub vals_table : 4 + 4 * n ≤ length vs
  pub vals : length vs ≤ 65536

-- Bytes that are n names with n values.
pub record Paired (ks vs : Bytes) (n : ℕ) : Type 0 where
  pub octets : BothOctets ks vs
  pub pairs : Pairs ks vs n

module _ {ks vs : Bytes} {n : ℕ} (p : Paired ks vs n) where
  keys_known : (ts : Items) × Known ks (array ts) × (n ≡ length (item_parts ts))
  keys_known = array_known ks n p.octets.left p.pairs.names p.pairs.keys

  vals_known : (us : Items) × Known vs (array us) × (n ≡ length (item_parts us))
  vals_known = array_known vs n p.octets.right p.pairs.values p.pairs.vals

  pub pairs_lie : Lies ks (Table n) × Lies vs (Table n)
  pairs_lie = (
    array_lies ks n keys_known.0 keys_known.1 keys_known.2,
    array_lies vs n vals_known.0 vals_known.1 vals_known.2,
  )

  pub pairs_bounds : Bounds ks vs n
  unfolding given_start
  pairs_bounds =
      record {
        few = omega (arith, pairs_lie.0.starts, pairs_lie.0.short);
        keys_table = pairs_lie.0.starts;
        keys = pairs_lie.0.short;
        vals_table = pairs_lie.1.starts;
        vals = pairs_lie.1.short;
      }

  -- How the object of these pairs ends, with the buffer `o` before the call.
  module _ (o : Bytes) (room : ℕ) where
    abbrev On : Ending → Bytes → Type 0
    On e o' = EndedIn e o o' (on_two build ks vs room)

    pub pairs_repeated : distinct (texts (parts_of ks n)) ≡ false → On (Err Repeated) o
    pairs_repeated =
        build_repeated ks vs n keys_known.0 vals_known.0 keys_known.1 vals_known.1 keys_known.2 vals_known.2
        p.pairs.strings o room

    pub pairs_rising : rising_parts (parts_of ks n) ≡ true → (e : Ending) (o' : Bytes)
        → EndedIn e o o' (sized room (joined (bit_or (2 ^ 30) n) ks (Table n) vs (Table n))) → On e o'
    pairs_rising =
        build_rising ks vs n keys_known.0 vals_known.0 keys_known.1 vals_known.1 keys_known.2 vals_known.2
        p.pairs.strings o room

    module _ (dist : distinct (texts (parts_of ks n)) ≡ true) (len : ℕ) (el : len ≡ length ks + (length vs - 4))
        (serves : Result (Unit {0}) Refusal) (hs : serves ≡ room_for len room) where
      pub pairs_refused : (x : Refusal) → serves ≡ Err x → On (Err x) o
      pairs_refused =
          sorted_refused ks vs n keys_known.0 vals_known.0 keys_known.1 vals_known.1 keys_known.2 vals_known.2
          p.pairs.strings o room dist len el serves hs

      pub pairs_measured : serves ≡ Ok tt → length o ≡ 0 → On (Ok (Some len)) o
      pairs_measured =
          sorted_measured ks vs n keys_known.0 vals_known.0 keys_known.1 vals_known.1 keys_known.2 vals_known.2
          p.pairs.strings o room dist len el serves hs

      pub pairs_done : (w : ℕ) (o₁ o₂ : Bytes) → serves ≡ Ok tt → w ≡ bit_or (2 ^ 30) n → o₁ ≡ patch o 0 (be32 w)
          → o₂ ≡ woven (name_in ks) (value_in vs) own_entry o₁ 4 (4 + 4 * n) (4 + 4 * n + 4 * n) (length ks + 4 * n)
          (sorted (name_in ks)
          (kept_of All 0 (members_at ks vs (pairs_of n) n)))
          → On (Ok (Some len)) o₂
      pairs_done w o₁ o₂ qs ew e₁ e₂ =
          sorted_done ks vs n keys_known.0 vals_known.0 keys_known.1 vals_known.1 keys_known.2 vals_known.2
          p.pairs.strings o room dist len el serves hs w o₁ o₂ qs ew e₁ (rw (kept_all 0) at e₂)

-- Before the pairs are known: what the tests so far have shown of the names and the values, one record for each test passed.
pub record NamesRead (ks vs : Bytes) : Type 0 where
  pub octets : BothOctets ks vs
  pub names : checked (read ks) ≡ Ok tt

pub record BothRead (ks vs : Bytes) : Type 0 where
  pub before : NamesRead ks vs
  pub values : checked (read vs) ≡ Ok tt

pub record NamesCounted (ks vs : Bytes) (n : ℕ) : Type 0 where
  pub before : BothRead ks vs
  pub count : header ks ≡ Ok (Array n)

pub record BothCounted (ks vs : Bytes) (n m : ℕ) : Type 0 where
  pub before : NamesCounted ks vs n
  pub count : header vs ≡ Ok (Array m)

-- The first test that fails decides the answer.
abbrev Answers : Bytes → Bytes → Bytes → ℕ → Ending → Type 0
Answers ks vs o room e = EndedIn e o o (on_two build ks vs room)

module _ {ks vs : Bytes} where
  pub build_left : BothOctets ks vs → {o : Bytes} (room : ℕ) {c : Result (Unit {0}) Refusal} → c ≡ checked (read ks) → {x : Refusal} → c ≡ Err x
      → Answers ks vs o room (Err x)
  build_left s {o} room {c} hc {x} q = two_left build ks vs o room x (refused_as (read ks) c x hc q)

  module _ (s : NamesRead ks vs) where
    left : (t : Tree) × Known ks t
    left = let w = readable_gives (read ks) (Ok tt) (sym s.names) refl in (w.0, known ks w.0 s.octets.left w.1)

    pub build_right : {o : Bytes} (room : ℕ) {d : Result (Unit {0}) Refusal} → d ≡ checked (read vs) → {x : Refusal} → d ≡ Err x
        → Answers ks vs o room (Err x)
    build_right {o} room {d} hd {x} q = two_right build ks vs o room left.0 left.1.reads x (refused_as (read vs) d x hd q)

  module _ (s : BothRead ks vs) where
    abbrev keys_at : (t : Tree) × Known ks t
    keys_at = left s.before

    right : (u : Tree) × Known vs u
    right =
        let w = readable_gives (read vs) (Ok tt) (sym s.values) refl in
        (w.0, known vs w.0 s.before.octets.right w.1)

    kind : {o : Bytes} (room : ℕ) → build keys_at.0 right.0 ≡ refused Kind → Answers ks vs o room (Err Kind)
    kind {o} room = two_edit build ks vs o room keys_at.0 keys_at.1.reads right.0 right.1.reads Kind

    pub build_no_names : {o : Bytes} (room : ℕ) {h : Result Header Refusal} → h ≡ header ks → ((k : ℕ) → h ≡ Ok (Array k) → ⊥)
        → Answers ks vs o room (Err Kind)
    build_no_names room hh q = kind room (no_names keys_at.0 right.0 (no_array keys_at.0 (λ k e. q k (hh ∙ keys_at.1.head ∙ e))))

    pub build_no_values : {o : Bytes} (room : ℕ) {j : Result Header Refusal} → j ≡ header vs → ((k : ℕ) → j ≡ Ok (Array k) → ⊥)
        → Answers ks vs o room (Err Kind)
    build_no_values room hj q = kind room (no_values keys_at.0 right.0 (no_array right.0 (λ k e. q k (hj ∙ right.1.head ∙ e))))

  module _ {n m : ℕ} (s : BothCounted ks vs n m) where
    abbrev both : BothRead ks vs
    both = s.before.before

    keys : (ts : Items) × ((left both.before).0 ≡ array ts) × (n ≡ length (item_parts ts))
    keys = an_array (left both.before).0 n (sym (left both.before).1.head ∙ s.before.count)

    vals : (us : Items) × ((right both).0 ≡ array us) × (m ≡ length (item_parts us))
    vals = an_array (right both).0 m (sym (right both).1.head ∙ s.count)

    pub build_unequal : {o : Bytes} (room : ℕ) → (n ≡ m → ⊥) → Answers ks vs o room (Err Kind)
    build_unequal room q =
        kind both room (rw (keys.1, vals.1) (unequal keys.0 vals.0
        (λ e. q (keys.2 ∙ sym (count_item_parts keys.0) ∙ e ∙ count_item_parts vals.0 ∙ sym vals.2))))

    module _ (e : n ≡ m) {g : Bool} (hg : g ≡ strings_at ks 0 n) where
      pub build_no_strings : {o : Bytes} (room : ℕ) → g ≡ false → Answers ks vs o room (Err Kind)
      build_no_strings room q =
          kind both room (rw (keys.1, vals.1) (texts_none ks vs n keys.0 vals.0
          (rw keys.1 at (left both.before).1) (rw vals.1 at (right both).1) keys.2 (e ∙ vals.2) (sym hg ∙ q)))

      pub build_pairs : g ≡ true → Pairs ks vs n
      build_pairs q =
          record {
            names = both.before.names;
            values = both.values;
            keys = s.before.count;
            vals = s.count ∙ ap (λ x. Ok (Array x)) (sym e);
            strings = sym hg ∙ q;
          }
