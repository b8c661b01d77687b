-- Worked runs: what the statement of demand 3 says of them. Two lists reach the same bytes by different edits, with absent and
-- refused calls on the way, though the account writes the members of the one and the other value in another order; two others
-- differ in the side that comes last; and at the edges 6, 8, 9, one place named twice, and no call at all.
use Prim.Native.Nat.{ℕ, zero, suc, ◌+◌}
use native.Mathlib.Omega.{arith}
use mathlib.Core.Path.{◌≡◌, refl, ap}
use mathlib.Core.List.{[], ◌∷◌, ◌++◌}
use lib.ListN.{length, get_or, replicate}
use Rattle.layout.specs.Bytes.{Bytes, be32}
use Rattle.layout.specs.Order.{order, same_bytes}
use Rattle.layout.specs.Tree.{Tree, array, none, item}
use Rattle.layout.specs.Read.{read}
use Rattle.layout.specs.Sound.{Sound}
use Rattle.layout.specs.Value.{Same}
use Rattle.layout.specs.declared.refusal.Refusal.TheVariants.{Path, Kind, Repeated, Result, Buffer}
use Rattle.builders.specs.Order.{has}
use Rattle.runs.specs.declared.call.Edit.{Edit}
use Rattle.runs.specs.declared.call.Edit.TheVariants.{Get, Delete, Concat, Strip, Append, Build}
use Rattle.runs.specs.Call.{Call, outcome}
use Rattle.runs.specs.Account.{edited}
use Rattle.runs.specs.Demand.{SoundWith, Start, after_run}
use Rattle.runs.specs.Seen.{History, after_seen}
use Rattle.runs.proofs.Demands.{demand_3}
use Rattle.runs.proofs.Histories.{demand_3_seen}
use Rattle.runs.proofs.Samples.{one, one_value, one_sound, true_a, true_a_value, true_a_sound, true_b, true_b_value, true_b_sound}
use Rattle.runs.proofs.Samples.{both, a_and_b, b_and_a, both_sound, name_list, name_list_value, name_list_sound, name_a, name_c}
use Rattle.runs.proofs.Samples.{twice_a, twice_a_value, twice_a_sound, value_list, value_list_value, value_list_sound, sound_with}
use Rattle.std.specs.Prelude.{Ok, Err, Some, None}

-- A call with a buffer of 24 bytes of 255, which is what {"a":1,"b":true} takes, and one with a byte less.
abbrev call : Edit → ℕ → ℕ → Bytes → Call
call e left right path = record { edit = e; left = left; right = right; path = path; buffer = replicate 24 255 }

abbrev short_call : Edit → ℕ → ℕ → Call
short_call e left right = record { edit = e; left = left; right = right; path = []; buffer = replicate 23 0 }

-- ---- two lists that reach the same bytes

-- {"a":1} overlaid with {"b":true}; then a name that is not there is looked up, and the overlaid record stripped.
overlaid : Start
unfolding outcome be32 order same_bytes has
overlaid =
    record {
      calls = call Concat 0 1 [] ∷ call Get 2 0 name_c ∷ call Strip 2 0 [] ∷ [];
      shelf = one ∷ true_b ∷ [];
      values = one_value ∷ true_b_value ∷ [];
      some_record = omega arith;
      all_sound = (one_sound, (true_b_sound, tt));
      takes = ((omega arith, λ _. omega arith), ((omega arith, λ k. absurd k), ((omega arith, λ k. absurd k), tt)));
    }

overlaid_endings : (after_run overlaid).ended ≡ (Ok (Some 24)) ∷ (Ok None) ∷ (Ok (Some 24)) ∷ []
unfolding overlaid
overlaid_endings = refl

overlaid_records : (after_run overlaid).records ≡ one ∷ true_b ∷ both ∷ both ∷ []
unfolding overlaid
overlaid_records = refl

-- The account has the right's member first.
overlaid_values : (after_run overlaid).values ≡ one_value ∷ true_b_value ∷ b_and_a ∷ b_and_a ∷ []
unfolding overlaid edited
overlaid_values = refl

-- An object built of ["a","b"] and [1,true], once the buffer serves; to append to it is refused.
built : Start
unfolding outcome be32 order same_bytes has
built =
    record {
      calls = short_call Build 0 1 ∷ call Build 0 1 [] ∷ call Append 2 0 [] ∷ [];
      shelf = name_list ∷ value_list ∷ [];
      values = name_list_value ∷ value_list_value ∷ [];
      some_record = omega arith;
      all_sound = (name_list_sound, (value_list_sound, tt));
      takes = ((omega arith, λ _. omega arith), ((omega arith, λ _. omega arith), ((omega arith, λ _. omega arith), tt)));
    }

built_endings : (after_run built).ended ≡ Err Buffer ∷ (Ok (Some 24)) ∷ Err Kind ∷ []
unfolding built
built_endings = refl

built_records : (after_run built).records ≡ name_list ∷ value_list ∷ both ∷ []
unfolding built
built_records = refl

-- The account has the names in turn.
built_values : (after_run built).values ≡ name_list_value ∷ value_list_value ∷ a_and_b ∷ []
unfolding built edited
built_values = refl

-- Of the seven records the third and the last have equal bytes, and so their values are equal.
same_value : Same b_and_a a_and_b
unfolding overlaid built edited
same_value = ((demand_3 overlaid built).equal 2 6 (omega arith) (omega arith)).0 refl

-- ---- two lists that do not

-- {"a":1} and {"a":true}: of a shared name the right one's value counts.
one_last : Start
unfolding outcome be32 order same_bytes has
one_last =
    record {
      calls = call Concat 1 0 [] ∷ [];
      shelf = one ∷ true_a ∷ [];
      values = one_value ∷ true_a_value ∷ [];
      some_record = omega arith;
      all_sound = (one_sound, (true_a_sound, tt));
      takes = ((omega arith, λ _. omega arith), tt);
    }

true_last : Start
unfolding outcome be32 order same_bytes has
true_last =
    record {
      calls = call Concat 0 1 [] ∷ [];
      shelf = one ∷ true_a ∷ [];
      values = one_value ∷ true_a_value ∷ [];
      some_record = omega arith;
      all_sound = (one_sound, (true_a_sound, tt));
      takes = ((omega arith, λ _. omega arith), tt);
    }

one_last_records : (after_run one_last).records ≡ one ∷ true_a ∷ one ∷ []
unfolding one_last
one_last_records = refl

true_last_records : (after_run true_last).records ≡ one ∷ true_a ∷ true_a ∷ []
unfolding true_last
true_last_records = refl

-- The third and the last of the six: their bytes differ, and so do their values.
other_bytes : one ≡ true_a → ⊥
other_bytes e = let z : ◌≡◌ {A = ℕ} 0x20 0x40 = ap (λ (b : Bytes). get_or b 8 0) e in omega arith

other_value : Same one_value true_a_value → ⊥
unfolding one_last true_last edited
other_value h = other_bytes (((demand_3 one_last true_last).equal 2 5 (omega arith) (omega arith)).1 h)

-- ---- at the edges

-- From {"a":1,"b":true}, whose value is given in the other order, and ["a","a"]: "a" is deleted; a path of no bytes is 6; the object is
-- overlaid with itself; and ["a","a"] as names, with itself as values, is 8.
edges : Start
unfolding outcome be32 order same_bytes has
edges =
    record {
      calls = call Delete 0 0 name_a ∷ call Get 0 0 [] ∷ call Concat 0 0 [] ∷ call Build 1 1 [] ∷ [];
      shelf = both ∷ twice_a ∷ [];
      values = b_and_a ∷ twice_a_value ∷ [];
      some_record = omega arith;
      all_sound = (both_sound, (twice_a_sound, tt));
      takes = (
        (omega arith, λ k. absurd k),
        ((omega arith, λ k. absurd k), ((omega arith, λ _. omega arith), ((omega arith, λ _. omega arith), tt))),
      );
    }

edges_endings : (after_run edges).ended ≡ (Ok (Some 13)) ∷ Err Path ∷ (Ok (Some 24)) ∷ Err Repeated ∷ []
unfolding edges
edges_endings = refl

edges_records : (after_run edges).records ≡ both ∷ twice_a ∷ true_b ∷ both ∷ []
unfolding edges
edges_records = refl

edges_values : (after_run edges).values ≡ b_and_a ∷ twice_a_value ∷ true_b_value ∷ b_and_a ∷ []
unfolding edges edited
edges_values = refl

-- An array in an array, and so on: at 64 levels nothing can be put around it. 9 comes before 10, though the buffer is short too.
abbrev nested : ℕ → Bytes
nested zero = 0x80 ∷ 0 ∷ 0 ∷ 0 ∷ []
nested (suc k) = 0x80 ∷ 0 ∷ 0 ∷ 1 ∷ be32 (0x50000000 + length (nested k)) ++ nested k

abbrev nested_value : ℕ → Tree
nested_value zero = array none
nested_value (suc k) = array (item (nested_value k) none)

nested_tree_sound : (k : ℕ) → Sound (nested_value k)
nested_tree_sound zero = tt
nested_tree_sound (suc k) = (nested_tree_sound k, tt)

nested_sound : SoundWith (nested 63) (nested_value 63)
unfolding read be32
nested_sound = sound_with (nested 63) (nested_value 63) tt refl (nested_tree_sound 63)

deepest : Start
unfolding outcome be32
deepest =
    record {
      calls = call Append 0 0 [] ∷ [];
      shelf = nested 63 ∷ [];
      values = nested_value 63 ∷ [];
      some_record = omega arith;
      all_sound = (nested_sound, tt);
      takes = ((omega arith, λ _. omega arith), tt);
    }

deepest_endings : (after_run deepest).ended ≡ Err Result ∷ []
unfolding deepest
deepest_endings = refl

deepest_records : (after_run deepest).records ≡ nested 63 ∷ []
unfolding deepest
deepest_records = refl

deepest_values : (after_run deepest).values ≡ nested_value 63 ∷ []
unfolding deepest edited
deepest_values = refl

-- No call: the shelf stays, and so do the values.
idle : Start
idle =
    record {
      calls = [];
      shelf = one ∷ [];
      values = one_value ∷ [];
      some_record = omega arith;
      all_sound = (one_sound, tt);
      takes = tt;
    }

idle_endings : (after_run idle).ended ≡ []
unfolding idle
idle_endings = refl

idle_records : (after_run idle).records ≡ one ∷ []
unfolding idle
idle_records = refl

idle_values : (after_run idle).values ≡ one_value ∷ []
unfolding idle
idle_values = refl

-- ---- what was seen

-- The first list again, as it was seen, in a buffer of 26 bytes: 24 of them are filled; the absent look-up changed none.
abbrev lent : Bytes
lent = replicate 26 255

abbrev seen_call : Edit → ℕ → ℕ → Bytes → Call
seen_call e left right path = record { edit = e; left = left; right = right; path = path; buffer = lent }

seen_overlaid : History
unfolding outcome be32 order same_bytes has
seen_overlaid =
    record {
      seen =
          record { call = seen_call Concat 0 1 []; answer = Ok (Some 24); behind = both ++ 255 ∷ 255 ∷ [] }
          ∷ record { call = seen_call Get 2 0 name_c; answer = Ok None; behind = lent }
          ∷ [];
      shelf = one ∷ true_b ∷ [];
      values = one_value ∷ true_b_value ∷ [];
      some_record = omega arith;
      all_sound = (one_sound, (true_b_sound, tt));
      met = (
        record { there = (omega arith, λ _. omega arith); promise = record { answer = refl; bytes = refl } },
        (record { there = (omega arith, λ k. absurd k); promise = record { answer = refl; bytes = refl } }, tt),
      );
    }

seen_records : (after_seen seen_overlaid).records ≡ one ∷ true_b ∷ both ∷ []
unfolding seen_overlaid
seen_records = refl

seen_values : (after_seen seen_overlaid).values ≡ one_value ∷ true_b_value ∷ b_and_a ∷ []
unfolding seen_overlaid edited
seen_values = refl

-- So the record that was seen has the account's value.
seen_value : SoundWith both b_and_a
unfolding seen_overlaid edited
seen_value = (demand_3_seen seen_overlaid seen_overlaid).values_first.1.1.0
