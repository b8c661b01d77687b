-- Document 02 §4, of what the edits copy: the part that a step finds, the runs of parts beside it, and the members that concat and
-- strip take, each where the table gives it.
use Prim.Native.Nat.{ℕ, ◌+◌}
use native.Mathlib.Nat.{sub-zero}
use mathlib.Core.Path.{◌≡◌, sym}
use mathlib.Core.List.{◌++◌}
use lib.ListN.{length}
use Rattle.layout.specs.Bytes.{Bytes}
use Rattle.layout.specs.Entry.{lengths}
use Rattle.layout.specs.Table.{members_by_table}
use Rattle.layout.specs.Parts.{start_of, count_parts, nth_part, parts_end}
use Rattle.layout.specs.declared.parts.PartAt.{PartAt}
use Rattle.layout.specs.declared.util.Header.{Header}
use Rattle.layout.specs.declared.util.Header.TheVariants.{Array, Object, Scalar}
use Rattle.layout.proofs.Carries.{object_members}
use Rattle.builders.specs.Search.{kept_of}
use Rattle.builders.specs.declared.search.Kept.{Kept}
use Rattle.edits.specs.Keypath.{Step}
use Rattle.edits.specs.Find.{step_place, step_name}
use Rattle.edits.specs.Spot.{first, spot_member, spot}
use Rattle.edits.specs.Members.{all_ahead, kept_ahead}
use Rattle.edits.specs.Merge.{moved_all, in_a_row}
use Rattle.edits.proofs.Finds.{key_part}
use Rattle.edits.proofs.Spots.{no_spot}
use Rattle.std.specs.Prelude.{Ok, Err, Some, None, Result, Option}
use Rattle.layout.specs.declared.refusal.Refusal.{Refusal}

-- The part that a step finds. Where it is the value of a member, its place goes on from that of the name: `value_at` of Finds.
member_by : (s : Bytes) (n : ℕ) (o : Option ℕ) (a : PartAt) → spot_member s n o ≡ Some a → a ≡ nth_part s (n + n) a.index
unfolding spot_member
member_by s n None a e = no_spot a e
member_by s n (Some k) a e = let q : nth_part s (n + n) (n + k) ≡ a = cc in rw (← q)

pub spot_carries : (h : Result Header Refusal) (s : Bytes) (p : Step) (a : PartAt) → spot h s p ≡ Some a → a ≡ nth_part s (count_parts h) a.index
unfolding spot
spot_carries (Ok (Array n)) s p a e = rw (key_part s n (step_place p n) a (sym e)).2
spot_carries (Ok (Object n)) s p a e = member_by s n (first (step_name p) _) a e
spot_carries (Ok (Scalar n)) s p a e = no_spot a e
spot_carries (Err r) s p a e = no_spot a e

-- The end of the last run: where the payloads end with the bytes, the end is where the table gives the part behind the last.
pub end_carries : (s : Bytes) (n : ℕ) → start_of n + lengths s 0 n ≡ length s → parts_end s n ≡ nth_part s n n
end_carries s n e = rw (← e)

-- The members that strip takes, and those of both sides that concat takes.
pub ahead_carries : (s : Bytes) (n : ℕ) (kept : Kept)
    → kept_ahead s kept (all_ahead s n) ≡ kept_of kept 0 (members_by_table s (n + n) 0 s (n + n) n n)
ahead_carries s n kept = rw (sub-zero n, object_members s n)

pub row_carries : (l : Bytes) (m : ℕ) (r : Bytes) (n : ℕ)
    → in_a_row l m r n
    ≡ members_by_table r (n + n) 0 r (n + n) n n ++ moved_all (length r) (members_by_table l (m + m) 0 l (m + m) m m)
row_carries l m r n = rw (object_members r n, object_members l m)
