-- A container without the item that a path finds in it: stored at once where the buffer is as long as the record, else measured first, by
-- the same writer on a part of no bytes, and stored where there is room.
use Prim.Native.Nat.{ℕ, ◌-◌, ◌^◌, ◌≤◌, ◌<◌}
use native.Mathlib.Omega.{arith}
use mathlib.Core.Path.{◌≡◌, refl, ap, sym, ◌∙◌}
use mathlib.Core.List.{[], ◌++◌}
use lib.ListN.{length}
use Rattle.layout.specs.Bytes.{Bytes, Octets}
use Rattle.layout.specs.Tree.{Tree}
use Rattle.layout.specs.Read.{nested}
use Rattle.layout.specs.Check.{checked}
use Rattle.layout.specs.Patch.{patch}
use Rattle.layout.specs.Ended.{into}
use Rattle.layout.specs.Room.{EndedIn}
use Rattle.layout.specs.Parts.{first_part, parts_of}
use Rattle.layout.proofs.Carries.{part_start}
use Rattle.layout.specs.declared.refusal.Refusal.TheVariants.{Buffer}
use Rattle.layout.proofs.Patches.{patch_empty, in_short, in_full}
use Rattle.edits.specs.Steps.{part_steps}
use Rattle.edits.specs.Held.{finding}
use Rattle.edits.specs.Cut.{Stores}
use Rattle.edits.specs.Way.{Cuts, steps_from}
use Rattle.edits.specs.Remains.{remains_of}
use Rattle.edits.specs.declared.delete.Way.{Way}
use Rattle.edits.proofs.Onwards.{cuts_shorter}
use Rattle.std.specs.Prelude.{Ok, Err, Some}

-- What the code knows of a deletion: the record, a path of `n` steps that finds an item in it, and the way at its start.
pub record Deletion (s path : Bytes) (n : ℕ) (w : Way) : Type 0 where
  pub octets : Octets s
  pub readable : checked (nested 64 s) ≡ Ok tt
  pub short : length s ≤ 65536
  pub few : n < 2 ^ 29
  pub more : 0 < n
  pub finds : (t : Tree) × (finding s (part_steps (parts_of path n)) ≡ Some t)
  pub whole : w ≡ record { path = w.path; step = first_part n; count = n }

module _ {s path : Bytes} {n : ℕ} {w : Way} (d : Deletion s path n w) where
  abbrev result : Bytes
  result = remains_of s (part_steps (parts_of path n))

  steps_whole : steps_from path w ≡ part_steps (parts_of path n)
  steps_whole = let z : n - 0 ≡ n = omega arith in rw (d.whole, z)

  as_steps : remains_of s (steps_from path w) ≡ result
  as_steps = ap (remains_of s) steps_whole

  whole_way : Cuts s path (record { path = w.path; step = first_part n; count = n }) 64
  whole_way =
      let found : steps_from path (record { path = w.path; step = first_part n; count = n }) ≡ part_steps (parts_of path n) =
      ap (steps_from path) (sym d.whole) ∙ steps_whole in
      record {
        readable = d.readable;
        allowed = omega arith;
        short = d.short;
        more = d.more;
        few = d.few;
        near = omega (arith, d.few);
        carried = part_start path n (first_part n) refl;
        finds = (d.finds.0, ap (finding s) found ∙ d.finds.1);
      }

  pub whole_cuts : Cuts s path w 64
  whole_cuts = rw d.whole whole_way

  -- A buffer that is as long as the record has room.
  pub room_enough : (o o' : Bytes) (room len : ℕ) → length s ≤ room → Stores len o o' 0 (remains_of s (steps_from path w))
      → EndedIn (Ok (Some len)) o o' (into room result)
  room_enough o o' room len h l =
      let q : len ≡ length result = l.length_is ∙ ap length as_steps in
      let k : length result ≤ room = omega (arith, q, l.length_is, cuts_shorter s path w 64 d.octets whole_cuts, h) in
      in_full _ o room o' len k q (l.stored ∙ ap (patch o 0) as_steps)

  -- What was measured on no bytes.
  module _ (o e : Bytes) (room len : ℕ) (m : Stores len [] e 0 (remains_of s (steps_from path w))) where
    measured : len ≡ length result
    measured = m.length_is ∙ ap length as_steps

    untouched : e ++ o ≡ o
    untouched = rw (m.stored, patch_empty)

    pub no_room : room < len → EndedIn (Err Buffer) o (e ++ o) (into room result)
    no_room h = rw untouched (in_short result o room (omega (arith, measured, h)))

    pub has_room : (len₂ : ℕ) (o' : Bytes) → len ≤ room → Stores len₂ (e ++ o) o' 0 (remains_of s (steps_from path w))
        → EndedIn (Ok (Some len)) o o' (into room result)
    has_room len₂ o' h l =
        in_full result o room o' len (omega (arith, measured, h)) measured (l.stored ∙ rw (untouched, as_steps))
