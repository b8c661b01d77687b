-- `builders::search::put_member` meets its contract.
use native.Mathlib.Omega.{arith}
use Rattle.builders.proofs.Storing.{payload_short, places_behind, member_stored}
use Rattle.builders.proofs.search.put_member.Goals as goal

pub places_past-requires : goal.places_past-requires
places_past-requires c =
    let n = payload_short _ _ c.args.member.key c.payload_at-name.ensures in
    let v = payload_short _ _ c.args.member.val c.payload_at-value.ensures in
    (omega arith, omega arith, omega arith, omega arith)

pub returns : goal.returns
returns c =
    record {
      is = places_behind c.args.keys.now c.args.vals.now c.args.member _ _ c.payload_at-name.ensures c.payload_at-value.ensures
          c.args.at _ c.places_past.ensures;
      kept = member_stored c.args.keys.now c.args.vals.now c.args.member _ _ c.payload_at-name.ensures c.payload_at-value.ensures
          c.args.at _ _ _ _ _ c.put_u32.ensures c.put_u32-2.ensures c.copy.ensures c.copy-2.ensures;
    }
