-- No result of a flight edit is longer than the longest record: it is the plain edit's.
use Prim.Native.Nat.{ℕ}
use Rattle.layout.specs.Bytes.{Bytes, Octets}
use Rattle.edits.specs.Path.{on_path}
use Rattle.edits.specs.Strip.{on_one}
use Rattle.edits.proofs.Limited.{Limited, delete_limited, concat_limited, strip_limited}
use Rattle.flight.specs.Flight.{flight_delete_by, flight_strip, on_flights}
use Rattle.flight.proofs.Flights.{flights}

pub flight_delete_limited : (target path : Bytes) (room : ℕ) → Octets target → Limited (on_path flight_delete_by target path room)
flight_delete_limited target path room o b e = delete_limited target path room o b ((flights.of_delete target path b room o).0 e).1

pub flight_concat_limited : (left right : Bytes) (room : ℕ) → Octets left → Octets right → Limited (on_flights left right room)
flight_concat_limited left right room ol or b e =
    concat_limited left right room ol or b ((flights.of_concat left right b room ol or).0 e).2

pub flight_strip_limited : (target : Bytes) (room : ℕ) → Octets target → Limited (on_one flight_strip target room)
flight_strip_limited target room o b e = strip_limited target room o b ((flights.of_strip target b room o).0 e).1
