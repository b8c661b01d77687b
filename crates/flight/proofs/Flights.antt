-- The flight edits beside the plain ones: the statement `Flights`, proved as `flights`.
use Prim.Native.Nat.{ℕ}
use mathlib.Core.Path.{◌≡◌, refl, ap, sym, subst, ◌∙◌}
use mathlib.Core.Logic.{◌↔◌}
use mathlib.Core.List.{List}
use Rattle.layout.specs.Bytes.{Bytes, Octets}
use Rattle.layout.specs.Answer.{Answer, gives, refused, ◌>>=◌}
use Rattle.layout.specs.Tree.{Tree, null, boolean, number, string, extension, array, object}
use Rattle.layout.specs.Read.{read}
use Rattle.layout.specs.Ended.{result}
use Rattle.layout.specs.Pipeline.{within, found, written, on_record}
use Rattle.layout.proofs.Answers.{from_bind, from_require, to_bind, gives_inj}
use Rattle.layout.proofs.Pipelines.{found_written, found_result, written_result}
use Rattle.builders.specs.Build.{on_two}
use Rattle.builders.proofs.Results.{on_two_is, within_is}
use Rattle.edits.specs.Keypath.{Step, path_of}
use Rattle.edits.specs.Delete.{delete, deletable}
use Rattle.edits.specs.Path.{delete_by, on_path}
use Rattle.edits.specs.Concat.{concat}
use Rattle.edits.specs.Strip.{stripped, strip, on_one}
use Rattle.edits.proofs.PathResults.{on_path_is, delete_made, delete_gives}
use Rattle.edits.proofs.StripWrites.{on_one_is}
use Rattle.edits.proofs.Strips.{strip_of_sound}
use Rattle.edits.proofs.OperatorResults.{concat_made, strip_made}
use Rattle.flight.specs.Flight.{Flight, profiled, flight_delete_by, flight_strip, flight_concat, on_flights}
use Rattle.flight.specs.Claims.{FlightRecord, Flights}
use Rattle.flight.proofs.Inside.{profiled_gives, profiled_flight, delete_flight, strip_flight, concat_leaves}
use Rattle.std.specs.Prelude.{Some}

-- The tree of a flight record is that which it reads as.
flight_of : (b : Bytes) (t : Tree) → FlightRecord b → read b ≡ gives t → Flight t
flight_of b t f e = subst Flight (gives_inj (sym f.reads ∙ e)) f.flight

-- ---- delete

pub delete_lines : (p : List Step) (t : Tree)
    → flight_delete_by p t ≡ (profiled t >>= λ _. deletable t >>= λ u. profiled (delete p u) >>= λ v. gives (Some v))
delete_lines p t = unfold flight_delete_by in refl

-- Of a flight record the two edits say the same.
delete_same : (p : List Step) (t : Tree) → Flight t → flight_delete_by p t ≡ delete_by p t
unfolding delete_by ◌>>=◌
delete_same p t f = delete_lines p t ∙ rw (profiled_gives t f) (by_kind t f)
  where
    by_kind : (t : Tree) → Flight t
        → (deletable t >>= λ u. profiled (delete p u) >>= λ v. gives (Some v)) ≡ (deletable t >>= λ u. gives (Some (delete p u)))
    by_kind null f = refl
    by_kind (boolean x) f = refl
    by_kind (number b) f = refl
    by_kind (string b) f = refl
    by_kind (extension b) f = rw (profiled_gives (delete p (extension b)) (delete_flight p (extension b) f))
    by_kind (array ts) f = rw (profiled_gives (delete p (array ts)) (delete_flight p (array ts) f))
    by_kind (object ms) f = rw (profiled_gives (delete p (object ms)) (delete_flight p (object ms) f))

pub delete_stays : (s p : Bytes) (room : ℕ) → FlightRecord s → on_path flight_delete_by s p room ≡ on_path delete_by s p room
unfolding ◌>>=◌
delete_stays s p room f =
    rw (on_path_is flight_delete_by s p room, on_path_is delete_by s p room, f.reads)
    (ap (found room) (by_path f.tree f.flight (path_of p)))
  where
    by_path : (t : Tree) → Flight t → (m : Answer (List Step)) → (m >>= λ q. flight_delete_by q t) ≡ (m >>= λ q. delete_by q t)
    by_path t h (gives q) = delete_same q t h
    by_path t h (refused x) = refl

of_delete : (s p b : Bytes) (room : ℕ) → Octets s
    → (on_path flight_delete_by s p room ≡ result b) ↔ (FlightRecord s × (on_path delete_by s p room ≡ result b) × FlightRecord b)
of_delete s p b room o = (there, λ h. delete_stays s p room h.0 ∙ h.1)
  where
    taken : on_path flight_delete_by s p room ≡ result b → FlightRecord s
    taken e =
        let w = found_result room _ b (sym (on_path_is flight_delete_by s p room) ∙ e) in
        from_bind w.1 λ t ht e₁. from_bind e₁ λ q hq e₂. from_bind (sym (delete_lines q t) ∙ e₂) λ x hx e₃.
        record { tree = t; reads = ht; flight = (profiled_flight t x hx).0 }

    there : on_path flight_delete_by s p room ≡ result b → FlightRecord s × (on_path delete_by s p room ≡ result b) × FlightRecord b
    there e =
        let f = taken e in
        let plain : on_path delete_by s p room ≡ result b = sym (delete_stays s p room f) ∙ e in
        let m = delete_made s p b room o plain in
        let is : delete m.asked m.tree ≡ m.made = delete_gives m.asked m.tree m.made m.edited in
        let g : Flight m.made = subst Flight is (delete_flight m.asked m.tree (flight_of s m.tree f m.target_reads)) in
        (f, plain, record { tree = m.made; reads = m.reads; flight = g })

-- ---- strip

pub strip_lines : (t : Tree) → flight_strip t ≡ (profiled t >>= λ _. strip t >>= λ v. profiled v)
strip_lines t = unfold flight_strip in refl

strip_same : (t : Tree) → Flight t → flight_strip t ≡ strip t
strip_same t f =
    let plain = strip_of_sound t f.sound in
    strip_lines t ∙ to_bind _ (profiled_gives t f) (to_bind _ plain (profiled_gives (stripped t) (strip_flight t f))) ∙ sym plain

pub strip_stays : (s : Bytes) (room : ℕ) → FlightRecord s → on_one flight_strip s room ≡ on_one strip s room
unfolding ◌>>=◌
strip_stays s room f =
    rw (on_one_is flight_strip s room, on_one_is strip s room, f.reads) (ap (written room) (strip_same f.tree f.flight))

of_strip : (s b : Bytes) (room : ℕ) → Octets s
    → (on_one flight_strip s room ≡ result b) ↔ (FlightRecord s × (on_one strip s room ≡ result b) × FlightRecord b)
of_strip s b room o = (there, λ h. strip_stays s room h.0 ∙ h.1)
  where
    taken : on_one flight_strip s room ≡ result b → FlightRecord s
    taken e =
        let w = written_result room _ b (sym (on_one_is flight_strip s room) ∙ e) in
        from_bind w.1 λ t ht e₁. from_bind (sym (strip_lines t) ∙ e₁) λ x hx e₂.
        record { tree = t; reads = ht; flight = (profiled_flight t x hx).0 }

    there : on_one flight_strip s room ≡ result b → FlightRecord s × (on_one strip s room ≡ result b) × FlightRecord b
    there e =
        let f = taken e in
        let plain : on_one strip s room ≡ result b = sym (strip_stays s room f) ∙ e in
        let m = strip_made s b room o plain in
        (f, plain, record { tree = stripped m.tree; reads = m.reads; flight = strip_flight m.tree (flight_of s m.tree f m.target_reads) })

-- ---- concat

pub concat_lines : (t u : Tree)
    → flight_concat t u ≡ (profiled t >>= λ _. profiled u >>= λ _. concat t u >>= λ v. within v >>= λ w. profiled w)
concat_lines t u = unfold flight_concat in refl

pub on_flights_is : (l r : Bytes) (room : ℕ) → on_flights l r room ≡ written room (read l >>= λ t. read r >>= λ u. flight_concat t u)
unfolding on_flights on_record ◌>>=◌
on_flights_is l r room = by_reads (read l) (read r)
  where
    by_reads : (a b : Answer Tree)
        → found room (a >>= λ t. b >>= λ u. flight_concat t u >>= λ v. gives (Some v)) ≡ written room (a >>= λ t. b >>= λ u. flight_concat t u)
    by_reads (refused x) b = refl
    by_reads (gives t) (refused x) = refl
    by_reads (gives t) (gives u) = found_written room (flight_concat t u)

-- The lines of a flight concat that gives a tree.
record Overlaid (l r : Bytes) (w : Tree) : Type 0 where
  left : Tree
  right : Tree
  left_reads : read l ≡ gives left
  right_reads : read r ≡ gives right
  left_flight : Flight left
  right_flight : Flight right
  edited : concat left right ≡ gives w
  limited : within w ≡ gives w
  flight : Flight w

overlaid : (l r : Bytes) (w : Tree) → (read l >>= λ t. read r >>= λ u. flight_concat t u) ≡ gives w → Overlaid l r w
overlaid l r w e =
    from_bind e λ t ht e₁. from_bind e₁ λ u hu e₂.
    from_bind (sym (concat_lines t u) ∙ e₂) λ x hx e₃. from_bind e₃ λ y hy e₄. from_bind e₄ λ v hv e₅. from_bind e₅ λ z hz e₆.
    let fz = profiled_flight z w e₆ in
    let vz : v ≡ z = from_require _ _ _ (sym (within_is v) ∙ hz) λ _ q. gives_inj q in
    let vw : v ≡ w = vz ∙ fz.1 in
    record {
      left = t;
      right = u;
      left_reads = ht;
      right_reads = hu;
      left_flight = (profiled_flight t x hx).0;
      right_flight = (profiled_flight u y hy).0;
      edited = hv ∙ ap gives vw;
      limited = ap within (sym vw) ∙ hz ∙ ap gives fz.1;
      flight = subst Flight fz.1 fz.0;
    }

of_concat : (l r b : Bytes) (room : ℕ) → Octets l → Octets r
    → (on_flights l r room ≡ result b) ↔ (FlightRecord l × FlightRecord r × (on_two concat l r room ≡ result b) × FlightRecord b)
of_concat l r b room ol or = (there, back)
  where
    there : on_flights l r room ≡ result b → FlightRecord l × FlightRecord r × (on_two concat l r room ≡ result b) × FlightRecord b
    there e =
        let w = written_result room _ b (sym (on_flights_is l r room) ∙ e) in
        let k = overlaid l r w.0 w.1 in
        let plain : on_two concat l r room ≡ result b =
        on_two_is concat l r room
        ∙ ap (written room) (to_bind _ k.left_reads (to_bind _ k.right_reads (to_bind _ k.edited k.limited)) ∙ sym w.1)
        ∙ sym (on_flights_is l r room)
        ∙ e in
        let m = concat_made l r b room ol or plain in
        let lt : m.left ≡ k.left = gives_inj (sym m.left_reads ∙ k.left_reads) in
        let rt : m.right ≡ k.right = gives_inj (sym m.right_reads ∙ k.right_reads) in
        let is : w.0 ≡ m.tree = gives_inj (sym k.edited ∙ (rw (lt, rt) at m.edited)) in (
          record { tree = k.left; reads = k.left_reads; flight = k.left_flight },
          record { tree = k.right; reads = k.right_reads; flight = k.right_flight },
          plain,
          record { tree = m.tree; reads = m.reads; flight = subst Flight is k.flight },
        )

    back : FlightRecord l × FlightRecord r × (on_two concat l r room ≡ result b) × FlightRecord b → on_flights l r room ≡ result b
    back h =
        let w = written_result room _ b (sym (on_two_is concat l r room) ∙ h.2) in
        let m = concat_made l r b room ol or h.2 in
        from_bind w.1 λ t ht e₁. from_bind e₁ λ u hu e₂. from_bind e₂ λ v hv e₃.
        let ft = flight_of l t h.0 ht in
        let fu = flight_of r u h.1 hu in
        let vw : v ≡ w.0 = from_require _ _ _ (sym (within_is v) ∙ e₃) λ _ q. gives_inj q in
        let lt : m.left ≡ t = gives_inj (sym m.left_reads ∙ ht) in
        let rt : m.right ≡ u = gives_inj (sym m.right_reads ∙ hu) in
        let is : m.tree ≡ w.0 = gives_inj (sym (rw (lt, rt) at m.edited) ∙ hv) ∙ vw in
        let fw : Flight w.0 = subst Flight is (flight_of b m.tree h.3 m.reads) in
        on_flights_is l r room
        ∙ ap (written room)
        (to_bind _ ht (to_bind _ hu (concat_lines t u ∙ to_bind _ (profiled_gives t ft) (to_bind _ (profiled_gives u fu)
        (to_bind _ hv (to_bind _ e₃ (profiled_gives w.0 fw))))))
        ∙ sym w.1)
        ∙ sym (on_two_is concat l r room)
        ∙ h.2

pub flights : Flights
flights =
    record {
      of_delete = of_delete;
      of_concat = of_concat;
      of_strip = of_strip;
      delete_stays = delete_stays;
      strip_stays = strip_stays;
      concat_leaves = concat_leaves;
    }
