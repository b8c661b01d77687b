-- Demand 3, proved: the statement is specs/Demand.antt. A call on sound records yields the account's value, by demand 2, and its result
-- is sound again; so the shelf goes on holding sound records of the account's values.
use Prim.Native.Nat.{ℕ, zero, suc, ◌<◌}
use native.Mathlib.Omega.{arith}
use mathlib.Core.Path.{◌≡◌, refl, ap, ap₂, sym, ◌∙◌}
use mathlib.Core.Logic.{◌↔◌}
use mathlib.Core.List.{List, [], ◌∷◌, ◌++◌}
use lib.Dec.{T}
use lib.ListN.{length, drop, get_or}
use lib.Seq.{take-append_seam}
use Rattle.layout.specs.Bytes.{Bytes}
use Rattle.layout.specs.Answer.{gives}
use Rattle.layout.specs.Tree.{Tree, null}
use Rattle.layout.specs.Read.{read}
use Rattle.layout.specs.Sound.{Sound}
use Rattle.layout.specs.Value.{Same}
use Rattle.layout.specs.Ended.{Outcome, result, ending, filled}
use Rattle.layout.proofs.Answers.{gives_inj}
use Rattle.layout.proofs.Values.{sound_bytes}
use Rattle.layout.proofs.Sames.{same_sym, same_trans}
use Rattle.builders.specs.Build.{append, build}
use Rattle.builders.proofs.Results.{result_made, append_keeps, append_sound, build_keeps, build_sound}
use Rattle.edits.proofs.PathResults.{get_made, delete_made}
use Rattle.edits.proofs.OperatorResults.{SoundRecord, concat_made_sound, strip_made_sound}
use Rattle.runs.specs.declared.call.Edit.{Edit}
use Rattle.runs.specs.declared.call.Edit.TheVariants.{Get, Delete, Concat, Strip, Append, Build}
use Rattle.runs.specs.Call.{Call, outcome, takes_two, There}
use Rattle.runs.specs.Account.{request, requests, Entry, value, absence, refusal, entry_on, added, account, account_endings}
use Rattle.runs.specs.Demand2.{OnceWith, Yields}
use Rattle.runs.specs.Run.{Shelf, outcome_on, shelved, after, run, endings, Takes}
use Rattle.runs.specs.Demand.{SoundWith, AllSoundWith, Start, after_run, EqualAlike, Demand3}
use Rattle.runs.proofs.Onces.{sound_once}
use Rattle.runs.proofs.Yields.{demand_2, ends_alike}

-- ---- sound records

sound_once_with : (b : Bytes) (v : Tree) → SoundWith b v → OnceWith b v
sound_once_with b v s = record { reads_as = s.reads_as; once = sound_once s.reads_as.tree s.sound }

sound_record : (b : Bytes) (v : Tree) → SoundWith b v → SoundRecord b
sound_record b v s = (s.reads_as.tree, s.reads_as.reads, s.sound)

-- A record is sound by any tree that it reads as.
sound_as : (b : Bytes) (t : Tree) → SoundRecord b → read b ≡ gives t → Sound t
sound_as b t s e = rw (gives_inj (sym s.1 ∙ e)) at s.2

-- What an edit makes of sound records is sound.
module _ (left right path b : Bytes) (room : ℕ) (t u : Tree) (h : SoundWith left t) where
  sound_result : (e : Edit) → (T (takes_two e) → SoundWith right u) → outcome e left right path room ≡ result b → SoundRecord b
  unfolding outcome
  sound_result Get k e =
      let m = get_made left path b room h.reads_as.octets e in
      (m.made, m.reads, m.stays_sound (sound_as left m.tree (sound_record left t h) m.target_reads))
  sound_result Delete k e =
      let m = delete_made left path b room h.reads_as.octets e in
      (m.made, m.reads, m.stays_sound (sound_as left m.tree (sound_record left t h) m.target_reads))
  sound_result Concat k e =
      concat_made_sound left right b room h.reads_as.octets (k tt).reads_as.octets e
      (sound_record left t h) (sound_record right u (k tt))
  sound_result Strip k e = strip_made_sound left b room h.reads_as.octets e
  sound_result Append k e =
      let m = result_made append append_keeps left right b room h.reads_as.octets (k tt).reads_as.octets e in
      let l = sound_as left m.left (sound_record left t h) m.left_reads in
      let r = sound_as right m.right (sound_record right u (k tt)) m.right_reads in
      (m.tree, m.reads, append_sound m.left m.right m.tree l r m.edited)
  sound_result Build k e =
      let m = result_made build build_keeps left right b room h.reads_as.octets (k tt).reads_as.octets e in
      let r = sound_as right m.right (sound_record right u (k tt)) m.right_reads in
      (m.tree, m.reads, build_sound m.left m.right m.tree r m.edited)

-- Equal bytes exactly where the values are equal.
equal_bytes : (a b : Bytes) (v w : Tree) → SoundWith a v → SoundWith b w → (a ≡ b) ↔ Same v w
equal_bytes a b v w s r =
    let t = s.reads_as.tree in
    let u = r.reads_as.tree in
    let k = sound_bytes a b t u s.reads_as.octets r.reads_as.octets s.reads_as.reads r.reads_as.reads s.sound r.sound in (
      λ e. same_trans v t w s.reads_as.same (same_trans t u w (k.1 e) (same_sym w u r.reads_as.same)),
      λ e. k.0 (same_trans t v u (same_sym v t s.reads_as.same) (same_trans v w u e r.reads_as.same)),
    )

-- ---- shelves

at_place : (shelf : Shelf) (values : List Tree) (i : ℕ) → AllSoundWith shelf values → i < length shelf
    → SoundWith (get_or shelf i []) (get_or values i null)
at_place [] values i s h = let w : ⊥ = omega arith in absurd w
at_place (b ∷ shelf) [] i s h = absurd s
at_place (b ∷ shelf) (v ∷ values) zero s h = s.0
at_place (b ∷ shelf) (v ∷ values) (suc i) s h = at_place shelf values i s.1 (omega arith)

all_append : (shelf others : Shelf) (values more : List Tree) → AllSoundWith shelf values → AllSoundWith others more
    → AllSoundWith (shelf ++ others) (values ++ more)
all_append [] others [] more s r = r
all_append [] others (v ∷ values) more s r = absurd s
all_append (b ∷ shelf) others [] more s r = absurd s
all_append (b ∷ shelf) others (v ∷ values) more s r = (s.0, all_append shelf others values more s.1 r)

-- ---- a call

-- A result joins the shelf as the account's value joins the values.
joins : (o : Outcome) (e : Entry) (buffer : Bytes) (shelf : Shelf) (values : List Tree) → Yields o e
    → ((b : Bytes) → o ≡ result b → SoundRecord b) → AllSoundWith shelf values
    → AllSoundWith (shelved (ending o) (filled o buffer) shelf) (added e values)
joins o (value v) buffer shelf values y h s =
    let b = y.0 in
    let r = y.2.reads_as in
    let one : SoundWith b v = record { reads_as = r; sound = sound_as b r.tree (h b y.1) r.reads } in
    rw (y.1, take-append_seam b (drop (length b) buffer)) (all_append shelf (b ∷ []) values (v ∷ []) s (one, tt))
joins o absence buffer shelf values y h s = rw y s
joins o (refusal r) buffer shelf values y h s = rw y s

module _ (shelf : Shelf) (values : List Tree) (s : AllSoundWith shelf values) (c : Call)
    (h : There c.edit c.left c.right (length shelf)) where
  left_there : SoundWith (get_or shelf c.left []) (get_or values c.left null)
  left_there = at_place shelf values c.left s h.0

  right_there : T (takes_two c.edit) → SoundWith (get_or shelf c.right []) (get_or values c.right null)
  right_there k = at_place shelf values c.right s (h.1 k)

  call_yields : Yields (outcome_on c shelf) (entry_on (request c) values)
  call_yields =
      demand_2.each_yields c.edit (get_or shelf c.left []) (get_or shelf c.right []) c.path (length c.buffer)
      (get_or values c.left null) (get_or values c.right null) (sound_once_with _ _ left_there) (λ k. sound_once_with _ _ (right_there k))

  after_sound : AllSoundWith (after c shelf) (added (entry_on (request c) values) values)
  after_sound =
      joins (outcome_on c shelf) (entry_on (request c) values) c.buffer shelf values call_yields
      (λ b e.
      sound_result (get_or shelf c.left []) (get_or shelf c.right []) c.path b (length c.buffer)
      (get_or values c.left null) (get_or values c.right null) left_there c.edit right_there e)
      s

-- ---- a list of calls

record Ran (cs : List Call) (shelf : Shelf) (values : List Tree) : Type 0 where
  ended : endings cs shelf ≡ account_endings (requests cs) values
  sound : AllSoundWith (run cs shelf) (account (requests cs) values)

ran : (cs : List Call) (shelf : Shelf) (values : List Tree) → AllSoundWith shelf values → Takes cs shelf → Ran cs shelf values
ran [] shelf values s h = record { ended = refl; sound = s }
ran (c ∷ cs) shelf values s h =
    let e = entry_on (request c) values in
    let r = ran cs (after c shelf) (added e values) (after_sound shelf values s c h.0) h.1 in
    record {
      ended = ap₂ ◌∷◌ (ends_alike (outcome_on c shelf) e (call_yields shelf values s c h.0)) r.ended;
      sound = r.sound;
    }

after_of : (s : Start) → Ran s.calls s.shelf s.values
after_of s = ran s.calls s.shelf s.values s.all_sound s.takes

-- ---- two lists

equal_alike : (shelf : Shelf) (values : List Tree) → AllSoundWith shelf values → EqualAlike shelf values
equal_alike shelf values s i j hi hj = equal_bytes _ _ _ _ (at_place shelf values i s hi) (at_place shelf values j s hj)

pub demand_3 : Demand3
demand_3 p q =
    let a = after_run p in
    let b = after_run q in
    let s = (after_of p).sound in
    let r = (after_of q).sound in
    record {
      ends_first = (after_of p).ended;
      ends_second = (after_of q).ended;
      values_first = s;
      values_second = r;
      equal = equal_alike (a.records ++ b.records) (a.values ++ b.values) (all_append a.records b.records a.values b.values s r);
    }

-- The order in which the account has the members of a value means nothing: however the values of a starting shelf are written, the
-- same calls lead to equal values at each place.
pub any_order : (p q : Start) → p.calls ≡ q.calls → p.shelf ≡ q.shelf → (i : ℕ) → i < length (after_run p).records
    → Same (get_or (after_run p).values i null) (get_or (after_run q).values i null)
any_order p q c s i h =
    let a = after_run p in
    let b = after_run q in
    let e : a.records ≡ b.records = ap₂ run c s in
    let hq : i < length b.records = rw e at h in
    (equal_bytes _ _ _ _ (at_place a.records a.values i (after_of p).sound h) (at_place b.records b.values i (after_of q).sound hq)).0
    (ap (λ (x : Shelf). get_or x i []) e)
