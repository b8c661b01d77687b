-- Demand 2, proved: the statement is specs/Demand2.antt. For each edit there is a law that the plain edit of a value, and the edit of a tree
-- of equal value, give equal values: `look_up_same`, `delete_same`, `concat_same`, `stripped_same`, `append_same` and `build_same`.
use Prim.Native.Nat.{ℕ, ◌<◌, ◌≤◌}
use native.Mathlib.Omega.{arith}
use mathlib.Core.Path.{◌≡◌, refl, ap, sym, ◌∙◌}
use mathlib.Core.Bool.{Bool, true, false, not, cond, ◌&&◌, ◌||◌}
use mathlib.Core.List.{List}
use lib.Dec.{T, ltb, leb, ltb→lt, nltb→le}
use lib.ListN.{length, drop}
use lib.Seq.{take-append_seam, drop-append_seam}
use borrow.Author.Tests.{le-leb, lt-leb, le-ltb}
use Rattle.layout.specs.Bytes.{Bytes, Octets}
use Rattle.layout.specs.Answer.{Answer, gives, refused, ◌>>=◌, require}
use Rattle.layout.specs.Tree.{Tree, null, boolean, number, string, extension, array, object}
use Rattle.layout.specs.Encode.{encode}
use Rattle.layout.specs.Read.{read}
use Rattle.layout.specs.Limits.{depth, record_length}
use Rattle.layout.specs.Value.{Same}
use Rattle.layout.specs.Ended.{Outcome, result, refusal, into, ending, filled, Ended}
use Rattle.layout.specs.declared.refusal.Refusal.{Refusal}
use Rattle.layout.specs.declared.refusal.Refusal.TheVariants.{Kind, Result, Buffer}
use Rattle.layout.specs.Pipeline.{within, found, written}
use Rattle.layout.proofs.Answers.{gives_inj}
use Rattle.layout.proofs.Decoding.{read_sound}
use Rattle.layout.proofs.Encoding.{read_encode}
use Rattle.layout.proofs.Readables.{length_encode}
use Rattle.layout.proofs.Sames.{same_sym}
use Rattle.builders.specs.Build.{append, build}
use Rattle.builders.specs.Canon.{canon}
use Rattle.builders.proofs.Results.{on_two_is, within_is}
use Rattle.builders.proofs.Proper.{Proper, proper_valid, proper_octets, encoded_octets, same_proper}
use Rattle.builders.proofs.Canons.{canon_depth, canon_length, same_canons}
use Rattle.edits.specs.Keypath.{Step, path_of}
use Rattle.edits.specs.Find.{look_up}
use Rattle.edits.specs.Delete.{delete, deletable}
use Rattle.edits.specs.Path.{get_by, delete_by}
use Rattle.edits.specs.Concat.{concat}
use Rattle.edits.specs.Strip.{stripped, strip}
use Rattle.edits.proofs.Kept.{NoMore, look_up_kept, delete_kept}
use Rattle.edits.proofs.Lookups.{get_is}
use Rattle.edits.proofs.Strips.{strip_shrinks}
use Rattle.edits.proofs.PathResults.{on_path_is}
use Rattle.edits.proofs.StripWrites.{on_one_is}
use Rattle.runs.specs.declared.call.Edit.{Edit}
use Rattle.runs.specs.declared.call.Edit.TheVariants.{Get, Delete, Concat, Strip, Append, Build}
use Rattle.runs.specs.Call.{outcome, takes_two}
use Rattle.runs.specs.Plain.{plain_look_up, plain_delete, no_delete, plain_concat, plain_strip, plain_append, plain_build}
use Rattle.runs.specs.Account.{Entry, value, absence as absent, refusal as refuse, fitting, entered, edited, entry_ending}
use Rattle.runs.specs.Demand2.{OnceWith, Yields, Demand2, SeenAs, Demand2Seen}
use Rattle.runs.proofs.Onces.{once_proper, proper_once}
use Rattle.runs.proofs.Alikes.{SameFound, SameAnswer}
use Rattle.runs.proofs.Looks.{ProperFound, look_up_proper, look_up_same}
use Rattle.runs.proofs.Removes.{delete_proper, delete_same}
use Rattle.runs.proofs.Overlaid.{concat_proper, concat_same, append_proper, append_same}
use Rattle.runs.proofs.Cleaned.{strip_proper, stripped_same, strip_proper_given}
use Rattle.runs.proofs.Built.{build_proper, build_same}
use Rattle.std.specs.Prelude.{Ok, Some, None, Option}
use Rattle.layout.specs.Ended.{Ending}

-- ---- values and their records

-- What a record with a value has: the value, and the tree that is read, within the limits.
record Has (v t : Tree) : Type 0 where
  proper : Proper v
  proper_tree : Proper t
  same : Same v t
  deep : depth t ≤ 64
  long : record_length t ≤ 65536

has_of : (b : Bytes) (v : Tree) (h : OnceWith b v) → Has v h.reads_as.tree
has_of b v h =
    let t = h.reads_as.tree in
    let r = read_sound b t h.reads_as.octets h.reads_as.reads in
    let o : Octets (encode t) = rw r.0.bytes h.reads_as.octets in
    let p = once_proper t r.0.valid h.once (encoded_octets t o) in
    record {
      proper = same_proper v t h.reads_as.same p;
      proper_tree = p;
      same = h.reads_as.same;
      deep = r.0.deep;
      long = omega (arith, length_encode t, ap length r.0.bytes, r.1);
    }

-- Equal values have records of one length and depth.
module _ (v w : Tree) (p : Proper v) (s : Same v w) where
  proper_same : Proper w
  proper_same = same_proper w v (same_sym v w s) p

  one_canon : canon v ≡ canon w
  one_canon = (same_canons v w p proper_same).0 s

  same_length : record_length v ≡ record_length w
  same_length = sym (canon_length v p) ∙ ap record_length one_canon ∙ canon_length w proper_same

  same_depth : depth v ≡ depth w
  same_depth = sym (canon_depth v p) ∙ ap depth one_canon ∙ canon_depth w proper_same

  once_with : depth w ≤ 64 → record_length w ≤ 65536 → OnceWith (encode w) v
  once_with d l =
      record {
        reads_as =
            record {
              octets = proper_octets w proper_same;
              tree = w;
              reads = read_encode w (proper_valid w proper_same) d (omega (arith, length_encode w, l));
              same = s;
            };
        once = proper_once w proper_same;
      }

-- ---- 9, 10 and results

leb_ltb : (a n : ℕ) → leb a n ≡ not (ltb n a)
leb_ltb a n = go (ltb n a) (ltb→lt n a) (nltb→le n a)
  where
    go : (b : Bool) → (T b → n < a) → (T (not b) → a ≤ n) → leb a n ≡ not b
    go true f g = lt-leb a n (f tt)
    go false f g = le-leb a n (g tt)

module _ (v w : Tree) (p : Proper v) (s : Same v w) (room : ℕ) where
  -- 10, or a result.
  yields_ten : depth w ≤ 64 → record_length w ≤ 65536 → (c : Bool)
      → Yields (cond c (refusal Buffer) (result (encode w))) (cond c (refuse Buffer) (value v))
  yields_ten d l true = refl
  yields_ten d l false = (encode w, refl, once_with v w p s d l)

  -- Within the limits.
  yields_into : depth w ≤ 64 → record_length w ≤ 65536 → Yields (into room (encode w)) (fitting room v)
  unfolding into
  yields_into d l =
      rw (length_encode w, same_length v w p s, same_depth v w p s, le-ltb 65536 (record_length w) l, le-ltb 64 (depth w) d)
      (yields_ten d l (ltb room (record_length w)))

  -- 9, and then the same.
  yields_within : Yields (written room (within w)) (fitting room v)
  unfolding into ◌>>=◌ require
  yields_within =
      rw (within_is w, same_length v w p s, same_depth v w p s, leb_ltb (record_length w) 65536, leb_ltb (depth w) 64)
      (go (ltb 65536 (record_length w)) (ltb 64 (depth w)) (nltb→le 65536 (record_length w)) (nltb→le 64 (depth w)))
    where
      go : (a b : Bool) → (T (not a) → record_length w ≤ 65536) → (T (not b) → depth w ≤ 64)
          → Yields (written room (require (not a && not b) Result >>= λ _. gives w))
          (cond (a || b) (refuse Result) (cond (ltb room (record_length w)) (refuse Buffer) (value v)))
      go true b f g = refl
      go false true f g = refl
      go false false f g = rw (length_encode w) (yields_ten (g tt) (f tt) (ltb room (record_length w)))

-- ---- the edits of one record

-- Of equal values both are of a kind that delete takes, or neither.
no_delete_same : (t u : Tree) → Same t u → no_delete u ≡ no_delete t
no_delete_same null u h = rw h refl
no_delete_same (boolean x) u h = rw h refl
no_delete_same (number b) u h = rw h refl
no_delete_same (string b) u h = rw h refl
no_delete_same (extension b) u h = rw h refl
no_delete_same (array ts) u h = rw h.1 refl
no_delete_same (object ms) u h = rw h.1 refl

module _ (t t' : Tree) (h : Has t t') (room : ℕ) where
  -- A tree that is no more than the record's.
  yields_no_more : (v w : Tree) → Proper v → Same v w → NoMore w t' → Yields (into room (encode w)) (fitting room v)
  yields_no_more v w p s k = yields_into v w p s room (omega (arith, k.deep, h.deep)) (omega (arith, k.long, h.long))

  yields_get : (u : Tree) (path : Bytes) → Yields (found room (path_of path >>= λ p. get_by p t')) (entered room (edited Get t u path))
  unfolding edited ◌>>=◌
  yields_get u path = go (path_of path)
    where
      finds : (p : List Step) (o o' : Option Tree) → look_up p t' ≡ o' → SameFound o o' → ProperFound o
          → Yields (found room (gives o')) (entered room (gives o))
      finds p None None f e q = refl
      finds p None (Some w) f e q = absurd e
      finds p (Some v) None f e q = absurd e
      finds p (Some v) (Some w) f e q = yields_no_more v w q e (look_up_kept p t' w f)

      go : (m : Answer (List Step)) → Yields (found room (m >>= λ p. get_by p t')) (entered room (m >>= λ p. gives (plain_look_up p t)))
      go (refused r) = refl
      go (gives p) =
          rw (get_is p t')
          (finds p (plain_look_up p t) (look_up p t') refl (look_up_same p t t' h.same h.proper) (look_up_proper p t h.proper))

  yields_delete : (u : Tree) (path : Bytes)
      → Yields (found room (path_of path >>= λ p. delete_by p t')) (entered room (edited Delete t u path))
  unfolding edited ◌>>=◌ require delete_by
  yields_delete u path = rw (← no_delete_same t t' h.same) (go (path_of path))
    where
      by_kind : (t' : Tree) (p : List Step) → Yields (into room (encode (delete p t'))) (fitting room (plain_delete p t))
          → Yields (found room (deletable t' >>= λ u. gives (Some (delete p u))))
          (entered room (require (not (no_delete t')) Kind >>= λ _. gives (Some (plain_delete p t))))
      by_kind null p y = refl
      by_kind (boolean x) p y = refl
      by_kind (number b) p y = refl
      by_kind (string b) p y = refl
      by_kind (extension b) p y = y
      by_kind (array ts) p y = y
      by_kind (object ms) p y = y

      go : (m : Answer (List Step)) → Yields (found room (m >>= λ p. delete_by p t'))
          (entered room (m >>= λ p. require (not (no_delete t')) Kind >>= λ _. gives (Some (plain_delete p t))))
      go (refused r) = refl
      go (gives p) =
          by_kind t' p
          (yields_no_more (plain_delete p t) (delete p t') (delete_proper p t h.proper) (delete_same p t t' h.same h.proper) (delete_kept p t'))

  yields_strip : (u : Tree) (path : Bytes) → Yields (written room (strip t')) (entered room (edited Strip t u path))
  unfolding edited
  yields_strip u path =
      rw (strip_proper_given t' h.proper_tree)
      (yields_no_more (plain_strip t) (stripped t') (strip_proper t h.proper) (stripped_same t t' h.same h.proper) (strip_shrinks t'))

-- ---- the edits of two records

-- The plain edit's answer `m` on values, and the edit's answer `a` on the trees that are read.
answer_yields : (room : ℕ) (m a : Answer Tree) → ((v : Tree) → m ≡ gives v → Proper v) → SameAnswer m a
    → Yields (written room (a >>= λ w. within w)) (entered room (m >>= λ v. gives (Some v)))
unfolding ◌>>=◌
answer_yields room (gives v) (gives w) p s = yields_within v w (p v refl) s room
answer_yields room (gives v) (refused r) p s = absurd s
answer_yields room (refused q) (gives w) p s = absurd s
answer_yields room (refused q) (refused r) p s = ap refusal (sym s)

module _ (t t' u u' : Tree) (h : Has t t') (k : Has u u') (room : ℕ) (path : Bytes) where
  yields_concat : Yields (written room (concat t' u' >>= λ w. within w)) (entered room (edited Concat t u path))
  unfolding edited ◌>>=◌
  yields_concat =
      answer_yields room (gives (plain_concat t u)) (concat t' u')
      (λ v e. rw (← gives_inj {x = plain_concat t u} e) (concat_proper t u h.proper k.proper))
      (concat_same t u t' u' h.same k.same h.proper k.proper)

  yields_append : Yields (written room (append t' u' >>= λ w. within w)) (entered room (edited Append t u path))
  unfolding edited
  yields_append =
      answer_yields room (plain_append t u) (append t' u') (λ v e. append_proper t u v h.proper k.proper e)
      (append_same t u t' u' h.same k.same)

  yields_build : Yields (written room (build t' u' >>= λ w. within w)) (entered room (edited Build t u path))
  unfolding edited
  yields_build =
      answer_yields room (plain_build t u) (build t' u') (λ v e. build_proper t u v h.proper k.proper e)
      (build_same t u t' u' h.same k.same)

-- ---- any edit

module _ (left right path : Bytes) (room : ℕ) (t u : Tree) (h : OnceWith left t) where
  left_has : Has t h.reads_as.tree
  left_has = has_of left t h

  each : (e : Edit) → (T (takes_two e) → OnceWith right u) → Yields (outcome e left right path room) (entered room (edited e t u path))
  unfolding outcome ◌>>=◌
  each Get k = rw (on_path_is get_by left path room, h.reads_as.reads) (yields_get t h.reads_as.tree left_has room u path)
  each Delete k = rw (on_path_is delete_by left path room, h.reads_as.reads) (yields_delete t h.reads_as.tree left_has room u path)
  each Concat k =
      rw (on_two_is concat left right room, h.reads_as.reads, (k tt).reads_as.reads)
      (yields_concat t h.reads_as.tree u (k tt).reads_as.tree left_has (has_of right u (k tt)) room path)
  each Strip k = rw (on_one_is strip left room, h.reads_as.reads) (yields_strip t h.reads_as.tree left_has room u path)
  each Append k =
      rw (on_two_is append left right room, h.reads_as.reads, (k tt).reads_as.reads)
      (yields_append t h.reads_as.tree u (k tt).reads_as.tree left_has (has_of right u (k tt)) room path)
  each Build k =
      rw (on_two_is build left right room, h.reads_as.reads, (k tt).reads_as.reads)
      (yields_build t h.reads_as.tree u (k tt).reads_as.tree left_has (has_of right u (k tt)) room path)

left_first : (e : Edit) (left right path : Bytes) (room : ℕ) (r : Refusal) → read left ≡ refused r
    → outcome e left right path room ≡ refusal r
unfolding outcome ◌>>=◌
left_first Get left right path room r e = rw (on_path_is get_by left path room, e)
left_first Delete left right path room r e = rw (on_path_is delete_by left path room, e)
left_first Concat left right path room r e = rw (on_two_is concat left right room, e)
left_first Strip left right path room r e = rw (on_one_is strip left room, e)
left_first Append left right path room r e = rw (on_two_is append left right room, e)
left_first Build left right path room r e = rw (on_two_is build left right room, e)

right_next : (e : Edit) (left right path : Bytes) (room : ℕ) (t : Tree) (r : Refusal) → T (takes_two e) → read left ≡ gives t
    → read right ≡ refused r → outcome e left right path room ≡ refusal r
unfolding outcome ◌>>=◌
right_next Get left right path room t r k e f = absurd k
right_next Delete left right path room t r k e f = absurd k
right_next Concat left right path room t r k e f = rw (on_two_is concat left right room, e, f)
right_next Strip left right path room t r k e f = absurd k
right_next Append left right path room t r k e f = rw (on_two_is append left right room, e, f)
right_next Build left right path room t r k e f = rw (on_two_is build left right room, e, f)

pub demand_2 : Demand2
demand_2 =
    record {
      each_yields = λ e left right path room t u h k. each left right path room t u h e k;
      left_refused = left_first;
      right_refused = right_next;
    }

-- ---- what is observed

-- The length of a record is that of its value.
pub once_length : (b : Bytes) (v : Tree) → OnceWith b v → length b ≡ record_length v
once_length b v h =
    let t = h.reads_as.tree in
    let r = read_sound b t h.reads_as.octets h.reads_as.reads in
    ap length (sym r.0.bytes) ∙ length_encode t ∙ sym (same_length v t (has_of b v h).proper h.reads_as.same)

-- A call ends as the plain edit says.
pub ends_alike : (o : Outcome) (e : Entry) → Yields o e → ending o ≡ entry_ending e
ends_alike o (value v) y = ap ending y.1 ∙ ap (λ x. Ok (Some x)) (once_length y.0 v y.2)
ends_alike o absent y = ap ending y
ends_alike o (refuse r) y = ap ending y

-- An answer and a buffer that are an outcome's.
seen_as : (o : Outcome) (e : Entry) (r : Ending) (before after : Bytes) → Yields o e → Ended r before after o → SeenAs r before after e
seen_as o (value v) r before after y k =
    let b = y.0 in
    rw (k.answer, k.bytes, y.1, ← once_length b v y.2)
    (rw (take-append_seam b (drop (length b) before), drop-append_seam b (drop (length b) before)) (refl, y.2, refl))
seen_as o absent r before after y k = (k.answer ∙ ap ending y, k.bytes ∙ ap (λ (o : Outcome). filled o before) y)
seen_as o (refuse q) r before after y k = (k.answer ∙ ap ending y, k.bytes ∙ ap (λ (o : Outcome). filled o before) y)

pub demand_2_seen : Demand2Seen
demand_2_seen e left right path t u h k r before after ended =
    seen_as (outcome e left right path (length before)) (entered (length before) (edited e t u path)) r before after
    (each left right path (length before) t u h e k) ended
