-- What a result of look-up and of delete is: it reads as the edited tree, is sound where the record was, and is no longer than it.
use Prim.Native.Nat.{ℕ, ◌≤◌}
use native.Mathlib.Omega.{arith}
use mathlib.Core.Path.{◌≡◌, refl, ap, sym, ◌∙◌}
use mathlib.Core.List.{List}
use lib.ListN.{length}
use Rattle.layout.specs.Bytes.{Bytes, Octets}
use Rattle.layout.specs.Answer.{Answer, gives, ◌>>=◌}
use Rattle.layout.specs.Tree.{Tree, null, boolean, number, string, extension, array, object}
use Rattle.layout.specs.Encode.{encode}
use Rattle.layout.specs.Read.{read}
use Rattle.layout.specs.Sound.{Sound}
use Rattle.layout.specs.Ended.{result}
use Rattle.layout.proofs.Answers.{from_bind, gives_inj, refused_gives}
use Rattle.layout.proofs.Decoding.{read_sound}
use Rattle.layout.proofs.Encoding.{read_encode}
use Rattle.layout.proofs.Readables.{length_encode}
use Rattle.edits.specs.Keypath.{Step, path_of}
use Rattle.edits.specs.Delete.{delete, deletable}
use Rattle.layout.specs.Pipeline.{found, on_record}
use Rattle.layout.proofs.Pipelines.{on_record_is, found_result}
use Rattle.edits.specs.Path.{get_by, delete_by, on_path}
use Rattle.edits.proofs.Deletes.{some_inj}
use Rattle.edits.proofs.Lookups.{get_is}
use Rattle.edits.proofs.Kept.{NoMore, look_up_kept, delete_kept}
use Rattle.std.specs.Prelude.{Some, Option}

pub on_path_is : (edit : List Step → Tree → Answer (Option Tree)) (target path : Bytes) (room : ℕ)
    → on_path edit target path room ≡ found room (read target >>= λ t. path_of path >>= λ p. edit p t)
unfolding on_path on_record
on_path_is edit target path room = refl

-- A result of an edit of a record with what stands beside it, where what the edit gives is no more than the tree that it was given.
pub record KeptMade {P : Type 0} (beside : Bytes → Answer P) (edit : Tree → P → Answer (Option Tree)) (target other b : Bytes) : Type 0 where
  pub tree : Tree
  pub asked : P
  pub made : Tree
  pub target_reads : read target ≡ gives tree
  pub asked_reads : beside other ≡ gives asked
  pub edited : edit tree asked ≡ gives (Some made)
  pub bytes : b ≡ encode made
  pub reads : read b ≡ gives made
  pub stays_sound : Sound tree → Sound made
  pub no_longer : length b ≤ length target
  pub short : length b ≤ 65536

pub kept_made : {P : Type 0} (beside : Bytes → Answer P) (edit : Tree → P → Answer (Option Tree))
    → ((p : P) (t v : Tree) → edit t p ≡ gives (Some v) → NoMore v t)
    → (target other b : Bytes) (room : ℕ) → Octets target → on_record beside edit target other room ≡ result b
    → KeptMade beside edit target other b
kept_made beside edit keeps target other b room o e =
    let w = found_result room _ b (sym (on_record_is beside edit target other room) ∙ e) in
    from_bind w.1 λ t ht e₁. from_bind e₁ λ p hp e₂.
    let s = read_sound target t o ht in
    let k = keeps p t w.0 e₂ in
    let lt = length_encode t in
    let lv = length_encode w.0 in
    let l : length (encode w.0) ≤ length target = omega (arith, ap length s.0.bytes, k.long) in
    let lb : length b ≡ length (encode w.0) = ap length w.2 in
    record {
      tree = t;
      asked = p;
      made = w.0;
      target_reads = ht;
      asked_reads = hp;
      edited = e₂;
      bytes = w.2;
      reads = ap read w.2 ∙ read_encode w.0 (k.valid s.0.valid) (omega (arith, k.deep, s.0.deep)) (omega (arith, l, s.1));
      stays_sound = k.sound;
      no_longer = omega (arith, l, lb);
      short = omega (arith, l, lb, s.1);
    }

abbrev pub PathMade : (List Step → Tree → Answer (Option Tree)) → Bytes → Bytes → Bytes → Type 0
PathMade edit target path b = KeptMade path_of (λ t p. edit p t) target path b

pub get_made : (target path b : Bytes) (room : ℕ) → Octets target → on_path get_by target path room ≡ result b
    → PathMade get_by target path b
unfolding on_path
get_made = kept_made path_of (λ t p. get_by p t) (λ p t v e. look_up_kept p t v (gives_inj (sym (get_is p t) ∙ e)))

deletable_same : (t u : Tree) → deletable t ≡ gives u → t ≡ u
deletable_same null u e = refused_gives e
deletable_same (boolean x) u e = refused_gives e
deletable_same (number b) u e = refused_gives e
deletable_same (string b) u e = refused_gives e
deletable_same (extension b) u e = gives_inj e
deletable_same (array ts) u e = gives_inj e
deletable_same (object ms) u e = gives_inj e

pub delete_gives : (p : List Step) (t v : Tree) → delete_by p t ≡ gives (Some v) → delete p t ≡ v
delete_gives p t v e =
    from_bind (sym (delete_is p t) ∙ e) λ u hu e₁. ap (delete p) (deletable_same t u hu) ∙ some_inj (gives_inj e₁)
  where
    delete_is : (p : List Step) (t : Tree) → delete_by p t ≡ (deletable t >>= λ u. gives (Some (delete p u)))
    delete_is p t = unfold delete_by in refl

pub delete_made : (target path b : Bytes) (room : ℕ) → Octets target → on_path delete_by target path room ≡ result b
    → PathMade delete_by target path b
unfolding on_path
delete_made = kept_made path_of (λ t p. delete_by p t) (λ p t v e. rw (← delete_gives p t v e) (delete_kept p t))
