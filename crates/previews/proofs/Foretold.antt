-- What a preview tells of the edit into every buffer: the statement `Previews`, proved as `previews`.
use Prim.Native.Nat.{ℕ, ◌<◌, ◌≤◌}
use native.Mathlib.Omega.{arith}
use mathlib.Core.Path.{◌≡◌, refl, ◌∙◌}
use mathlib.Core.List.{List, [], ◌∷◌, ◌++◌}
use borrow.Author.Tests.{lt-ltb, le-ltb}
use lib.ListN.{length}
use Rattle.layout.specs.Bytes.{Bytes, Octets}
use Rattle.layout.specs.Answer.{Answer, gives, refused, ◌>>=◌}
use Rattle.layout.specs.Refusal.{sender}
use Rattle.layout.specs.Tree.{Tree}
use Rattle.layout.specs.Encode.{encode}
use Rattle.layout.specs.Read.{read}
use Rattle.layout.specs.Ended.{Outcome, result, refusal, into}
use Rattle.layout.specs.Pipeline.{within, found, written}
use Rattle.layout.specs.declared.refusal.Refusal.TheVariants.{Buffer, Result}
use Rattle.layout.proofs.Refusals.{RefusedBy, OneOf, by_bind, within_by, read_by, sent}
use Rattle.builders.specs.Build.{append, build, on_two}
use Rattle.builders.proofs.Results.{on_two_is}
use Rattle.builders.proofs.Refusals.{append_by, build_by}
use Rattle.edits.specs.Keypath.{Step, path_of}
use Rattle.edits.specs.Delete.{delete, deletable}
use Rattle.edits.specs.Path.{delete_by, on_path}
use Rattle.edits.specs.Concat.{concat}
use Rattle.edits.specs.Strip.{strip, on_one}
use Rattle.edits.proofs.PathResults.{on_path_is}
use Rattle.edits.proofs.StripWrites.{on_one_is}
use Rattle.edits.proofs.Limited.{Limited, delete_limited, concat_limited, strip_limited, append_limited, build_limited}
use Rattle.edits.proofs.Refusals.{path_by, deletable_by, concat_by, strip_by}
use Rattle.previews.specs.Preview.{Foretold, Previews}
use Rattle.std.specs.Prelude.{Some}

-- ---- an edit that has one answer, whatever the room

into_serves : (b : Bytes) (room : ℕ) → length b ≤ room → into room b ≡ result b
unfolding into
into_serves b room h = rw (le-ltb room (length b) h)

into_short : (b : Bytes) (room : ℕ) → room < length b → into room b ≡ refusal Buffer
unfolding into
into_short b room h = rw (lt-ltb room (length b) h)

foretold : (numbers : List ℕ) (edit : ℕ → Outcome) (m : Answer Tree) → ((room : ℕ) → edit room ≡ written room m)
    → ((room : ℕ) → Limited (edit room)) → RefusedBy (OneOf numbers) m → Foretold numbers edit
foretold numbers edit (refused x) is limited h = rw (is 65536) (h, is)
foretold numbers edit (gives t) is limited h =
    let b = encode t in
    let fits : length b ≤ 65536 = limited (length b) b (is (length b) ∙ into_serves b (length b) (omega arith)) in
    rw (is 65536, into_serves b 65536 fits)
    (record {
      bytes = b;
      as_long = refl;
      serves = λ room k. is room ∙ into_serves b room k;
      short = λ room k. is room ∙ into_short b room k;
    })

-- ---- the five

-- Delete: its one answer, which always has something to write.
abbrev deleted : Bytes → Bytes → Answer Tree
deleted target path = read target >>= λ t. path_of path >>= λ p. deletable t >>= λ u. gives (delete p u)

delete_is : (target path : Bytes) (room : ℕ) → on_path delete_by target path room ≡ written room (deleted target path)
delete_is target path room = on_path_is delete_by target path room ∙ by_reads (read target) (path_of path)
  where
    by_kind : (p : List Step) (m : Answer Tree)
        → found room (m >>= λ u. gives (Some (delete p u))) ≡ written room (m >>= λ u. gives (delete p u))
    by_kind p (gives u) = unfold ◌>>=◌ in refl
    by_kind p (refused x) = unfold ◌>>=◌ in refl

    by_reads : (a : Answer Tree) (b : Answer (List Step))
        → found room (a >>= λ t. b >>= λ p. delete_by p t)
        ≡ written room (a >>= λ t. b >>= λ p. deletable t >>= λ u. gives (delete p u))
    by_reads (refused x) b = unfold ◌>>=◌ in refl
    by_reads (gives t) (refused x) = unfold ◌>>=◌ in refl
    by_reads (gives t) (gives p) = unfold ◌>>=◌ delete_by in by_kind p (deletable t)

delete_foretold : (target path : Bytes) → Octets target → Foretold (sender ++ (6 ∷ 7 ∷ [])) (on_path delete_by target path)
delete_foretold target path o =
    let P = OneOf (sender ++ (6 ∷ 7 ∷ [])) in
    foretold (sender ++ (6 ∷ 7 ∷ [])) (on_path delete_by target path) (deleted target path) (delete_is target path) (λ room. delete_limited target path room o)
    (by_bind P (read target) _ (read_by P (sent (6 ∷ 7 ∷ [])) target) λ t.
    by_bind P (path_of path) _ (path_by P tt path) λ p. by_bind P (deletable t) _ (deletable_by P tt t) λ u. tt)

strip_foretold : (target : Bytes) → Octets target → Foretold (sender ++ (8 ∷ [])) (on_one strip target)
strip_foretold target o =
    let P = OneOf (sender ++ (8 ∷ [])) in
    foretold (sender ++ (8 ∷ [])) (on_one strip target) (read target >>= strip) (on_one_is strip target) (λ room. strip_limited target room o)
    (by_bind P (read target) strip (read_by P (sent (8 ∷ [])) target) (strip_by P tt))

-- An edit of two records has the numbers of reading, its own, and 9.
module _ (more : List ℕ) (nine : OneOf (sender ++ more) Result) (edit : Tree → Tree → Answer Tree)
    (own : (t u : Tree) → RefusedBy (OneOf (sender ++ more)) (edit t u)) where
  two_foretold : (left right : Bytes) → ((room : ℕ) → Limited (on_two edit left right room))
      → Foretold (sender ++ more) (on_two edit left right)
  two_foretold left right limited =
      let P = OneOf (sender ++ more) in
      foretold (sender ++ more) (on_two edit left right) (read left >>= λ t. read right >>= λ u. edit t u >>= λ v. within v) (on_two_is edit left right) limited
      (by_bind P (read left) _ (read_by P (sent more) left) λ t.
      by_bind P (read right) _ (read_by P (sent more) right) λ u. by_bind P (edit t u) _ (own t u) λ v. within_by P nine v)

pub previews : Previews
previews =
    record {
      of_delete = delete_foretold;
      of_concat = λ l r ol or. two_foretold (8 ∷ 9 ∷ []) tt concat (concat_by _ tt) l r (λ room. concat_limited l r room ol or);
      of_strip = strip_foretold;
      of_append = λ a i oa oi. two_foretold (7 ∷ 9 ∷ []) tt append (append_by _ tt) a i (λ room. append_limited a i room oa oi);
      of_build = λ n v on ov. two_foretold (7 ∷ 8 ∷ 9 ∷ []) tt build (build_by _ tt tt) n v (λ room. build_limited n v room on ov);
    }
