-- The grade of a candidate record against the one that was expected, by document 01's reading and value of a record.
use Rattle.std.specs.Prelude.{◌≡◌, Bool, cond}
use Rattle.layout.specs.Bytes.{Bytes}
use Rattle.layout.specs.Answer.{Answer, gives, refused}
use Rattle.layout.specs.Tree.{Tree}
use Rattle.layout.specs.Order.{order, same_bytes}
use Rattle.layout.specs.Read.{read}
use Rattle.layout.specs.Value.{Same, same_kind, same}
use Rattle.values.specs.Value.{EqualValues}
use Rattle.values.specs.declared.grade.Grade.{Grade}
use Rattle.values.specs.declared.grade.Grade.TheVariants.{Right, SameValue, OtherValue, Damaged, Ungraded}

-- By what the candidate and the expected record read as, and whether their bytes are equal. The expected record comes first: against
-- one that is not readable nothing can be graded.
abbrev pub grade_by : Answer Tree → Answer Tree → Bool → Grade
grade_by c (refused r) equal = Ungraded r
grade_by (refused r) (gives u) equal = Damaged r
grade_by (gives t) (gives u) equal = cond equal Right (cond (same t u) SameValue OtherValue)

-- The candidate's bytes are `c`, the expected ones `e`.
unfoldable pub grade_of : Bytes → Bytes → Grade
unfolding read same_kind same_bytes order
grade_of c e = grade_by (read c) (read e) (same_bytes c e)

-- What the grade `g` says of them. Of any two records just one grade is true, `grade_of`: `graded_is` of proofs/Grades.antt.
abbrev pub Graded : Grade → Bytes → Bytes → Type 0
Graded Right c e = (t : Tree) × (read c ≡ gives t) × (c ≡ e)
Graded SameValue c e = (c ≡ e → ⊥) × EqualValues c e
Graded OtherValue c e = (t u : Tree) × (read c ≡ gives t) × (read e ≡ gives u) × (Same t u → ⊥)
Graded (Damaged r) c e = (u : Tree) × (read e ≡ gives u) × (read c ≡ refused r)
Graded (Ungraded r) c e = read e ≡ refused r
