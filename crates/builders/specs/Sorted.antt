-- Members by their places in byte order of their names. `stand_sorted` of proofs/Stands.antt says that they stand for the members of
-- `in_order`, and `search_nth` of proofs/Searches.antt that the search, repeated, finds them in turn.
use Rattle.std.specs.Prelude.{List, [], ◌∷◌}
use Rattle.layout.specs.Bytes.{Bytes}
use Rattle.layout.specs.Order.{order}
use Rattle.layout.specs.declared.parts.MemberAt.{MemberAt}
use Rattle.builders.specs.Order.{by}

module _ (key : MemberAt → Bytes) where
  -- The members in byte order, of equal names the first: each is put in its place, unless its name is there.
  unfoldable pub put_in : MemberAt → List MemberAt → List MemberAt
  put_in m [] = m ∷ []
  put_in m (b ∷ bs) = by (order (key m) (key b)) (m ∷ b ∷ bs) (b ∷ bs) (b ∷ put_in m bs)

  unfoldable pub put_all : List MemberAt → List MemberAt → List MemberAt
  put_all done [] = done
  put_all done (m ∷ ms) = put_all (put_in m done) ms

  unfoldable pub sorted : List MemberAt → List MemberAt
  sorted ms = put_all [] ms
