-- Byte order, equal bytes and rising names as tests, which the code computes. That they say what `◌≺◌`, `◌≡◌` and `Rising` say is
-- `before_is` and `bytes_test` of proofs/Orders.antt and `rising_test` of proofs/Sounds.antt.
use Rattle.std.specs.Prelude.{Bool, true, cond, ◌&&◌, List, [], ◌∷◌, ltb}
use Rattle.layout.specs.Bytes.{Bytes}
use Rattle.std.specs.Ordering.{is_lt, is_eq}
use Rattle.std.specs.declared.cmp.Ordering.{Ordering}
use Rattle.std.specs.declared.cmp.Ordering.TheVariants.{Less, Equal, Greater}

unfoldable pub order : Bytes → Bytes → Ordering
order [] [] = Equal
order [] (y ∷ b) = Less
order (x ∷ a) [] = Greater
order (x ∷ a) (y ∷ b) = cond (ltb x y) Less (cond (ltb y x) Greater (order a b))

unfoldable pub before : Bytes → Bytes → Bool
before a b = is_lt (order a b)

unfoldable pub same_bytes : Bytes → Bytes → Bool
same_bytes a b = is_eq (order a b)

-- Whether names rise.
abbrev pub rising : List Bytes → Bool
rising [] = true
rising (n ∷ []) = true
rising (n ∷ m ∷ ns) = before n m && rising (m ∷ ns)
