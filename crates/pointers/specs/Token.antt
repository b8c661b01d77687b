-- Pointers and tokens as the code goes through them. `left_first` and `token_is_step` (proofs/Steps.antt), `undo_once` and `undo_plain`
-- (Tokens), `index_counted` (Indexes) tie these to the definitions of Pointer.antt.
use Rattle.std.specs.Prelude.{ℕ, Bool, true, false, not, cond, ◌&&◌, [], ◌∷◌, eqb, ltb, pos, Ok, Err, Some, None, Result, Option}
use Rattle.layout.specs.Bytes.{Bytes}
use Rattle.layout.specs.Tree.{Tree, null, boolean, number, string, extension, array, object}
use Rattle.layout.specs.declared.util.Header.{Header}
use Rattle.layout.specs.declared.util.Header.TheVariants.{Array, Object, Scalar}
use Rattle.edits.specs.Keypath.{Step, name, index}
use Rattle.pointers.specs.Pointer.{undo, digits, digits_value, index_of}
use Rattle.pointers.specs.declared.token.Undone.{Undone}
use Rattle.layout.specs.declared.refusal.Refusal.{Refusal}

-- Whether there is no ~.
unfoldable pub plain : Bytes → Bool
plain [] = true
plain (x ∷ b) = not (eqb x 0x7E) && plain b

-- ~1 and ~0 undone in one pass.
unfoldable pub unescape : Bytes → Bytes
unescape [] = []
unescape (x ∷ []) = x ∷ []
unescape (x ∷ y ∷ b) =
    cond (eqb x 0x7E && eqb y 0x31) (0x2F ∷ unescape b)
    (cond (eqb x 0x7E && eqb y 0x30) (0x7E ∷ unescape b) (x ∷ unescape (y ∷ b)))

-- What an iterator over a token's undone bytes has still to give.
abbrev pub undone_bytes : Undone → Bytes
undone_bytes u = unescape u.left.now

-- Whether a zero stands before more.
unfoldable pub padded : Bytes → Bool
padded [] = false
padded (x ∷ []) = false
padded (x ∷ y ∷ b) = eqb x 0x30

-- The place among `n` items that digits write, behind those that write `v`.
unfoldable pub counted : ℕ → Bytes → ℕ → Option ℕ
counted v b n = cond (digits b && ltb (digits_value v b) n) (Some (digits_value v b)) None

-- The place among `n` items that a token means.
abbrev pub index_in : Option ℕ → ℕ → Option ℕ
index_in None n = None
index_in (Some i) n = cond (ltb i n) (Some i) None

-- A token as a step of a path: an index on an array, where it is one, and a name elsewhere. By the header that the code meets, and by
-- the tree.
abbrev pub index_step : Bytes → Option ℕ → Step
index_step k None = name k
index_step k (Some i) = index (pos i)

unfoldable pub token_at : Result Header Refusal → Bytes → Step
token_at (Ok (Array n)) t = index_step (undo t) (index_of (undo t))
token_at (Ok (Object n)) t = name (undo t)
token_at (Ok (Scalar n)) t = name (undo t)
token_at (Err r) t = name (undo t)

abbrev pub token_step : Bytes → Tree → Step
token_step k null = name k
token_step k (boolean x) = name k
token_step k (number b) = name k
token_step k (string b) = name k
token_step k (extension b) = name k
token_step k (array ts) = index_step k (index_of k)
token_step k (object ms) = name k
