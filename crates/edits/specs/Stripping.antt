-- A container stripped, as the code stores it. `stripped_tree` and `stripped_at` of proofs/Stripped.antt tie it to `stripped`, and
-- `strip_ends` of proofs/StripWrites.antt to `strip`.
use Rattle.std.specs.Prelude.{ℕ, ◌≤◌, ◌≡◌, Bool, true, false, cond, [], eqb, length, Ok, Option, Some, None}
use Rattle.layout.specs.Bytes.{Bytes}
use Rattle.layout.specs.Answer.{Answer, gives, refused}
use Rattle.layout.specs.Entry.{code_of, entry_of}
use Rattle.layout.specs.Tree.{Tree}
use Rattle.layout.specs.Encode.{payload}
use Rattle.layout.specs.Read.{header, nested}
use Rattle.layout.specs.Check.{checked}
use Rattle.layout.specs.Ended.{Outcome, refusal, into}
use Rattle.layout.specs.declared.util.Header.TheVariants.{Object}
use Rattle.layout.specs.declared.refusal.Refusal.TheVariants.{Repeated}
use Rattle.layout.specs.Parts.{bytes_at}
use Rattle.layout.specs.declared.parts.ItemAt.{ItemAt}
use Rattle.layout.specs.declared.parts.MemberAt.{MemberAt}
use Rattle.builders.specs.declared.search.Kept.TheVariants.{NonNull}
use Rattle.edits.specs.Strip.{stripped, unrepeated}
use Rattle.edits.specs.Members.{sizes_of, all_ahead, kept_ahead}
use Rattle.edits.specs.declared.members.Ahead.{Ahead}
use Rattle.edits.specs.declared.members.Sizes.{Sizes}

-- The bytes of a container stripped, and whether no name is repeated in it, by its bytes.
abbrev pub stripped_in : Answer Tree → Bytes
stripped_in (gives t) = payload (stripped t)
stripped_in (refused r) = []

unfoldable pub stripped_of : Bytes → Bytes
stripped_of s = stripped_in (nested 64 s)

abbrev pub unrepeated_in : Answer Tree → Bool
unrepeated_in (gives t) = unrepeated t
unrepeated_in (refused r) = true

unfoldable pub unrepeated_of : Bytes → Bool
unrepeated_of s = unrepeated_in (nested 64 s)

-- A container that can be stripped.
pub record Strippable (s : Bytes) (allowance : ℕ) : Type 0 where
  pub readable : checked (nested allowance s) ≡ Ok tt
  pub allowed : allowance ≤ 64
  pub short : length s ≤ 65536

-- An object that can be stripped, all of whose members are ahead, and those that are kept are measured.
pub record Prepared (s : Bytes) (ahead : Ahead) (sizes : Sizes) (allowance : ℕ) : Type 0 where
  pub strippable : Strippable s allowance
  pub object : header s ≡ Ok (Object ahead.count)
  pub all : ahead ≡ all_ahead s ahead.count
  pub measured : sizes ≡ sizes_of s (kept_ahead s NonNull ahead)

-- An item: a container stripped, anything else as it is.
abbrev pub strip_item : Bytes → ItemAt → Bytes
strip_item s x = cond (eqb (code_of x.jentry) 5) (stripped_of (bytes_at s x)) (bytes_at s x)

abbrev pub strip_entry : Bytes → ItemAt → ℕ
strip_entry s x = cond (eqb (code_of x.jentry) 5) (entry_of 5 (length (stripped_of (bytes_at s x)))) x.jentry

abbrev pub unrepeated_item : Bytes → ItemAt → Bool
unrepeated_item s x = cond (eqb (code_of x.jentry) 5) (unrepeated_of (bytes_at s x)) true

-- The value of a member.
abbrev pub strip_value : Bytes → MemberAt → Bytes
strip_value s m = strip_item s m.val

abbrev pub value_entry : Bytes → MemberAt → ℕ
value_entry s m = strip_entry s m.val

-- How storing ends: where no name is repeated, with the length of what was stored, and the buffer then; else with none.
abbrev pub Strips : Option ℕ → Bool → Bytes → Bytes → Bytes → Type 0
Strips (Some n) fine b after whole = (fine ≡ true) × (n ≡ length b) × (after ≡ whole)
Strips None fine b after whole = fine ≡ false

-- The outcome.
unfoldable pub strip_out : Bytes → ℕ → Outcome
strip_out s room = cond (unrepeated_of s) (into room (stripped_of s)) (refusal Repeated)
