-- The check of a container in one pass, as the code goes: each entry with its payload. proofs/Passes.antt ties it to rules 5 and 6,
-- of which the first is the table's. At the end what a walk hands out, as `hand_out` answers it, and what its steps ask first.
use Rattle.std.specs.Prelude.{ℕ, zero, suc, ◌+◌, ◌*◌, ◌-◌, ◌/◌, ◌^◌, Bool, false, not, cond, ◌&&◌, ltb, eqb, length, take, drop, Ok, Err, Some, None, Result, Option}
use Rattle.layout.specs.Bytes.{Bytes, inside, word_at}
use Rattle.layout.specs.Answer.{Answer}
use Rattle.layout.specs.Entry.{code_of, length_of, kind_of, entry_at, entry_good, lengths}
use Rattle.layout.specs.Tree.{Tree}
use Rattle.layout.specs.Read.{entry_ok, payload_in}
use Rattle.layout.specs.Place.{table_ok}
use Rattle.layout.specs.Table.{table_place, table_part}
use Rattle.layout.specs.Check.{checked}
use Rattle.layout.specs.declared.refusal.Refusal.{Refusal}
use Rattle.layout.specs.declared.refusal.Refusal.TheVariants.{Short, Layout}
use Rattle.layout.specs.Walk.{ends_with}
use Rattle.layout.specs.declared.item.JsonbItem.{JsonbItem}

-- One answer and then the next, so that the first refusal decides.
abbrev pub and_then : Result (Unit {0}) Refusal → Result (Unit {0}) Refusal → Result (Unit {0}) Refusal
and_then (Ok a) c = c
and_then (Err r) c = Err r

-- One item: its entry, and its payload.
unfoldable pub item_checked : (Bytes → Answer Tree) → ℕ → Bytes → Result (Unit {0}) Refusal
item_checked inner w b = cond (entry_ok false w) (checked (payload_in inner (kind_of (code_of w)) b)) (Err Layout)

-- The `k` items from the `i`th on, the first of them at `p`; the last ends where the bytes do.
unfoldable pub items_checked : (Bytes → Answer Tree) → Bytes → ℕ → ℕ → ℕ → Result (Unit {0}) Refusal
items_checked inner s i p zero = cond (eqb p (length s)) (Ok tt) (Err Layout)
items_checked inner s i p (suc k) =
    cond (ltb (length s) (p + length_of (entry_at s i))) (Err Layout)
    (and_then (item_checked inner (entry_at s i) (take (length_of (entry_at s i)) (drop p s)))
    (items_checked inner s (i + 1) (p + length_of (entry_at s i)) k))

-- The same for items of `n` entries, with nothing carried: for each the place that the table gives it (document 02 §4). `check_carries`
-- of proofs/Carries.antt says that both have one answer.
unfoldable pub items_by_table : (Bytes → Answer Tree) → Bytes → ℕ → ℕ → ℕ → Result (Unit {0}) Refusal
items_by_table inner s n i zero = cond (eqb (table_place s n i) (length s)) (Ok tt) (Err Layout)
items_by_table inner s n i (suc k) =
    cond (ltb (length s) (table_place s n (i + 1))) (Err Layout)
    (and_then (item_checked inner (entry_at s i) (table_part s n i).bytes) (items_by_table inner s n (i + 1) k))

-- Where the `k` names from the `i`th on end, the first of them at `p`.
unfoldable pub names_end : Bytes → ℕ → ℕ → ℕ → Option ℕ
names_end s i p zero = cond (ltb (length s) p) None (Some p)
names_end s i p (suc k) =
    cond (eqb (entry_at s i / 2 ^ 28) 1) (names_end s (i + 1) (p + length_of (entry_at s i)) k) None

-- What stands for a payload's refusal: rule 5 comes before rule 6.
unfoldable pub payload_refusal : Bytes → ℕ → ℕ → Refusal → Refusal
payload_refusal s n names r =
    cond (table_ok s names 0 n && eqb (lengths s 0 n) (length s - (4 + 4 * n))) r Layout

-- What is handed out of an entry, `item_at` of Walk.antt.
abbrev pub handed : Answer JsonbItem → Result JsonbItem Refusal
handed a = ends_with Ok Err a

-- What a step of a walk is told of the entry at a place, a name's or not, and of the length of an entry's payload at a place.
unfoldable pub entry_told : Bytes → ℕ → Bool → Result ℕ Refusal
entry_told s at name = cond (not (inside s at 4)) (Err Short) (cond (not (entry_good name (word_at s at))) (Err Layout) (Ok (word_at s at)))

unfoldable pub length_told : Bytes → ℕ → ℕ → Result ℕ Refusal
length_told s at w = cond (not (inside s at (length_of w))) (Err Layout) (Ok (length_of w))
