-- Parts of a container in runs, as the code of delete copies them. `run_stored` and `laid_record` of proofs/Runs.antt say that parts stored
-- in runs are a record.
use Rattle.std.specs.Prelude.{ℕ, suc, ◌+◌, ◌*◌, ◌-◌, ◌≤◌, ◌≡◌, List, ◌++◌, length, take, drop, Ok}
use Rattle.layout.specs.Bytes.{Bytes}
use Rattle.layout.specs.Encode.{Part}
use Rattle.layout.specs.Read.{header, nested}
use Rattle.layout.specs.Check.{checked}
use Rattle.layout.specs.Patch.{patch}
use Rattle.layout.specs.Parts.{count_parts}
use Rattle.layout.specs.declared.parts.PartAt.{PartAt}
use Rattle.layout.specs.declared.parts.Cursor.{Cursor}

-- A readable container of `n` parts.
pub record Table (s : Bytes) (n : ℕ) : Type 0 where
  pub readable : checked (nested 64 s) ≡ Ok tt
  pub short : length s ≤ 65536
  pub count : count_parts (header s) ≡ n

-- Parts from one up to another: their entries, and their payloads.
abbrev pub run_entries : Bytes → PartAt → PartAt → Bytes
run_entries s a b = take (4 * (b.index - a.index)) (drop (4 + 4 * a.index) s)

abbrev pub run_payloads : Bytes → PartAt → PartAt → Bytes
run_payloads s a b = take (b.place - a.place) (drop a.place s)

abbrev pub run_behind : PartAt → PartAt → Cursor → Cursor
run_behind a b at =
    record { jentry = at.jentry + 4 * (b.index - a.index); place = at.place + (b.place - a.place) }

-- A run stored from some places on: the places behind it, and the buffer then.
abbrev pub Copied : Bytes → PartAt → PartAt → Cursor → Cursor → Bytes → Bytes → Type 0
Copied s a b at end before after =
    (end ≡ run_behind a b at)
    × (after ≡ patch (patch before at.jentry (run_entries s a b)) at.place (run_payloads s a b))

-- Without part `k`; without the name and the value of member `k` of `n`.
abbrev pub without : ℕ → List Part → List Part
without k ps = take k ps ++ drop (suc k) ps

abbrev pub without_member : ℕ → ℕ → List Part → List Part
without_member n k ps = without k (take n ps) ++ without k (drop n ps)
