-- The forms of the code: how records stand to the profile, the number of one outside it beside a path, and how deep a side of an
-- overlay may be.
use Rattle.std.specs.Prelude.{ℕ, ◌≡◌, Bool, true, false, not, cond, ◌&&◌, List, leb, Ok, Err, Result}
use Rattle.layout.specs.Bytes.{Bytes}
use Rattle.layout.specs.Answer.{Answer, gives, refused}
use Rattle.layout.specs.Tree.{Tree}
use Rattle.layout.specs.Read.{header, read}
use Rattle.layout.specs.Limits.{depth}
use Rattle.layout.specs.Every.{every}
use Rattle.layout.specs.EveryAt.{profile_ask}
use Rattle.layout.specs.declared.refusal.Refusal.{Refusal}
use Rattle.layout.specs.declared.refusal.Refusal.TheVariants.{Path, Profile}
use Rattle.layout.specs.declared.util.Header.{Header}
use Rattle.layout.specs.declared.util.Header.TheVariants.{Array, Object, Scalar}
use Rattle.edits.specs.Keypath.{Step}
use Rattle.layout.specs.Ended.{Ending}

-- Whether a tree is in the profile and at most `levels` deep, as the code asks it. With 8 levels that is `is_flight`: `flight_asked`.
abbrev pub fits_profile : ℕ → Tree → Bool
fits_profile levels t = leb (depth t) levels && every (profile_ask 32) t

abbrev pub profile_in : ℕ → Answer Tree → Result Bool Refusal
profile_in levels (gives t) = Ok (fits_profile levels t)
profile_in levels (refused r) = Err r

-- Of two records: a number before 12, the left one's first.
abbrev pub both_in : Result Bool Refusal → Result Bool Refusal → Result Bool Refusal
both_in (Err r) right = Err r
both_in (Ok a) (Err r) = Err r
both_in (Ok a) (Ok b) = Ok (a && b)

-- 6 before 12.
abbrev pub beside_outside : Answer (List Step) → Refusal
beside_outside (gives p) = Profile
beside_outside (refused r) = Path

abbrev pub is_object : Result Header Refusal → Bool
is_object (Err r) = false
is_object (Ok (Scalar n)) = false
is_object (Ok (Array n)) = false
is_object (Ok (Object n)) = true

-- An object beside a record that is none becomes an item, one level deeper.
unfoldable pub levels_beside : Result Header Refusal → Result Header Refusal → ℕ
levels_beside h other = cond (is_object h && not (is_object other)) 7 8

-- Two records that can be read, and of which one is outside the profile or deeper than it may be beside the other.
abbrev pub beside : Bytes → Bytes → Result Bool Refusal
beside s other = profile_in (levels_beside (header s) (header other)) (read s)

abbrev pub OutsideBeside : Bytes → Bytes → Type 0
OutsideBeside l r = both_in (beside l r) (beside r l) ≡ Ok false

-- What the plain edit would be refused for, before a result's 12.
abbrev pub or_profile : Ending → Refusal
or_profile (Ok n) = Profile
or_profile (Err r) = r
