-- How many records a phase has taken, how many it keeps, and whether the columns are judged.
use Rattle.std.specs.Prelude.{ℕ, length, ⊤}
use Rattle.column_kinds.specs.declared.phase.Phase.{Phase}
use Rattle.column_kinds.specs.declared.phase.Phase.TheVariants as P

abbrev pub taken_in : {M T : Type 0} → (T → ℕ) → Phase M T → ℕ
taken_in count (P.Gathering gathering) = length gathering.rows
taken_in count (P.Taking taker) = count taker
taken_in count (P.Refused fault) = 0
taken_in count P.Lost = 0

abbrev pub kept_in : {M T : Type 0} → Phase M T → ℕ
kept_in (P.Gathering gathering) = length gathering.rows
kept_in (P.Taking taker) = 0
kept_in (P.Refused fault) = 0
kept_in P.Lost = 0

-- no taker is made, or it wants no more rows
abbrev pub IsStoppedIn : {M T : Type 0} → (T → Type 0) → Phase M T → Type 0
IsStoppedIn stopped (P.Gathering gathering) = ⊥
IsStoppedIn stopped (P.Taking taker) = stopped taker
IsStoppedIn stopped (P.Refused fault) = ⊤
IsStoppedIn stopped P.Lost = ⊥

-- Q where the columns are judged: a taker is made for them, or none is
abbrev pub OnJudged : {M T : Type 0} → Phase M T → Type 0 → Type 0
OnJudged (P.Gathering gathering) Q = ⊤
OnJudged (P.Taking taker) Q = Q
OnJudged (P.Refused fault) Q = Q
OnJudged P.Lost Q = ⊤
