-- What stands behind a fault that comes in its turn.
use Rattle.std.specs.Prelude.{◌≡◌, ◌⊎◌, ℕ, Bool, List, [], Option, Ok, ⊤}
use Rattle.lp_model.specs.Outside.{Folder}
use Rattle.lp_model.specs.Reading.{Format}
use Rattle.log_reading.specs.Found.{Found}
use Rattle.log_reading.specs.UpTo.{found_up_to}
use Rattle.log_reading.specs.declared.span.Span.{Span}
use Rattle.query_types.specs.Planned.{Planned}
use Rattle.row_output.specs.Rows.{IsRefusedEarly}
use Rattle.row_output.specs.Rows.{IsRefused as IsRefusedOutput}
use Rattle.row_output.specs.declared.fault.Refused.{Refused}
use Rattle.column_kinds.specs.InTurn.{BadInTurn, BehindSample}
use Rattle.column_kinds.specs.Past.{Past}
use Rattle.sampled_run.specs.Rules.{Rules, plan_at, rows_with, told_at}
use Rattle.sampled_run.specs.declared.fault.SampleFault.{SampleFault}
use Rattle.sampled_run.specs.declared.fault.SampleFault.TheVariants as F

-- an output of the rows of these records is refused, which are all, where rows wait for the last
pub record IsUnplacedAt (rules : Rules) (past : Past) (founds : List Found) (rest : List Span) (why : Refused) : Type 0 where
  pub plan : Planned
  pub planned : plan_at rules past ≡ Ok plan
  pub refused : IsRefusedOutput (rules.asked plan) (rows_with rules.pattern (told_at rules past) plan founds) why
  pub early : IsRefusedEarly (rules.asked plan) why ⊎ (rest ≡ [])

-- the query has a plan, and no output of the rows of these records is refused that may be before the last row is there
pub record ArePlaced (rules : Rules) (past : Past) (founds : List Found) : Type 0 where
  pub plan : Planned
  pub planned : plan_at rules past ≡ Ok plan
  pub placed : (why : Refused) → IsRefusedEarly (rules.asked plan) why → IsRefusedOutput (rules.asked plan) (rows_with rules.pattern (told_at rules past) plan founds) why → ⊥

-- a fault comes in its turn
abbrev pub ComesInTurn : {S : Type 0} → Rules → S → Past → Option ℕ → Format → Bool → Folder → List Span → SampleFault → S → Type 0
ComesInTurn rules start past most_bad format waits folder spans (F.Plan fault) now = BehindSample rules.limit most_bad 0 format waits folder spans (λ up. ⊤)
ComesInTurn rules start past most_bad format waits folder spans (F.Refused why) now = BehindSample rules.limit most_bad 0 format waits folder spans (λ up. IsUnplacedAt rules past (found_up_to format waits folder spans up) up.rest why)
ComesInTurn rules start past most_bad format waits folder spans (F.Bad log row) now = BadInTurn rules.limit most_bad 0 format waits folder spans (record { log = log; row = row }) (now ≡ start) (ArePlaced rules past)
ComesInTurn rules start past most_bad format waits folder spans F.Logs now = ⊤
ComesInTurn rules start past most_bad format waits folder spans F.Output now = ⊤
ComesInTurn rules start past most_bad format waits folder spans F.Memory now = ⊤
