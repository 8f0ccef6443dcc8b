-- What stands behind a fault of a grouped run that comes in its turn.
use Rattle.std.specs.Prelude.{◌≡◌, ◌⊎◌, ℕ, Bool, List, [], Option, Ok, ⊤}
use Rattle.lp_model.specs.Outside.{Folder}
use Rattle.lp_model.specs.Reading.{Format}
use Rattle.log_reading.specs.declared.span.Span.{Span}
use Rattle.group_planning.specs.Groups.{Grouped}
use Rattle.row_output.specs.Rows.{IsRefused as IsRefusedOutput}
use Rattle.row_output.specs.declared.fault.Refused.{Refused}
use Rattle.column_kinds.specs.InTurn.{BadInTurn, BehindSample}
use Rattle.column_kinds.specs.Past.{Past}
use Rattle.sampled_run.specs.declared.fault.SampleFault.{SampleFault}
use Rattle.sampled_run.specs.declared.fault.SampleFault.TheVariants as F
use Rattle.sampled_groups.specs.Ran.{IsUnplacedFirst}
use Rattle.sampled_groups.specs.Rules.{GroupRules, plan_at}

-- the query has a plan by groups, and the output of a name without stars isn't refused
pub record ArePlaced (rules : GroupRules) (past : Past) : Type 0 where
  pub plan : Grouped
  pub planned : plan_at rules past ≡ Ok plan
  pub placed : (why : Refused) → IsRefusedOutput (rules.asked plan.groups) [] why → ⊥

-- a fault comes in its turn: rows of groups wait for the last record
abbrev pub ComesInTurn : {S : Type 0} → GroupRules → S → Past → Option ℕ → Format → Bool → Folder → List Span → SampleFault → S → Type 0
ComesInTurn rules start past most_bad format waits folder spans (F.Plan fault) now = BehindSample rules.limit most_bad 0 format waits folder spans (λ up. ⊤)
ComesInTurn rules start past most_bad format waits folder spans (F.Refused why) now = BehindSample rules.limit most_bad 0 format waits folder spans (λ up. IsUnplacedFirst rules past why ⊎ (up.rest ≡ []))
ComesInTurn rules start past most_bad format waits folder spans (F.Bad log row) now = BadInTurn rules.limit most_bad 0 format waits folder spans (record { log = log; row = row }) (now ≡ start) (λ founds. ArePlaced rules past)
ComesInTurn rules start past most_bad format waits folder spans F.Logs now = ⊤
ComesInTurn rules start past most_bad format waits folder spans F.Output now = ⊤
ComesInTurn rules start past most_bad format waits folder spans F.Memory now = ⊤
