-- What the gathering of a subquery's values says of it.
use Rattle.std.proofs.Common.{◌≡◌, ℤ, Bool, List, length, Option, Some, None, Ok, subst}
use Rattle.grammar.specs.Trees as model
use Rattle.lp_model.specs.Outside.{Folder, Told}
use Rattle.lp_time.specs.declared.piece.Piece.{Piece}
use Rattle.execution.specs.declared.formats.LogFormat.TheVariants as F
use Rattle.group_planning.specs.Subquery.{subquery_plan_of}
use Rattle.in_set.specs.Facts.{facts_of}
use Rattle.input_tables.specs.declared.format.TableFormat.{TableFormat}
use Rattle.input_tables.specs.Tables.{lines_of, readings_of, table_of}
use Rattle.list_run.specs.Faults.{OnBad}
use Rattle.list_run.specs.declared.fault.ListFault.{ListFault}
use Rattle.list_run.specs.declared.fault.ListFault.TheVariants as R
use Rattle.list_run.specs.declared.keep.Keep.{Keep}
use Rattle.list_run.specs.Keeping.{kept_values}
use Rattle.list_run.specs.Lists.{values_of}
use Rattle.list_run.specs.Rules.{kind_first}
use Rattle.list_run.specs.declared.given.SampledValues.{SampledValues}
use Rattle.log_reading.specs.declared.span.Span.{Span}
use Rattle.log_reading.specs.Spans.{AreKept, BadLine, spans_bad}
use Rattle.plan_run.specs.Rows.{plan_rows}
use Rattle.query_types.specs.Planned.{Planned}
use Rattle.subqueries.specs.Refusing.{IsTyped}
use Rattle.subqueries.specs.Valuing.{GivesValues, HasValues}

has_tabled : (told : Option Folder) (format : TableFormat) (waits : Bool) (keep : Keep) (pattern : List Piece) (plan : Planned) (list : SampledValues) (spans : List Span)
    → Told told (λ folder. AreKept (lines_of format) waits spans folder → list.values ≡ facts_of (values_of (plan_rows (readings_of format) plan (lines_of format) waits folder spans)))
    → Told told (λ folder. AreKept (lines_of format) waits spans folder → list.kept ≡ kept_values keep (values_of (plan_rows (readings_of format) plan (lines_of format) waits folder spans)))
    → Told told (λ folder. AreKept (lines_of format) waits spans folder → list.bad ≡ length (spans_bad (lines_of format) waits folder spans))
    → Told told (λ folder. AreKept (lines_of format) waits spans folder → HasValues (F.Tabled format) waits keep pattern plan list spans folder)
has_tabled None format waits keep pattern plan list spans values list_is bad = tt
has_tabled (Some folder) format waits keep pattern plan list spans values list_is bad = λ kept. record { values = values kept; kept = list_is kept; bad = bad kept }

pub gives_tabled : (told : Option Folder) (format : TableFormat) (waits : Bool) (keep : Keep) (pattern : List Piece) (moment : ℤ) (q : model.Query) (plan : Planned) (list : SampledValues) (slice spans : List Span)
    → slice ≡ spans → subquery_plan_of (table_of format) moment q ≡ Ok plan → list.kind ≡ kind_first plan.kinds
    → Told told (λ folder. AreKept (lines_of format) waits slice folder → list.values ≡ facts_of (values_of (plan_rows (readings_of format) plan (lines_of format) waits folder slice)))
    → Told told (λ folder. AreKept (lines_of format) waits slice folder → list.kept ≡ kept_values keep (values_of (plan_rows (readings_of format) plan (lines_of format) waits folder slice)))
    → Told told (λ folder. AreKept (lines_of format) waits slice folder → list.bad ≡ length (spans_bad (lines_of format) waits folder slice))
    → GivesValues (F.Tabled format) waits keep pattern told moment q list spans (table_of format)
gives_tabled told format waits keep pattern moment q plan list slice spans listed planned kind values kept bad =
    let Of : List Span → Type 0 = λ s. Told told (λ folder. AreKept (lines_of format) waits s folder → HasValues (F.Tabled format) waits keep pattern plan list s folder) in
    record { plan = plan; is_planned = planned; kind = kind; has = subst Of listed (has_tabled told format waits keep pattern plan list slice values kept bad) }

-- where there is a plan, it was made before a bad line is told
pub typed_tabled : (format : TableFormat) (moment : ℤ) (q : model.Query) (plan : Planned) (fault : ListFault) → subquery_plan_of (table_of format) moment q ≡ Ok plan → OnBad (λ (line : BadLine). IsTyped (F.Tabled format) moment q) fault
typed_tabled format moment q plan (R.Plan why) planned = tt
typed_tabled format moment q plan R.Logs planned = tt
typed_tabled format moment q plan (R.Bad log row) planned = (plan, planned)
typed_tabled format moment q plan R.Memory planned = tt
