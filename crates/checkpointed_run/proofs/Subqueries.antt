-- What a run does behind its subqueries.
use Rattle.std.proofs.Common.{◌≡◌, ◌≤◌, ◌+◌, ◌∙◌, ℕ, ℤ, suc, List, Option, length, ap, subst, sym, arith}
use Rattle.std.specs.Prelude.{IsSome}
use Rattle.grammar.specs.Filled.{PlacedGiven, filled}
use Rattle.grammar.specs.Trees.{Query}
use Rattle.lp_model.specs.Outside.{Folder, Grows, OnlyGrow, Told, bytes_in}
use Rattle.lp_model.proofs.Growing.{OnlyGrow-refl, told_grown}
use Rattle.lp_model.proofs.Pieces.{length_grown}
use Rattle.lp_values.specs.declared.value.Value.{Value}
use Rattle.command_words.specs.declared.formats.OutputFormat.{OutputFormat}
use Rattle.command_words.specs.declared.formats.OutputFormat.TheVariants as O
use Rattle.command_words.specs.declared.spec.Spec.{Spec}
use Rattle.disk_model.specs.Disk.{DiskState}
use Rattle.ledger_model.specs.Entries.{Entry}
use Rattle.commit.specs.declared.phases.Commit.{Commit}
use Rattle.run_entry.specs.Texts.{output_of}
use Rattle.run_entry.specs.RunFault.{RunFault}
use Rattle.run_entry.specs.RunFault.TheVariants as X
use Rattle.log_reading.specs.Spans.{AllSpans}
use Rattle.log_reading.specs.declared.span.Span.{Span}
use Rattle.query_run.specs.declared.executing.Counts.{Counts}
use Rattle.tpl_output.specs.Sections.{Sections}
use Rattle.run_entry.proofs.Filled.{output_filled}
use Rattle.run_entry.proofs.Keeping.{give_wider}
use Rattle.run_entry.specs.Giving.{GiveThese, subqueries_of}
use Rattle.run_entry.specs.SubqueriesReading.{ReadsAll}
use Rattle.run_entry.proofs.Read.{all_none}
use Rattle.run_entry.specs.Entries.{Request}
use Rattle.checkpointed_run.specs.Filled.{IsBehind, filled_request}
use Rattle.checkpointed_run.specs.Reading.{ReadsThen}
use Rattle.checkpointed_run.specs.Reasons.{RefusedBehind, RefusedFor}
use Rattle.checkpointed_run.specs.Staged.{HasEntryFor, IsGiven, request_of}

-- spans lie within logs that have grown since
pub there_still : (mid now : Option Folder) (spans : List Span) → OnlyGrow mid now → Told mid (λ folder. AllSpans spans (λ span. span.listed ≤ length (bytes_in folder span.name))) → Told now (λ folder. AllSpans spans (λ span. span.listed ≤ length (bytes_in folder span.name)))
there_still mid now spans grows there = told_grown mid now (λ folder. AllSpans spans (λ span. span.listed ≤ length (bytes_in folder span.name)))
    (λ x y more all k span less at. length_grown x y span.name span.listed more (all k span less at)) grows there

-- the output's format is that of the query as it stands
pub template_still : (spec : Spec) (moment : ℤ) (began told : Option Folder) (q whole : Query) (lists : List (List Value)) (P : OutputFormat → Type 0) → IsGiven spec moment began told q whole lists → P (output_of spec q) → P (output_of spec whole)
template_still spec moment began told q whole lists P given is = subst P (sym (ap (output_of spec) given.whole_is ∙ output_filled spec given.givens q)) is

-- what was asked, with what the subqueries gave
whole_request : (spec : Spec) (moment : ℤ) (q whole : Query) (givens : List PlacedGiven) (text template : List ℕ) → whole ≡ filled givens q → request_of spec whole text template moment ≡ filled_request givens (request_of spec q text template moment)
whole_request spec moment q whole givens text template same = ap (λ (w : Query). request_of spec w text template moment) same

-- the run over the stage is that of what was asked, with what the subqueries gave
pub entry_behind : {D : Type 0} (state : D → DiskState) (spec : Spec) (moment : ℤ) (q whole : Query) (givens : List PlacedGiven) (lists : List (List Value)) (text bytes : List ℕ) (template : Sections) (told : Option Folder) (spans : List Span) (old new : Commit D) (entry : Entry) (counts : Counts)
    → whole ≡ filled givens q → HasEntryFor state (request_of spec whole text bytes moment) lists template told spans old new entry counts → HasEntryFor state (filled_request givens (request_of spec q text bytes moment)) lists template told spans old new entry counts
entry_behind state spec moment q whole givens lists text bytes template told spans old new entry counts same has =
    subst (λ (r : Request). HasEntryFor state r lists template told spans old new entry counts) (whole_request spec moment q whole givens text bytes same) has

-- so is a refusal of it
pub refused_behind : (spec : Spec) (moment : ℤ) (began mid told : Option Folder) (q whole : Query) (lists : List (List Value)) (text bytes : List ℕ) (template : Sections) (spans : List Span) (fault : RunFault) → OnlyGrow mid told
    → IsGiven spec moment began mid q whole lists → RefusedFor (request_of spec whole text bytes moment) template told spans fault → RefusedBehind (request_of spec q text bytes moment) template began told spans fault
refused_behind spec moment began mid told q whole lists text bytes template spans fault grows given is = by fault is
  where
    behind : (Is : Request → Type 0) → Is (request_of spec whole text bytes moment) → IsBehind Is began told (request_of spec q text bytes moment)
    behind Is is = record {
      givens = given.givens;
      lists = lists;
      give = give_wider spec moment q given.givens lists began began mid told (OnlyGrow-refl began) grows given.give;
      is = subst Is (whole_request spec moment q whole given.givens text bytes given.whole_is) is;
    }

    by : (fault : RunFault) → RefusedFor (request_of spec whole text bytes moment) template told spans fault → RefusedBehind (request_of spec q text bytes moment) template began told spans fault
    by (X.Plan fault) is = behind (λ r. RefusedFor r template told spans (X.Plan fault)) is
    by (X.Refused why) is = behind (λ r. RefusedFor r template told spans (X.Refused why)) is
    by X.LogsFault is = tt
    by X.StageFault is = tt
    by (X.ParseErrors log row) is = behind (λ r. RefusedFor r template told spans (X.ParseErrors log row)) is
    by X.Memory is = tt

-- what is read

pub reads_subqueries : (now : Option Folder) (q : Query) (size before later : ℕ) → ReadsAll now (subqueries_of q) before later → ReadsThen now q size before later
reads_subqueries now q size before later all = record { seen = now; grows = OnlyGrow-refl now; between = later; subqueries = all; most = omega arith }

pub reads_then : (mid now : Option Folder) (q : Query) (size before between later : ℕ) → OnlyGrow mid now → ReadsAll mid (subqueries_of q) before between → later ≤ between + size → ReadsThen now q size before later
reads_then mid now q size before between later grows all most = record { seen = mid; grows = grows; between = between; subqueries = all; most = most }

pub reads_nothing : (now : Option Folder) (q : Query) (size before later : ℕ) → later ≡ before → ReadsThen now q size before later
reads_nothing now q size before later same = record { seen = now; grows = OnlyGrow-refl now; between = before; subqueries = all_none now (subqueries_of q) before before (omega arith); most = omega (arith, same) }
