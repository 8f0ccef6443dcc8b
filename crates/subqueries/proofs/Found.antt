-- What one subquery gives, or why it doesn't, by its spans.
use Rattle.std.proofs.Common.{◌≡◌, ◌∙◌, ℕ, ℤ, Bool, List, [], ◌∷◌, map, Option, Some, None, Err, refl, ap, sym, subst}
use Rattle.grammar.specs.Trees as model
use Rattle.lp_model.specs.Outside.{Folder, OnlyGrow, Told}
use Rattle.lp_model.proofs.Growing.{OnlyGrow-refl}
use Rattle.lp_time.specs.declared.piece.Piece.{Piece}
use Rattle.lp_values.specs.declared.value.Value.{Value}
use Rattle.command_words.specs.declared.spec.Spec.{Spec}
use Rattle.checkpoint.specs.Wholes.{whole_spans}
use Rattle.execution.specs.Executed.{OnTable}
use Rattle.execution.specs.Formats.{lines_in}
use Rattle.execution.specs.declared.formats.LogFormat.{LogFormat}
use Rattle.group_planning.specs.Subquery.{subquery_plan_of}
use Rattle.list_run.specs.Faults.{OnBad, OnUnplanned}
use Rattle.list_run.specs.declared.fault.ListFault.{ListFault as ReadFault}
use Rattle.list_run.specs.declared.fault.ListFault.TheVariants as R
use Rattle.list_run.specs.declared.keep.Keep.{Keep}
use Rattle.list_run.specs.declared.given.SampledValues.{SampledValues}
use Rattle.log_listing.specs.declared.lengths.NameLength.{NameLength}
use Rattle.log_listing.specs.Lengths.{names_in as listed_names}
use Rattle.log_reading.specs.Page.{IsTooMany}
use Rattle.log_reading.specs.declared.span.Span.{Span}
use Rattle.log_reading.specs.Spans.{AreKept, BadLine, spans_bad_lines}
use Rattle.query_types.specs.Planned.{Planned}
use Rattle.query_types.specs.declared.fault.TypeFault.{TypeFault}
use Rattle.query_types.specs.declared.table.TableColumns.{TableColumns}
use Rattle.subqueries.specs.Giving.{Gives, GivesOver, Remembers, expression_place, keep_for}
use Rattle.subqueries.specs.Listing.{AreWhole, first_own, lines_wait}
use Rattle.subqueries.specs.Refusing.{IsClash, IsRefusedOne, IsTyped, read_fault}
use Rattle.subqueries.specs.Valuing.{GivesValues, HasValues}
use Rattle.subqueries.proofs.Wholes.{listed_later, on_whole, whole_told}

remembered : (told : Option Folder) (format : LogFormat) (waits : Bool) (keep : Keep) (pattern : List Piece) (plan : Planned) (list : SampledValues) (given : model.Given) (kept : List Value) (logs : List NameLength) → given.values ≡ list.values → kept ≡ list.kept → given.bad ≡ list.bad
    → Told told (HasValues format waits keep pattern plan list (whole_spans logs)) → Told told (Remembers format waits keep pattern plan given kept logs)
remembered None format waits keep pattern plan list given kept logs values same bad has = tt
remembered (Some folder) format waits keep pattern plan list given kept logs values same bad has = record { values = values ∙ has.values; kept = same ∙ has.kept; bad = bad ∙ has.bad }

gives_over : (told : Option Folder) (format : LogFormat) (waits : Bool) (pattern : List Piece) (moment : ℤ) (q : model.Query) (list : SampledValues) (given : model.Given) (kept : List Value) (logs : List NameLength) (spans : List Span) → spans ≡ whole_spans logs
    → given.kind ≡ list.kind → given.values ≡ list.values → kept ≡ list.kept → given.bad ≡ list.bad
    → (table : TableColumns) → GivesValues format waits (keep_for waits q) pattern told moment q list spans table → GivesOver format waits pattern told moment q given kept logs table
gives_over told format waits pattern moment q list given kept logs spans wholes kind values same bad table gives = record {
  plan = gives.plan;
  is_planned = gives.is_planned;
  kind = kind ∙ gives.kind;
  remembers = remembered told format waits (keep_for waits q) pattern gives.plan list given kept logs values same bad (whole_told told format waits logs spans (HasValues format waits (keep_for waits q) pattern gives.plan list) wholes gives.has);
}

whole_names : (logs : List NameLength) → map (λ (span : Span). span.name) (whole_spans logs) ≡ listed_names logs
whole_names [] = refl
whole_names (log ∷ logs) = ap (λ (names : List (List ℕ)). log.name ∷ names) (whole_names logs)

-- the first of them that the run keeps for itself
own_names_of : (before mid : Option Folder) (spec : Spec) (q : model.Query) (spans : List Span) → (found : AreWhole before mid q spans) → first_own spec.checkpoint (listed_names found.logs) ≡ first_own spec.checkpoint (map (λ (span : Span). span.name) spans)
own_names_of before mid spec q spans found = ap (first_own spec.checkpoint) (sym (ap (λ (s : List Span). map (λ (span : Span). span.name) s) found.wholes ∙ whole_names found.logs))

-- one of them is
pub clash_found : (before now : Option Folder) (spec : Spec) (q : model.Query) (spans : List Span) (name : List ℕ) → AreWhole before now q spans → Some name ≡ first_own spec.checkpoint (map (λ (span : Span). span.name) spans) → IsClash spec before now q name
clash_found before now spec q spans name found is = record { logs = found.logs; are_listed = found.are_listed; first = own_names_of before now spec q spans found ∙ sym is }

gives_waiting : (before mid now : Option Folder) (format : LogFormat) (spec : Spec) (moment : ℤ) (q : model.Query) (spans : List Span) (list : SampledValues) (given : model.Given) (kept : List Value) → AreWhole before mid q spans → None ≡ first_own spec.checkpoint (map (λ (span : Span). span.name) spans) → OnlyGrow mid now
    → OnTable format (lines_wait spec) spec.ts_format now spans (GivesValues format (lines_wait spec) (keep_for (lines_wait spec) q) spec.ts_format now moment q list spans)
    → given.place ≡ expression_place q → given.kind ≡ list.kind → given.values ≡ list.values → kept ≡ list.kept → given.logs ≡ map (λ (span : Span). span.name) spans → given.bad ≡ list.bad
    → Gives format spec moment before now q given kept
gives_waiting before mid now format spec moment q spans list given kept found none grow gives place kind values same logs bad = record {
  seen = now;
  later = OnlyGrow-refl now;
  logs = found.logs;
  are_listed = listed_later before mid now q found.logs grow found.are_listed;
  free = own_names_of before mid spec q spans found ∙ sym none;
  names = logs ∙ (ap (λ (s : List Span). map (λ (span : Span). span.name) s) found.wholes ∙ whole_names found.logs);
  place = place;
  over = on_whole now format (lines_wait spec) spec.ts_format found.logs spans (GivesValues format (lines_wait spec) (keep_for (lines_wait spec) q) spec.ts_format now moment q list spans) (GivesOver format (lines_wait spec) spec.ts_format now moment q given kept found.logs) found.wholes
      (gives_over now format (lines_wait spec) spec.ts_format moment q list given kept found.logs spans found.wholes kind values same bad) gives;
}

-- of a fault of the logs' records, with what is known of it
refused_waiting : (before mid now : Option Folder) (format : LogFormat) (spec : Spec) (moment : ℤ) (q : model.Query) (spans : List Span) (most : Option ℕ) (fault : ReadFault) → AreWhole before mid q spans → None ≡ first_own spec.checkpoint (map (λ (span : Span). span.name) spans) → OnlyGrow mid now
    → OnUnplanned (λ (fault : TypeFault). OnTable format (lines_wait spec) spec.ts_format now spans (λ table. subquery_plan_of table moment q ≡ Err fault)) fault
    → OnBad (λ (line : BadLine). IsTyped format moment q) fault
    → OnBad (λ (line : BadLine). Told now (λ folder. AreKept (lines_in format) (lines_wait spec) spans folder → IsTooMany most 0 (spans_bad_lines (lines_in format) (lines_wait spec) folder spans) line)) fault
    → IsRefusedOne format spec moment before now q most (read_fault fault)
refused_waiting before mid now format spec moment q spans most (R.Plan fault) found none grow unplanned typed bad = record {
  logs = found.logs;
  are_listed = listed_later before mid now q found.logs grow found.are_listed;
  free = own_names_of before mid spec q spans found ∙ sym none;
  unplanned = on_whole now format (lines_wait spec) spec.ts_format found.logs spans (λ table. subquery_plan_of table moment q ≡ Err fault) (λ table. subquery_plan_of table moment q ≡ Err fault) found.wholes (λ table is. is) unplanned;
}
refused_waiting before mid now format spec moment q spans most R.Logs found none grow unplanned typed bad = tt
refused_waiting before mid now format spec moment q spans most (R.Bad log row) found none grow unplanned typed bad = record {
  logs = found.logs;
  are_listed = listed_later before mid now q found.logs grow found.are_listed;
  free = own_names_of before mid spec q spans found ∙ sym none;
  typed = typed;
  exceeds = whole_told now format (lines_wait spec) found.logs spans (λ s folder. IsTooMany most 0 (spans_bad_lines (lines_in format) (lines_wait spec) folder s) (record { log = log; row = row })) found.wholes bad;
}
refused_waiting before mid now format spec moment q spans most R.Memory found none grow unplanned typed bad = tt

-- where lines wait as the run wants it, and what it keeps is kept
module _ (before mid now : Option Folder) (format : LogFormat) (spec : Spec) (moment : ℤ) (q : model.Query) (spans : List Span) (waits : Bool) (same : waits ≡ lines_wait spec) where
  pub gives_found : (keep : Keep) (list : SampledValues) (given : model.Given) (kept : List Value) → keep ≡ keep_for waits q → AreWhole before mid q spans → None ≡ first_own spec.checkpoint (map (λ (span : Span). span.name) spans) → OnlyGrow mid now
      → OnTable format waits spec.ts_format now spans (GivesValues format waits keep spec.ts_format now moment q list spans)
      → given.place ≡ expression_place q → given.kind ≡ list.kind → given.values ≡ list.values → kept ≡ list.kept → given.logs ≡ map (λ (span : Span). span.name) spans → given.bad ≡ list.bad
      → Gives format spec moment before now q given kept
  gives_found keep list given kept keeps found none grow gives =
      let Keeping : Keep → Type 0 = λ keep. OnTable format waits spec.ts_format now spans (GivesValues format waits keep spec.ts_format now moment q list spans) in
      let Waiting : Bool → Type 0 = λ waits. OnTable format waits spec.ts_format now spans (GivesValues format waits (keep_for waits q) spec.ts_format now moment q list spans) in
      gives_waiting before mid now format spec moment q spans list given kept found none grow (subst Waiting same (subst Keeping keeps gives))

  pub refused_read : (most : Option ℕ) (fault : ReadFault) → AreWhole before mid q spans → None ≡ first_own spec.checkpoint (map (λ (span : Span). span.name) spans) → OnlyGrow mid now
      → OnUnplanned (λ (fault : TypeFault). OnTable format waits spec.ts_format now spans (λ table. subquery_plan_of table moment q ≡ Err fault)) fault
      → OnBad (λ (line : BadLine). IsTyped format moment q) fault
      → OnBad (λ (line : BadLine). Told now (λ folder. AreKept (lines_in format) waits spans folder → IsTooMany most 0 (spans_bad_lines (lines_in format) waits folder spans) line)) fault
      → IsRefusedOne format spec moment before now q most (read_fault fault)
  refused_read most fault found none grow unplanned typed bad =
      let Unplanned : Bool → Type 0 = λ waits. OnUnplanned (λ (fault : TypeFault). OnTable format waits spec.ts_format now spans (λ table. subquery_plan_of table moment q ≡ Err fault)) fault in
      let Bad : Bool → Type 0 = λ waits. OnBad (λ (line : BadLine). Told now (λ folder. AreKept (lines_in format) waits spans folder → IsTooMany most 0 (spans_bad_lines (lines_in format) waits folder spans) line)) fault in
      refused_waiting before mid now format spec moment q spans most fault found none grow (subst Unplanned same unplanned) typed (subst Bad same bad)
