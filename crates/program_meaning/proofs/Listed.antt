-- The plan that a query has with what its subqueries gave is the plan that it has with the lists that were kept of them.
use Rattle.std.proofs.Common.{◌≡◌, ◌≢◌, ℕ, ℤ, suc, Bool, true, false, true≢false, List, [], ◌∷◌, length, Option, Some, None, refl, sym, ◌∙◌, ap, subst}
use Rattle.std.specs.Prelude.{Ok, IsSome, is_some, if◌then◌else◌}
use Rattle.std.specs.List.{AllZip}
use Rattle.grammar.specs.Filled.{PlacedGiven, asked_places, filled}
use Rattle.grammar.specs.Trees.{Given, Query, query}
use Rattle.in_set.specs.Facts.{facts_of}
use Rattle.lp_model.specs.Outside.{Folder, OnlyGrow}
use Rattle.lp_values.specs.declared.value.Value.{Value}
use Rattle.command_words.specs.declared.spec.Spec.{Spec}
use Rattle.subqueries.specs.LogFormat.{LogFormat}
use Rattle.subqueries.specs.LogFormat.TheVariants as F
use Rattle.subqueries.specs.Formats.{log_format}
use Rattle.subqueries.specs.Plans.{PlannedQuery, query_plan}
use Rattle.subqueries.specs.Keep.TheVariants as K
use Rattle.subqueries.proofs.Alike.{kept_alike}
use Rattle.log_listing.specs.declared.lengths.NameLength.{NameLength}
use Rattle.query_types.specs.declared.table.TableColumns.{TableColumns}
use Rattle.subqueries.specs.Giving.{AllGive, GiveThese, Gives, GivesOver, keep_for, subqueries_of}
use Rattle.subqueries.specs.Listing.{OnWhole, lines_wait}
use Rattle.program_meaning.specs.Lists.{lists_at, with_lists}
use Rattle.program_meaning.proofs.Widened.{Widens, plan_widens}

-- something is kept of each list

waits_with : (checkpoint : Option (List ℕ)) → IsSome checkpoint → is_some checkpoint ≡ true
waits_with None is = is
waits_with (Some ledger) is = refl

some_kept : (waits : Bool) (q : Query) → waits ≡ true → keep_for waits q ≢ K.Nothing
some_kept false q is same = absurd (true≢false (sym is))
some_kept true (query parts subqueries) is same = either parts.distinct same
  where
    either : (distinct : Bool) → (if distinct then K.Distinct else K.All) ≡ K.Nothing → ⊥
    either true none = cc
    either false none = cc

-- logs that tell their bytes told them before
told_before : (seen : Option Folder) (now : Folder) → OnlyGrow seen (Some now) → (folder : Folder) × (seen ≡ Some folder)
told_before None now grows = absurd (cc)
told_before (Some folder) now grows = (folder, refl)

module _ (spec : Spec) (moment : ℤ) (before : Option Folder) (now : Folder) (checkpoint : IsSome spec.checkpoint) where
  -- over a table
  over_alike : (format : LogFormat) (folder : Folder) (q : Query) (given : Given) (list : List Value) (logs : List NameLength) (table : TableColumns)
      → GivesOver format (lines_wait spec) spec.ts_format (Some folder) moment q given list logs table → given.values ≡ facts_of list
  over_alike format folder q given list logs table over =
      over.remembers.values ∙ (sym (kept_alike (keep_for (lines_wait spec) q) _ (some_kept (lines_wait spec) q (waits_with spec.checkpoint checkpoint))) ∙ ap facts_of (sym over.remembers.kept))

  whole_alike : (format : LogFormat) (folder : Folder) (q : Query) (given : Given) (list : List Value) (logs : List NameLength)
      → OnWhole format (lines_wait spec) spec.ts_format (Some folder) logs (GivesOver format (lines_wait spec) spec.ts_format (Some folder) moment q given list logs) → given.values ≡ facts_of list
  whole_alike (F.Tabled format) folder q given list logs over = over_alike (F.Tabled format) folder q given list logs _ over
  whole_alike (F.Sampled options limit) folder q given list logs over = over_alike (F.Sampled options limit) folder q given list logs _ over

  -- what a subquery is told to have given has the facts of the list that is kept of it
  gives_alike : (format : LogFormat) (q : Query) (given : Given) (list : List Value) → Gives format spec moment before (Some now) q given list → given.values ≡ facts_of list
  gives_alike format q given list g =
      let told = told_before g.seen now g.later in
      whole_alike format told.0 q given list g.logs
      (subst (λ (seen : Option Folder). OnWhole format (lines_wait spec) spec.ts_format seen g.logs (GivesOver format (lines_wait spec) spec.ts_format seen moment q given list g.logs)) told.1 g.over)

  -- each stands where the list does, with its set
  all_widen : (format : LogFormat) (qs : List Query) (places : List ℕ) (givens : List PlacedGiven) (lists : List (List Value)) → AllGive format spec moment before (Some now) qs places givens lists → AllZip Widens givens (lists_at places lists)
  all_widen format [] [] [] [] give = tt
  all_widen format [] [] [] (list ∷ lists) give = absurd give
  all_widen format [] [] (given ∷ givens) lists give = absurd give
  all_widen format [] (place ∷ places) givens lists give = absurd give
  all_widen format (q ∷ qs) [] givens lists give = absurd give
  all_widen format (q ∷ qs) (place ∷ places) [] lists give = absurd give
  all_widen format (q ∷ qs) (place ∷ places) (given ∷ givens) [] give = absurd give
  all_widen format (q ∷ qs) (place ∷ places) (given ∷ givens) (list ∷ lists) (at, gives, more) =
      (record { at = at; values = gives_alike format q given.given list gives; kind = refl }, all_widen format qs places givens lists more)

  pub plan_with_lists : (q : Query) (givens : List PlacedGiven) (lists : List (List Value)) → GiveThese spec moment before (Some now) q givens lists
      → (table : TableColumns) (plan : PlannedQuery) → query_plan table moment (filled givens q) ≡ Ok plan → query_plan table moment (with_lists lists q) ≡ Ok plan
  plan_with_lists q givens lists give table plan is =
      plan_widens givens (lists_at (asked_places q) lists) (all_widen (log_format spec q) (subqueries_of q) (asked_places q) givens lists give) table moment q plan is

  -- and there is one list for each subquery
  as_many : (format : LogFormat) (qs : List Query) (places : List ℕ) (givens : List PlacedGiven) (lists : List (List Value)) → AllGive format spec moment before (Some now) qs places givens lists → length lists ≡ length qs
  as_many format [] [] [] [] give = refl
  as_many format [] [] [] (list ∷ lists) give = absurd give
  as_many format [] [] (given ∷ givens) lists give = absurd give
  as_many format [] (place ∷ places) givens lists give = absurd give
  as_many format (q ∷ qs) [] givens lists give = absurd give
  as_many format (q ∷ qs) (place ∷ places) [] lists give = absurd give
  as_many format (q ∷ qs) (place ∷ places) (given ∷ givens) [] give = absurd give
  as_many format (q ∷ qs) (place ∷ places) (given ∷ givens) (list ∷ lists) give = ap suc (as_many format qs places givens lists give.2)

  pub one_each : (q : Query) (givens : List PlacedGiven) (lists : List (List Value)) → GiveThese spec moment before (Some now) q givens lists → length lists ≡ length (subqueries_of q)
  one_each q givens lists give = as_many (log_format spec q) (subqueries_of q) (asked_places q) givens lists give
