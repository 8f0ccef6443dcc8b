-- How the taker of a grouped query takes records.
use Rattle.std.specs.Prelude.{◌≡◌, List, [], ◌∷◌, ◌++◌, Option, None, IfSome, true, ⊤}
use Rattle.std.proofs.Common.{sym, ◌∙◌, refl, subst}
use Rattle.lp_values.specs.declared.value.Value.{Value}
use Rattle.log_reading.specs.Found.{Found, Met, rows_met}
use Rattle.log_reading.proofs.RowsMet.{rows_met-append}
use Rattle.text_output.specs.Output.{StageKind}
use Rattle.plan_rows.specs.declared.ready.ReadyPlan.{ReadyPlan}
use Rattle.row_output.specs.Asked.{Asked}
use Rattle.row_output.specs.Kept.{HasRows, asked_of}
use Rattle.row_output.specs.Rows.{IsRefused, Stops}
use Rattle.row_output.specs.Sinks.{IsOpened}
use Rattle.row_output.specs.declared.fault.Refused.{Refused}
use Rattle.row_output.proofs.Stopping.{rows_stop}
use Rattle.row_steps.specs.Gathered.{GatheredAt, Gathers, gathered_at, gathers_none, gathers_more_met}
use Rattle.sampled_run.specs.Kinds.{picks_of}
use Rattle.sampled_table.specs.declared.picking.SampledPicker.{SampledPicker}
use Rattle.sampled_groups.specs.declared.group_taker.GroupTaker.{GroupTaker}

-- the groups of a taker at one moment
abbrev pub groups_at : GroupTaker → GatheredAt SampledPicker ReadyPlan ⊤
groups_at taker = gathered_at taker.rows.picker taker.rows.plan taker.rows.groups tt

-- Since a moment of the stage no row was put. Where the taker says that it has opened the output of a name without stars, it is.
pub record HasNone {S : Type 0} (kind : StageKind S) (taker : GroupTaker) (start : S) (now : S) : Type 0 where
  pub has : HasRows kind taker.output start [] now
  pub opened : taker.opened ≡ true → IsOpened taker.output.sink

-- P where there is a record
abbrev pub OnAny : List Found → Type 0 → Type 0
OnAny [] P = ⊤
OnAny (found ∷ founds) P = P

-- The groups' records have grown by the rows that are picked of what was found. No row was put, and before the first record the
-- output of a name without stars was opened.
pub record TakesGroups {S : Type 0} (kind : StageKind S) (old : GroupTaker) (before : S) (founds : List Found) (new : GroupTaker) (now : S) : Type 0 where
  pub gathers : Gathers picks_of (groups_at old) founds (groups_at new)
  pub none : (start : S) → HasNone kind old start before → HasNone kind new start now
  pub opened : OnAny founds (new.opened ≡ true)
  pub stays : old.opened ≡ true → new.opened ≡ true
  pub asked : asked_of new.output ≡ asked_of old.output
  pub refused : new.refused ≡ old.refused

-- it stopped before any row was put
pub record StopsGroups {S : Type 0} (kind : StageKind S) (old : GroupTaker) (before : S) (last : GroupTaker) (now : S) : Type 0 where
  pub stop : (start : S) (rows : List (List Value)) → HasNone kind old start before → Stops kind (asked_of old.output) start rows now
  pub refused : old.refused ≡ None → (start : S) (rows : List (List Value)) → HasNone kind old start before → IfSome last.refused (IsRefused (asked_of old.output) rows)

any_behind : (P : Type 0) (xs ys : List Found) → OnAny xs P → OnAny ys P → OnAny (xs ++ ys) P
any_behind P [] ys one two = two
any_behind P (found ∷ xs) ys one two = one

any_stays : (P Q : Type 0) (xs : List Found) → (P → Q) → OnAny xs P → OnAny xs Q
any_stays P Q [] so p = tt
any_stays P Q (found ∷ xs) so p = so p

pub none_taken : {S : Type 0} (kind : StageKind S) (s : GroupTaker) (w : S) → TakesGroups kind s w [] s w
none_taken kind s w = record {
  gathers = gathers_none picks_of (groups_at s);
  none = λ start none. none;
  opened = tt;
  stays = λ is. is;
  asked = refl;
  refused = refl;
}

pub more_taken : {S : Type 0} (kind : StageKind S) (a b c : GroupTaker) (u v w : S) (xs ys : List Met) → TakesGroups kind a u (rows_met xs) b v → TakesGroups kind b v (rows_met ys) c w → TakesGroups kind a u (rows_met (xs ++ ys)) c w
more_taken kind a b c u v w xs ys f s = record {
  gathers = gathers_more_met picks_of (groups_at a) (groups_at b) (groups_at c) xs ys f.gathers s.gathers;
  none = λ start none. s.none start (f.none start none);
  opened = subst (λ (t : List Found). OnAny t (c.opened ≡ true)) (sym (rows_met-append xs ys)) (any_behind _ (rows_met xs) (rows_met ys) (any_stays _ _ (rows_met xs) s.stays f.opened) s.opened);
  stays = λ is. s.stays (f.stays is);
  asked = s.asked ∙ f.asked;
  refused = s.refused ∙ f.refused;
}

-- it stopped where records were taken
pub stops_there : {S : Type 0} (kind : StageKind S) (a b : GroupTaker) (u v : S) (founds : List Found) → TakesGroups kind a u founds b v → StopsGroups kind a u b v
stops_there kind a b u v founds f = record {
  stop = λ start rows none. subst (λ (asked : Asked). Stops kind asked start rows v) f.asked (rows_stop kind b.output start [] rows v (f.none start none).has);
  refused = λ unrefused start rows none. subst (λ (o : Option Refused). IfSome o (IsRefused (asked_of a.output) rows)) (sym (f.refused ∙ unrefused)) tt;
}

-- some records were taken, and then it stopped
pub stops_behind : {S : Type 0} (kind : StageKind S) (a b c : GroupTaker) (u v w : S) (founds : List Found) → TakesGroups kind a u founds b v → StopsGroups kind b v c w → StopsGroups kind a u c w
stops_behind kind a b c u v w founds f s = record {
  stop = λ start rows none. subst (λ (asked : Asked). Stops kind asked start rows w) f.asked (s.stop start rows (f.none start none));
  refused = λ unrefused start rows none. subst (λ (asked : Asked). IfSome c.refused (IsRefused asked rows)) f.asked (s.refused (f.refused ∙ unrefused) start rows (f.none start none));
}
