-- The output of a name without stars is opened.
use Rattle.std.proofs.Common.{◌≡◌, ℕ, List, [], ◌∷◌, ◌++◌, Option, Some, None, IfSome, true, ap, sym, ◌∙◌, refl, subst}
use Rattle.lp_values.specs.declared.value.Value.{Value}
use Rattle.log_reading.specs.Found.{Found, Met, rows_met}
use Rattle.text_output.specs.Output.{StageKind}
use Rattle.query_run.specs.Writer.{refused_by}
use Rattle.query_run.proofs.Reasons.{refused_kept}
use Rattle.row_output.specs.FileRows.{OnRefused}
use Rattle.row_output.specs.Kept.{HasRows, asked_of}
use Rattle.row_output.specs.Rows.{IsRefused, Stops}
use Rattle.row_output.specs.Sinks.{IsOpened}
use Rattle.row_output.specs.declared.fault.OutputFault.{OutputFault}
use Rattle.row_output.specs.declared.fault.Refused.{Refused}
use Rattle.row_output.specs.declared.kept.RowOutput.{RowOutput}
use Rattle.plan_rows.specs.declared.ready.ReadyPlan.{ReadyPlan}
use Rattle.group_rollup.specs.Tables.{Table}
use Rattle.row_steps.specs.Gathered.{Gathers, gathered_at}
use Rattle.row_steps.specs.Rows.{Rows}
use Rattle.sampled_run.specs.Kinds.{picks_of}
use Rattle.sampled_table.specs.declared.picking.SampledPicker.{SampledPicker}
use Rattle.sampled_groups.specs.Taking.{HasNone, OnAny, StopsGroups, TakesGroups, groups_at, more_taken, stops_there}
use Rattle.sampled_groups.specs.declared.group_taker.GroupTaker.{GroupTaker}

-- it was opened
pub opens_as : {S : Type 0} (kind : StageKind S) (a b : GroupTaker) (u v : S) → Gathers picks_of (groups_at a) [] (groups_at b)
    → ((start : S) (rows : Rows) → HasRows kind a.output start rows u → HasRows kind b.output start rows v)
    → ((start : S) (rows : Rows) → HasRows kind a.output start rows u → IsOpened b.output.sink)
    → asked_of b.output ≡ asked_of a.output → b.opened ≡ true → b.refused ≡ a.refused → TakesGroups kind a u [] b v
opens_as kind a b u v gathers has opened asked up refused = record {
  gathers = gathers;
  none = λ start none. record { has = has start [] none.has; opened = λ is. opened start [] none.has };
  opened = tt;
  stays = λ is. up;
  asked = asked;
  refused = refused;
}

-- it was refused
pub stops_as : {S : Type 0} (kind : StageKind S) (a b : GroupTaker) (u v : S) (fault : OutputFault)
    → ((start : S) (rows more : Rows) → HasRows kind a.output start rows u → Stops kind (asked_of a.output) start (rows ++ more) v)
    → OnRefused (λ why. (start : S) (rows more : Rows) → HasRows kind a.output start rows u → IsRefused (asked_of a.output) (rows ++ more) why) fault
    → b.refused ≡ refused_by a.refused fault → StopsGroups kind a u b v
stops_as {S = S} kind a b u v fault stop refused same = record {
  stop = λ start rows none. stop start [] rows none.has;
  refused = λ unrefused start rows none.
      let Q : Refused → Type 0 = IsRefused (asked_of a.output) rows in
      let All : Refused → Type 0 = λ why. (s : S) (front behind : Rows) → HasRows kind a.output s front u → IsRefused (asked_of a.output) (front ++ behind) why in
      subst (λ (o : Option Refused). IfSome o Q) (sym same) (refused_kept a.refused fault All Q (λ why is. is start [] rows none.has) unrefused refused);
}

-- what groups have gathered, whatever becomes of the stage
gathers_alone : {S : Type 0} (picker next : SampledPicker) (plan after : ReadyPlan) (groups grown : Table) (u v : S) (founds : List Found)
    → Gathers picks_of (gathered_at picker plan groups u) founds (gathered_at next after grown v) → Gathers picks_of (gathered_at picker plan groups (tt {0})) founds (gathered_at next after grown (tt {0}))
gathers_alone picker next plan after groups grown u v founds g = record { grown = g.grown; picker = g.picker; plan = g.plan; width = g.width; kinds = g.kinds; out = refl }

-- a taker that gathers, and has opened an output where there is a record
pub gathers_on : {S : Type 0} (kind : StageKind S) (m n : GroupTaker) (v w : S) (founds : List Found) → OnAny founds (n.opened ≡ true) → n.output ≡ m.output → n.opened ≡ m.opened → n.refused ≡ m.refused
    → Gathers picks_of (gathered_at m.rows.picker m.rows.plan m.rows.groups v) founds (gathered_at n.rows.picker n.rows.plan n.rows.groups w) → TakesGroups kind m v founds n w
gathers_on {S = S} kind m n v w founds any output opened refused g = record {
  gathers = gathers_alone m.rows.picker n.rows.picker m.rows.plan n.rows.plan m.rows.groups n.rows.groups v w founds g;
  none = λ start none. record {
    has = subst (λ (t : S). HasRows kind n.output start [] t) (sym g.out) (subst (λ (o : RowOutput). HasRows kind o start [] v) (sym output) none.has);
    opened = λ is. subst (λ (o : RowOutput). IsOpened o.sink) (sym output) (none.opened (sym opened ∙ is));
  };
  opened = any;
  stays = λ is. opened ∙ is;
  asked = ap asked_of output;
  refused = refused;
}

any_of : (P : Type 0) (founds : List Found) → P → OnAny founds P
any_of P [] p = tt
any_of P (found ∷ founds) p = p

-- it opened its output, and then gathered
pub takes_on : {S : Type 0} (kind : StageKind S) (a m n : GroupTaker) (u v w : S) (mets : List Met) → TakesGroups kind a u [] m v → m.opened ≡ true → n.output ≡ m.output → n.opened ≡ m.opened → n.refused ≡ m.refused
    → Gathers picks_of (gathered_at m.rows.picker m.rows.plan m.rows.groups v) (rows_met mets) (gathered_at n.rows.picker n.rows.plan n.rows.groups w) → TakesGroups kind a u (rows_met mets) n w
takes_on kind a m n u v w mets f up output opened refused g =
    more_taken kind a m n u v w [] mets f (gathers_on kind m n v w (rows_met mets) (any_of _ (rows_met mets) (opened ∙ up)) output opened refused g)

-- it opened its output, and then stopped
pub stops_on : {S : Type 0} (kind : StageKind S) (a m n : GroupTaker) (u v w : S) → TakesGroups kind a u [] m v → n.refused ≡ m.refused → w ≡ v → StopsGroups kind a u n w
stops_on {S = S} kind a m n u v w f refused same = record {
  stop = λ start rows none. subst (λ (t : S). Stops kind (asked_of a.output) start rows t) (sym same) ((stops_there kind a m u v [] f).stop start rows none);
  refused = λ unrefused start rows none. subst (λ (o : Option Refused). IfSome o (IsRefused (asked_of a.output) rows)) (sym (refused ∙ (f.refused ∙ unrefused))) tt;
}
