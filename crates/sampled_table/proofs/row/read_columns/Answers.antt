use Rattle.std.proofs.Common.{◌≤◌, ◌∷◌, ◌+◌, ◌∙◌, List, Bool, get_or, pos, take, length, sym, ap, subst, arith}
use Rattle.line_input.specs.Taken.{slots_of}
use Rattle.log_reading.specs.Found.{Found}
use Rattle.lp_values.specs.declared.value.Value.{Value}
use Rattle.lp_values.specs.declared.value.Value.TheVariants as V
use Rattle.plan_rows.specs.Picks.{Put}
use Rattle.plan_rows.proofs.PutLemmas.{put_more, put_past}
use Rattle.column_kinds.specs.Fields.{indexed}
use Rattle.sampled_table.specs.Picks.{row_of, value_in_column}
use Rattle.sampled_table.proofs.Steps.{row_length}
use Rattle.sampled_table.proofs.row.read_columns.Goals.{then-column-len+in_ok-value, else-column-len}
use Rattle.sampled_table.proofs.row.read_columns.Goals as goal

pub loop-column-preserved : goal.loop-column-preserved
loop-column-preserved c =
    let found : Found = record { identity = c.args.identity.now; row = record { number = c.args.number; slots = slots_of c.args.line.now c.args.fields.now; columns = c.args.own.now } } in
    let pattern = c.args.pattern.now in
    let told = c.args.told.now in
    let row : List Value = row_of pattern told found in
    let items = c.as_slice-column-items.result.now in
    let i = c.loop-column.column-index in
    let old = c.args.values.now in
    let size = row_length pattern told found in
    let room = c.requires.room in
    let fits : length row ≤ length old = omega arith in
    let So : List Value → Type 0 = λ values. Put (take (i + 1) items) row old values in
    let Row : Bool → List Value = λ first. V.Text found.identity ∷ V.Int (pos found.row.number) ∷ indexed (value_in_column pattern first found.row.columns found.row.slots) 0 told.columns in
    elim c.if-column-len.branch [
      | then-column-len+in_ok-value w ↦
          let is = w.in_ok-value.ensures ∙ ap (λ (first : Bool). get_or (Row first) (get_or items i 0) V.Null) c.is_first-is_of_first.ensures in
          subst So (sym w.values-is) (subst So (sym w.set.ensures) (put_more items i row old c.loop-column.values w.in_ok-value.value c.loop-column-test.true (omega (arith, w.if-column-len.true, c.len.ensures)) is c.loop-column.invariant))
      | else-column-len w ↦
          subst So (sym w.values-is) (put_past items i row old c.loop-column.values c.loop-column-test.true (omega (arith, w.if-column-len.false, c.len.ensures)) fits c.loop-column.invariant)
    ]
