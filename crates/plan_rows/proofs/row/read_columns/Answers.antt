use Rattle.std.proofs.Common.{◌≤◌, ◌∷◌, ◌+◌, List, pos, take, length, sym, subst, arith}
use Rattle.line_input.specs.Taken.{slots_of}
use Rattle.lp_values.specs.declared.value.Value.{Value}
use Rattle.lp_values.specs.declared.value.Value.TheVariants as V
use Rattle.plan_rows.specs.Picks.{Put, fields_read}
use Rattle.plan_rows.proofs.Fields.{fields_length}
use Rattle.plan_rows.proofs.PutLemmas.{put_more, put_past}
use Rattle.plan_rows.proofs.row.read_columns.Goals.{then-column-len+in_ok-value, else-column-len}
use Rattle.plan_rows.proofs.row.read_columns.Goals as goal

pub loop-column-preserved : goal.loop-column-preserved
loop-column-preserved c =
    let slots = slots_of c.args.line.now c.args.fields.now in
    let row : List Value = V.Text c.args.identity.now ∷ V.Int (pos c.args.number) ∷ fields_read c.args.readings.now slots 0 in
    let items = c.as_slice-column-items.result.now in
    let i = c.loop-column.column-index in
    let old = c.args.values.now in
    let many = fields_length c.args.readings.now slots 0 in
    let room = c.requires.room in
    let fits : length row ≤ length old = omega arith in
    let So : List Value → Type 0 = λ values. Put (take (i + 1) items) row old values in
    elim c.if-column-len.branch [
      | then-column-len+in_ok-value w ↦
          subst So (sym w.values-is) (subst So (sym w.set.ensures) (put_more items i row old c.loop-column.values w.in_ok-value.value c.loop-column-test.true (omega (arith, w.if-column-len.true, c.len.ensures)) w.in_ok-value.ensures c.loop-column.invariant))
      | else-column-len w ↦
          subst So (sym w.values-is) (put_past items i row old c.loop-column.values c.loop-column-test.true (omega (arith, w.if-column-len.false, c.len.ensures)) fits c.loop-column.invariant)
    ]
