use Rattle.std.proofs.Common.{◌≤◌, ◌<◌, ◌-◌, ap, sym, refl, ◌∙◌, arith, List, ◌++◌}
use Rattle.std.proofs.lemmas.List.{append_assoc}
use Rattle.lp_values.specs.declared.group.GroupRow.{GroupRow}
use Rattle.group_rollup.specs.Groups.{shorter}
use Rattle.group_rollup.proofs.HandingLemmas.{shorter_step, shorter_none, level_handed}
use Rattle.group_rollup.proofs.TableLemmas.{append_nil}
use Rattle.group_rollup.proofs.rows.Rows.roll_up.Goals as goal

pub loop-left-init : goal.loop-left-init
loop-left-init c = record { within = omega arith; rows = λ records stands. refl }

pub loop-left-preserved : goal.loop-left-preserved
loop-left-preserved c =
    let width = c.args.width in
    let kinds = c.args.kinds.now in
    let left = c.loop-left.left in
    let level = c.in_ok-level.level in
    let some : 0 < left = omega arith in
    let within : left - 1 ≤ width = omega arith in
    record {
      within = within;
      rows = λ records stands.
          let keeps = c.in_ok-level.ensures.keeps width c.args.all records within stands in
          let handed = level_handed width (left - 1) c.args.all kinds records level.keys.keys level.columns.items stands.small stands.few stands.count keeps in
          c.loop-left.invariant.rows records stands
          ∙ (ap (λ (l : List GroupRow). c.loop-left.rows ++ l) (shorter_step width kinds records left some)
          ∙ (sym (append_assoc c.loop-left.rows _ (shorter width kinds records (left - 1)))
          ∙ ap (λ (l : List GroupRow). l ++ shorter width kinds records (left - 1)) (ap (λ (l : List GroupRow). c.loop-left.rows ++ l) (sym handed) ∙ sym c.in_ok-hand_out_level.ensures)));
    }

pub returns : goal.returns
returns c = λ records stands.
    sym (c.loop-left.invariant.rows records stands
    ∙ (ap (λ (l : List GroupRow). c.loop-left.rows ++ l) (shorter_none c.args.width c.args.kinds.now records c.loop-left.left c.loop-left-test.false) ∙ append_nil c.loop-left.rows))
