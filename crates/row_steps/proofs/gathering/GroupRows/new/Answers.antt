use Rattle.std.proofs.Common.{◌+◌, List, length, sym, subst, arith}
use Rattle.lp_values.specs.declared.group.AggKind.{AggKind}
use Rattle.row_steps.specs.Grouped.{HasWidth}
use Rattle.row_steps.proofs.gathering.GroupRows.new.Goals as goal

pub invariant_of-result : goal.invariant_of-result
invariant_of-result g c =
    let made = c.in_ok-groups.ensures in
    let none = made.count in
    record {
      same_width = made.wide;
      wide = subst (λ (kinds : List AggKind). HasWidth (g.P.Picker.picks c.args.picker) (c.args.shape.now.keys + length kinds)) (sym made.asked) c.requires;
      few = omega arith;
    }
