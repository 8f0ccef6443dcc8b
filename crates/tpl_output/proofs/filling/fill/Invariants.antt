use Rattle.std.proofs.Common.{◌≡◌, ◌≤◌, ◌-◌, ◌++◌, List, length, drop}
use Rattle.lp_values.specs.declared.value.Value.{Value}
use Rattle.tpl_output.specs.Marks.{filled, filled_from}
use Rattle.tpl_output.specs.Tpl.{rendered}
use Rattle.tpl_output.proofs.filling.fill.Given as goal

abbrev pub invariant-bytes : goal.invariant-bytes
invariant-bytes l = record {
  within : l.at ≤ length l.text;
  same : (values : List Value) → filled l.names l.moment l.body values l.text ≡ rendered l.filling values ++ filled_from l.names l.moment l.body values 0 (drop l.at l.text);
}

abbrev pub decreases-bytes : goal.decreases-bytes
decreases-bytes l = length l.text - l.at
