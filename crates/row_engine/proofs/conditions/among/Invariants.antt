use Rattle.std.proofs.Common.{◌≡◌, drop}
use Rattle.lp_values.specs.Truths.{either}
use Rattle.row_engine.specs.Rows.{among}
use Rattle.row_engine.proofs.conditions.among.Given as goal

abbrev pub invariant-loop-item : goal.invariant-loop-item
invariant-loop-item l = among l.row l.sought l.items ≡ either l.truth (among l.row l.sought (drop l.item-index l.items))
