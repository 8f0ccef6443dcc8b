use Rattle.std.proofs.Common.{◌≡◌, ◌++◌, drop, get_or}
use Rattle.lp_values.specs.declared.kind.Kind.TheVariants as K
use Rattle.column_kinds.specs.Fields.{indexed}
use Rattle.column_kinds.proofs.judging.named_kinds.Given as goal

abbrev pub invariant-loop-column : goal.invariant-loop-column
invariant-loop-column l = record {
  at : l.at ≡ l.column-index;
  columns : indexed (λ at name. record { name = name; kind = get_or l.kinds at K.Any }) 0 l.column-items
      ≡ l.columns ++ indexed (λ at name. record { name = name; kind = get_or l.kinds at K.Any }) l.column-index (drop l.column-index l.column-items);
}
