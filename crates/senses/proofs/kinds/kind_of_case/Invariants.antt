use Rattle.std.proofs.Common.{◌≡◌, map, length}
use Rattle.lp_values.specs.declared.kind.Kind.TheVariants.{Any}
use Rattle.senses.specs.Senses.{kind_of_case, sense_of}
use Rattle.senses.proofs.kinds.kind_of_case.Given as goal

abbrev pub invariant-loop-rest : goal.invariant-loop-rest
invariant-loop-rest l = kind_of_case l.table.columns Any (map sense_of l.parts) ≡ kind_of_case l.table.columns l.kind (map sense_of l.rest)

abbrev pub decreases-loop-rest : goal.decreases-loop-rest
decreases-loop-rest l = length l.rest
