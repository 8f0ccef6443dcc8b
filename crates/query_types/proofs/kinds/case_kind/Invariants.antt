use Rattle.std.proofs.Common.{◌≡◌, map, length}
use Rattle.lp_values.specs.declared.kind.Kind.TheVariants.{Any}
use Rattle.query_types.specs.Meanings.{case_kind}
use Rattle.query_types.specs.Terms.{term_of}
use Rattle.query_types.proofs.kinds.case_kind.Given as goal

abbrev pub invariant-loop-rest : goal.invariant-loop-rest
invariant-loop-rest l = case_kind l.table.columns Any (map term_of l.parts) ≡ case_kind l.table.columns l.kind (map term_of l.rest)

abbrev pub decreases-loop-rest : goal.decreases-loop-rest
decreases-loop-rest l = length l.rest
