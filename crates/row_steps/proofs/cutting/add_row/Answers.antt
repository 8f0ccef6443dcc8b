use Rattle.std.proofs.Common.{◌++◌, ◌∷◌, [], ap₂, subst}
use Rattle.group_rollup.specs.Groups.{Record}
use Rattle.group_rollup.specs.Tables.{Holds}
use Rattle.row_steps.proofs.cutting.add_row.Goals as goal

pub returns-clause-ok : goal.returns-clause-ok
returns-clause-ok c = λ many kinds rollup records holds.
    subst (λ (r : Record). Holds many kinds rollup c.add.new.self (records ++ r ∷ [])) (ap₂ (λ k a. (k, a)) c.in_ok-cut_row.ensures.keys c.in_ok-cut_row.ensures.arguments) (c.in_ok-add.ensures.ok many kinds rollup records holds)
