use Rattle.std.proofs.Common.{◌∙◌, Bool, List, length, ap, sym, subst, option_map}
use Rattle.query_types.specs.Conditions.{filter_of}
use Rattle.query_types.specs.Planned.{Covers}
use Rattle.query_types.proofs.Using.{covered, used_length}
use Rattle.row_planning.proofs.planning.planned.Goals as goal

pub returns-clause-size : goal.returns-clause-size
returns-clause-size c =
    let filter = option_map filter_of c.args.condition in
    ap length c.in_ok-used.ensures ∙ used_length 0 c.args.table.now.columns c.args.aliased.now c.args.items filter

pub returns-clause-covers : goal.returns-clause-covers
returns-clause-covers c =
    let filter = option_map filter_of c.args.condition in
    subst (λ (u : List Bool). Covers u c.args.items filter) (sym c.in_ok-used.ensures) (covered c.args.table.now.columns c.args.aliased.now c.args.items filter)
