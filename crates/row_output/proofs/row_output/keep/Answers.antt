use Rattle.std.proofs.Common.{refl}
use Rattle.row_output.proofs.KeptCalls.{any_stands}
use Rattle.row_output.proofs.row_output.keep.Goals as goal

pub returns-then-lets_all_go-clause-stands : goal.returns-then-lets_all_go-clause-stands
returns-then-lets_all_go-clause-stands c = λ same rows stands.
    let past = c.if-lets_all_go.ensures.0 refl in
    any_stands c.args.order.now c.args.orderer.now rows c.args.row.now same past.0 past.1 stands
