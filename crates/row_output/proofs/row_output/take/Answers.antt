use Rattle.std.proofs.Common.{◌<◌, ◌^◌, ◌∷◌, ◌++◌, [], refl, sym, ◌∙◌, ap, subst}
use Rattle.order_top.specs.Finish.{Row}
use Rattle.text_output.specs.Output.{kind_of}
use Rattle.row_output.specs.Few.{places_in}
use Rattle.row_output.specs.Kept.{GoesPast, IsKnown}
use Rattle.row_output.specs.declared.kept.Kept.{Kept}
use Rattle.row_output.specs.declared.kept.Kept.TheVariants as K
use Rattle.row_output.proofs.Early.{plain_early}
use Rattle.row_output.proofs.KeptCalls.{plain_has, plain_little, plain_stops, plain_refuses, ordered_takes, places_taken, ordered_apart, lets_go, never_err}
use Rattle.row_output.proofs.Stopping.{kept_stops}
use Rattle.row_output.proofs.row_output.take.Goals as goal

pub keep-requires : goal.keep-requires
keep-requires g c = subst (λ (k : Kept). places_in k < 2 ^ 63) c.in-Ordered.is c.requires

pub returns-in-All-clause-has : goal.returns-in-All-clause-has
returns-in-All-clause-has g c =
    plain_has (kind_of g.G.Stage.state g.G.Stage.ended) c.args.kept.now c.in-All.is c.args.order.now c.args.sink.now c.args.stage.now c.put.new.stage c.put.result c.args.kept.now c.put.new.self (λ rows. rows ++ c.args.row.now ∷ []) refl c.put.ensures.has

pub returns-in-All-clause-little : goal.returns-in-All-clause-little
returns-in-All-clause-little g c =
    plain_little (kind_of g.G.Stage.state g.G.Stage.ended) c.args.kept.now c.in-All.is c.args.order.now c.args.sink.now c.args.stage.now c.put.new.stage c.put.result c.put.new.self c.put.ensures.little

pub returns-in-All-clause-stop : goal.returns-in-All-clause-stop
returns-in-All-clause-stop g c =
    plain_stops (kind_of g.G.Stage.state g.G.Stage.ended) c.args.kept.now c.in-All.is c.args.order.now c.args.sink.now c.args.stage.now c.put.new.stage c.put.result (λ rows more. rows ++ (c.args.row.now ∷ more)) c.put.ensures.stop

pub returns-in-All-clause-refused : goal.returns-in-All-clause-refused
returns-in-All-clause-refused g c =
    plain_refuses (kind_of g.G.Stage.state g.G.Stage.ended) c.args.kept.now c.in-All.is c.args.order.now c.args.sink.now c.args.stage.now c.put.new.stage c.put.result (λ rows more. rows ++ (c.args.row.now ∷ more)) c.put.ensures.refused

pub returns-in-All-clause-early : goal.returns-in-All-clause-early
returns-in-All-clause-early g c = plain_early (kind_of g.G.Stage.state g.G.Stage.ended) c.args.kept.now c.args.order.now c.args.sink.now c.args.stage.now c.put.result c.in-All.is

pub returns-in-All-clause-past : goal.returns-in-All-clause-past
returns-in-All-clause-past g c = λ goes. absurd (subst (λ (k : Kept). GoesPast k c.args.row.now) c.in-All.is goes)

pub returns-in-All-clause-known : goal.returns-in-All-clause-known
returns-in-All-clause-known g c = λ is. absurd (subst (λ (k : Kept). IsKnown k c.args.row.now) c.in-All.is is)

pub returns-in-Ok-clause-past : goal.returns-in-Ok-clause-past
returns-in-Ok-clause-past g c = λ goes.
    lets_go c.args.kept.now c.in-Ordered.orderer c.keep.new.orderer (λ (k : Kept). GoesPast k c.args.row.now) _ c.in-Ordered.is (λ past. c.in-Ok.ensures.past past) goes

pub returns-in-Ok-clause-known : goal.returns-in-Ok-clause-known
returns-in-Ok-clause-known g c = λ is.
    lets_go c.args.kept.now c.in-Ordered.orderer c.keep.new.orderer (λ (k : Kept). IsKnown k c.args.row.now) _ c.in-Ordered.is (λ known. c.in-Ok.ensures.known known.0 known.1) is

pub returns-in-Err-clause-past : goal.returns-in-Err-clause-past
returns-in-Err-clause-past g c = λ goes. absurd (never_err (c.in-Err.ensures.past (subst (λ (k : Kept). GoesPast k c.args.row.now) c.in-Ordered.is goes)).0)

pub returns-in-Err-clause-known : goal.returns-in-Err-clause-known
returns-in-Err-clause-known g c = λ is.
    let known = subst (λ (k : Kept). IsKnown k c.args.row.now) c.in-Ordered.is is in
    absurd (never_err (c.in-Err.ensures.known known.0 known.1).0)

pub returns-in-Ok-clause-places : goal.returns-in-Ok-clause-places
returns-in-Ok-clause-places g c = places_taken c.args.kept.now c.in-Ordered.orderer c.keep.new.orderer c.in-Ordered.is c.keep.ensures.places

pub returns-in-Ok-clause-streams : goal.returns-in-Ok-clause-streams
returns-in-Ok-clause-streams g c = ordered_apart _ c.args.kept.now c.in-Ordered.orderer c.in-Ordered.is

pub returns-in-Ok-clause-little : goal.returns-in-Ok-clause-little
returns-in-Ok-clause-little g c = ordered_apart _ c.args.kept.now c.in-Ordered.orderer c.in-Ordered.is

pub returns-in-Ok-clause-has : goal.returns-in-Ok-clause-has
returns-in-Ok-clause-has g c = λ start rows has.
    ordered_takes (kind_of g.G.Stage.state g.G.Stage.ended) c.args.kept.now c.in-Ordered.orderer c.in-Ordered.is c.args.order.now c.args.sink.now start rows c.args.stage.now c.keep.new.orderer c.args.row.now c.keep.ensures.finish c.in-Ok.ensures.stands has

pub returns-in-Err-clause-places : goal.returns-in-Err-clause-places
returns-in-Err-clause-places g c = places_taken c.args.kept.now c.in-Ordered.orderer c.keep.new.orderer c.in-Ordered.is c.keep.ensures.places

pub returns-in-Err-clause-streams : goal.returns-in-Err-clause-streams
returns-in-Err-clause-streams g c = ordered_apart _ c.args.kept.now c.in-Ordered.orderer c.in-Ordered.is

pub returns-in-Err-clause-err : goal.returns-in-Err-clause-err
returns-in-Err-clause-err g c = ap K.Ordered c.in-Err.ensures.err ∙ sym c.in-Ordered.is

pub returns-in-Err-clause-stop : goal.returns-in-Err-clause-stop
returns-in-Err-clause-stop g c = λ start rows more has.
    kept_stops (kind_of g.G.Stage.state g.G.Stage.ended) c.args.kept.now c.args.order.now c.args.sink.now start rows (c.args.row.now ∷ more) c.args.stage.now has
