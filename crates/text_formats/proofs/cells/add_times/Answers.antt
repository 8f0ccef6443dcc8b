use Rattle.std.proofs.Common.{◌≡◌, ◌+◌, ◌*◌, ◌%◌, ◌++◌, ap, ◌∙◌, arith}
use Rattle.std.proofs.lemmas.List.{take-replicate}
use Rattle.lp_model.proofs.Results.{on_err, on_err_map}
use Rattle.text_formats.proofs.Stopping.{on_ok_map}
use Rattle.text_formats.proofs.Tabling.{grows_replicate, replicate_next_run}
use Rattle.text_formats.proofs.cells.add_times.Goals as goal

pub returns-in_err-add-clause-err : goal.returns-in_err-add-clause-err
returns-in_err-add-clause-err c =
    on_err _ c.from_residual.result (grows_replicate c.args.count (64 * c.loop.counter) c.args.byte c.args.to.now c.loop.to c.add.new.self (omega (arith, c.loop-test.true)) c.loop.invariant c.in_err-add.ensures.err)

pub loop-preserved : goal.loop-preserved
loop-preserved c =
    let more : 64 * c.loop.counter + 64 ≡ 64 * (c.loop.counter + 1) = omega arith in
    replicate_next_run _ _ _ c.args.byte c.args.to.now c.loop.to c.add.new.self more c.loop.invariant c.in_ok-add.ensures.ok

pub returns-clause-ok : goal.returns-clause-ok
returns-clause-ok c =
    let whole : 64 * c.loop.counter + c.args.count % 64 ≡ c.args.count = omega (arith, c.loop-test.false, c.loop.auto.counter-end) in
    let rest = c.bytes_to.ensures ∙ take-replicate (c.args.count % 64) 64 c.args.byte (omega arith) in
    on_ok_map _ _ c.add-2.result (λ added. replicate_next_run _ _ _ c.args.byte c.args.to.now c.loop.to c.add-2.new.self whole c.loop.invariant (added ∙ ap (λ t. c.loop.to ++ t) rest)) c.add-2.ensures.ok

pub returns-clause-err : goal.returns-clause-err
returns-clause-err c =
    on_err_map _ _ c.add-2.result (grows_replicate c.args.count (64 * c.loop.counter) c.args.byte c.args.to.now c.loop.to c.add-2.new.self (omega (arith, c.loop.auto.counter-end)) c.loop.invariant) c.add-2.ensures.err
