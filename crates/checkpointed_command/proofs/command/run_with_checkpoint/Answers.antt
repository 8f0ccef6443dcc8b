use Rattle.std.proofs.Common.{FitsSigned, w64, ◌++◌, inr}
use Rattle.std.specs.Prelude.{codes}
use Rattle.std.proofs.lemmas.Int.{to_z-of_z}
use Rattle.lp_model.proofs.Growing.{OnlyGrow-trans}
use Rattle.query_tree.specs.Views.{query_of}
use Rattle.checkpointed_command.proofs.Commanding.{mild_asking, refused_asking, refused_settled, settled_by, since_as, unsettled_ends, whole_settled}
use Rattle.checkpointed_command.proofs.Files.{near_as, undamaged_as}
use Rattle.checkpointed_command.proofs.Stepping.{steps_refused}
use Rattle.checkpointed_command.proofs.command.run_with_checkpoint.Goals as goal

pub returns-in-Err-clause-step : goal.returns-in-Err-clause-step
returns-in-Err-clause-step g c =
    let ledger = c.args.ledger.now in
    let stage = c.args.ledger.now ++ codes ".stage" in
    let files = c.files_of.result in
    let status = c.in-Err.status in
    steps_refused g.D.Disk.state g.met.D.Disk.counts_now c.args.spec.now ledger stage c.args.moment (g.L.Logs.folder c.args.logs.now) (g.L.Logs.folder c.args.logs.now) c.args.disk.now c.settle_ledger.new.disk status
    (unsettled_ends (g.D.Disk.state c.args.disk.now) files.ledger files.stage status c.in-Err.ensures.refused)
    (near_as (g.D.Disk.state c.args.disk.now) (g.D.Disk.state c.settle_ledger.new.disk) files.ledger files.stage ledger stage c.files_of.ensures.ledger c.files_of.ensures.stage c.settle_ledger.ensures.settles)
    (undamaged_as (g.D.Disk.state c.args.disk.now) status files.ledger files.stage ledger stage c.files_of.ensures.ledger c.files_of.ensures.stage c.in-Err.ensures.undamaged)

pub returns-in-Err-ask_query-clause-step : goal.returns-in-Err-ask_query-clause-step
returns-in-Err-ask_query-clause-step g c =
    let ledger = c.args.ledger.now in
    let stage = c.args.ledger.now ++ codes ".stage" in
    let files = c.files_of.result in
    let status = c.in-Err-ask_query.status in
    let mild = mild_asking (g.L.Logs.folder c.args.logs.now) (g.L.Logs.folder c.ask_query.new.logs) c.args.spec.now status c.in-Err-ask_query.ensures.refused in
    steps_refused g.D.Disk.state g.met.D.Disk.counts_now c.args.spec.now ledger stage c.args.moment (g.L.Logs.folder c.args.logs.now) (g.L.Logs.folder c.ask_query.new.logs) c.args.disk.now c.settle_ledger.new.disk status
    mild.not_well
    (near_as (g.D.Disk.state c.args.disk.now) (g.D.Disk.state c.settle_ledger.new.disk) files.ledger files.stage ledger stage c.files_of.ensures.ledger c.files_of.ensures.stage c.settle_ledger.ensures.settles)
    (λ damaged can. mild.undamaged damaged)

pub returns-in-Err-ask_query-clause-refused : goal.returns-in-Err-ask_query-clause-refused
returns-in-Err-ask_query-clause-refused g c =
    let ledger = c.args.ledger.now in
    let stage = c.args.ledger.now ++ codes ".stage" in
    let files = c.files_of.result in
    let status = c.in-Err-ask_query.status in
    refused_asking g.D.Disk.state c.args.disk.now c.settle_ledger.new.disk ledger stage (g.L.Logs.folder c.args.logs.now) (g.L.Logs.folder c.ask_query.new.logs) c.args.spec.now c.args.moment status
    (settled_by (g.D.Disk.state c.args.disk.now) (g.D.Disk.state c.settle_ledger.new.disk) files.ledger files.stage ledger stage c.files_of.ensures.ledger c.files_of.ensures.stage c.settle_ledger.ensures.settles c.in-Ok.ensures.fits c.in-Ok.ensures.keeps c.in-Ok.ensures.tells)
    c.in-Err-ask_query.ensures.refused

pub returns-clause-grows : goal.returns-clause-grows
returns-clause-grows g c = OnlyGrow-trans (g.L.Logs.folder c.args.logs.now) (g.L.Logs.folder c.ask_query.new.logs) (g.L.Logs.folder c.run_query-counted.new.logs) c.ask_query.ensures.grows c.run_query-counted.ensures.grows

pub returns-clause-step : goal.returns-clause-step
returns-clause-step g c =
    let range : FitsSigned w64 c.args.moment = c.ranges.moment in
    let ledger = c.args.ledger.now in
    let stage = c.args.ledger.now ++ codes ".stage" in
    let files = c.files_of.result in
    let known = since_as g.D.Disk.state c.args.disk.now c.settle_ledger.new.disk files.ledger files.stage ledger stage c.in-Ok.known c.files_of.ensures.ledger c.files_of.ensures.stage c.in-Ok.ensures.since in
    let step = simp to_z-of_z at c.run_query-counted.ensures.step in
    step known.settled known.since c.args.disk.now (g.L.Logs.folder c.args.logs.now) known.by.settles c.ask_query.ensures.grows c.in-Ok-ask_query.ensures.query

pub returns-clause-refused : goal.returns-clause-refused
returns-clause-refused g c =
    let range : FitsSigned w64 c.args.moment = c.ranges.moment in
    let ledger = c.args.ledger.now in
    let stage = c.args.ledger.now ++ codes ".stage" in
    let files = c.files_of.result in
    let known = since_as g.D.Disk.state c.args.disk.now c.settle_ledger.new.disk files.ledger files.stage ledger stage c.in-Ok.known c.files_of.ensures.ledger c.files_of.ensures.stage c.in-Ok.ensures.since in
    let refused = simp to_z-of_z at c.run_query-counted.ensures.refused in
    refused_settled g.D.Disk.state c.args.disk.now known.settled ledger stage (g.L.Logs.folder c.args.logs.now) (g.L.Logs.folder c.ask_query.new.logs) (g.L.Logs.folder c.run_query-counted.new.logs) c.args.spec.now c.args.moment
    c.in-Ok-ask_query.written.text (query_of c.in-Ok-ask_query.written.query) c.run_query-counted.result known.by c.ask_query.ensures.grows c.in-Ok-ask_query.ensures.query (refused known.settled known.since)

pub returns-clause-whole : goal.returns-clause-whole
returns-clause-whole g c =
    let range : FitsSigned w64 c.args.moment = c.ranges.moment in
    let ledger = c.args.ledger.now in
    let stage = c.args.ledger.now ++ codes ".stage" in
    let files = c.files_of.result in
    let known = since_as g.D.Disk.state c.args.disk.now c.settle_ledger.new.disk files.ledger files.stage ledger stage c.in-Ok.known c.files_of.ensures.ledger c.files_of.ensures.stage c.in-Ok.ensures.since in
    let ran = simp to_z-of_z at c.run_query-counted.ensures.ran in
    whole_settled g.D.Disk.state c.args.disk.now known.settled ledger stage (g.L.Logs.folder c.args.logs.now) (g.L.Logs.folder c.ask_query.new.logs) (g.L.Logs.folder c.run_query-counted.new.logs) c.args.spec.now c.args.moment
    c.in-Ok-ask_query.written.text (query_of c.in-Ok-ask_query.written.query) c.run_query-counted.result known.by c.ask_query.ensures.grows c.in-Ok-ask_query.ensures.query (ran known.settled known.since)

pub returns-clause-given : goal.returns-clause-given
returns-clause-given g c =
    let ledger = c.args.ledger.now in
    let stage = c.args.ledger.now ++ codes ".stage" in
    let files = c.files_of.result in
    let known = since_as g.D.Disk.state c.args.disk.now c.settle_ledger.new.disk files.ledger files.stage ledger stage c.in-Ok.known c.files_of.ensures.ledger c.files_of.ensures.stage c.in-Ok.ensures.since in
    inr (
      known.settled,
      known.by,
      c.run_query-counted.ensures.given known.settled known.since (g.L.Logs.folder c.args.logs.now) (g.L.Logs.given c.args.logs.now) c.ask_query.ensures.grows c.in-Ok-ask_query.ensures.query c.ask_query.ensures.given,
    )
