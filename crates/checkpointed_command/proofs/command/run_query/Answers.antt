use Rattle.std.proofs.Common.{FitsSigned, w64, ◌++◌, sym, refl, subst, inl, inr}
use Rattle.std.specs.Prelude.{codes}
use Rattle.std.proofs.lemmas.Int.{to_z-of_z}
use Rattle.lp_model.proofs.Growing.{OnlyGrow-trans}
use Rattle.checkpointed_run.specs.Texts.{sections_in}
use Rattle.query_tree.specs.Views.{query_of}
use Rattle.requests.specs.Given.{query_files}
use Rattle.requests.proofs.Given.{reads_on}
use Rattle.checkpointed_command.specs.Given.{template_files}
use Rattle.checkpointed_run.proofs.Rested.{settles_rested}
use Rattle.checkpointed_command.proofs.Answering.{IsMild, mild_untemplated}
use Rattle.checkpointed_command.proofs.Since.{found_over, query_grown, unfound_since}
use Rattle.checkpointed_command.proofs.Stepping.{counted_behind, reads_grown, refused_behind, steps_prepared, steps_refused}
use Rattle.checkpointed_command.proofs.command.run_query.Goals as goal

pub returns-in-Err-clause-step : goal.returns-in-Err-clause-step
returns-in-Err-clause-step g c = λ read known earlier since near grow holds.
    let mild = subst IsMild (sym c.untemplated.ensures) (mild_untemplated c.in-Err.fault) in
    steps_refused g.D.Disk.state g.met.D.Disk.counts_now c.args.spec.now c.args.ledger.now (c.args.ledger.now ++ codes ".stage") c.args.moment since (g.L.Logs.folder c.find_template.new.logs) earlier c.args.disk.now c.untemplated.result
    mild.not_well (λ can. settles_rested g.D.Disk.state g.met.D.Disk.only_now g.met.D.Disk.counts_now c.args.ledger.now (c.args.ledger.now ++ codes ".stage") earlier read c.args.disk.now (near can) known.rests)
    (λ damaged can. mild.undamaged damaged)

pub returns-in-Err-clause-refused : goal.returns-in-Err-clause-refused
returns-in-Err-clause-refused g c = λ read known since grow holds.
    let grown = c.find_template.ensures.grows in
    inr (inr (inl (record {
      text = c.args.text;
      q = query_of c.args.query.now;
      query = query_grown since (g.L.Logs.folder c.args.logs.now) (g.L.Logs.folder c.find_template.new.logs) c.args.spec.now.query c.args.text (query_of c.args.query.now) grown holds;
      fit = c.requires.fit;
      fault = c.in-Err.fault;
      why = unfound_since since (g.L.Logs.folder c.args.logs.now) (g.L.Logs.folder c.find_template.new.logs) c.args.spec.now (query_of c.args.query.now) c.in-Err.fault grow c.in-Err.ensures.refused;
      status_is = c.untemplated.ensures;
    })))

pub returns-in-Err-clause-given : goal.returns-in-Err-clause-given
returns-in-Err-clause-given g c = λ read known since given grow holds once.
    let old = g.L.Logs.folder c.args.logs.now in
    let now = g.L.Logs.folder c.find_template.new.logs in
    record {
      text = c.args.text;
      q = query_of c.args.query.now;
      query = query_grown since old now c.args.spec.now.query c.args.text (query_of c.args.query.now) c.find_template.ensures.grows holds;
      began = now;
      since = OnlyGrow-trans since old now grow c.find_template.ensures.grows;
      between = g.L.Logs.given c.find_template.new.logs;
      files = reads_on old now (query_files c.args.spec.now.query) (template_files c.args.spec.now (query_of c.args.query.now)) given (g.L.Logs.given c.args.logs.now) (g.L.Logs.given c.find_template.new.logs) c.find_template.ensures.grows once c.find_template.ensures.reads;
      logs = inl refl;
    }

pub returns-clause-grows : goal.returns-clause-grows
returns-clause-grows g c = OnlyGrow-trans (g.L.Logs.folder c.args.logs.now) (g.L.Logs.folder c.find_template.new.logs) (g.L.Logs.folder c.run_prepared.new.logs) c.find_template.ensures.grows c.run_prepared.ensures.grows

pub returns-clause-step : goal.returns-clause-step
returns-clause-step g c = λ read known earlier since near grow holds.
    let range : FitsSigned w64 c.args.moment = c.ranges.moment in
    let old = g.L.Logs.folder c.args.logs.now in
    let mid = g.L.Logs.folder c.find_template.new.logs in
    let now = g.L.Logs.folder c.run_prepared.new.logs in
    let q = query_of c.args.query.now in
    let sections = sections_in (λ t. t.value) c.in-Ok.template.shared in
    let step = simp to_z-of_z at c.run_prepared.ensures.step in
    steps_prepared g.D.Disk.state g.met.D.Disk.counts_now c.args.spec.now c.args.ledger.now (c.args.ledger.now ++ codes ".stage") c.args.moment since now earlier c.run_prepared.new.disk c.args.text q c.in-Ok.template.bytes sections c.run_prepared.result c.requires.ledger
    (record {
      query = query_grown since old now c.args.spec.now.query c.args.text q (OnlyGrow-trans old mid now c.find_template.ensures.grows c.run_prepared.ensures.grows) holds;
      fit = c.requires.fit;
      finds = found_over since old mid now c.args.spec.now q c.in-Ok.template.bytes sections grow c.run_prepared.ensures.grows c.in-Ok.ensures.found;
    })
    (step read known earlier since near (OnlyGrow-trans since old mid grow c.find_template.ensures.grows))

pub returns-clause-refused : goal.returns-clause-refused
returns-clause-refused g c = λ read known.
    let range : FitsSigned w64 c.args.moment = c.ranges.moment in
    let old = g.L.Logs.folder c.args.logs.now in
    let mid = g.L.Logs.folder c.find_template.new.logs in
    let now = g.L.Logs.folder c.run_prepared.new.logs in
    let q = query_of c.args.query.now in
    let sections = sections_in (λ t. t.value) c.in-Ok.template.shared in
    let each = simp to_z-of_z at c.run_prepared.ensures.refused in
    refused_behind g.D.Disk.state (g.D.Disk.state read) c.args.ledger.now (c.args.ledger.now ++ codes ".stage") old mid now c.args.spec.now c.args.moment c.args.text q c.in-Ok.template.bytes sections c.run_prepared.result
    c.find_template.ensures.grows c.run_prepared.ensures.grows c.requires.fit c.in-Ok.ensures.found (each read known)

pub returns-clause-given : goal.returns-clause-given
returns-clause-given g c = λ read known since given grow holds once.
    let old = g.L.Logs.folder c.args.logs.now in
    let mid = g.L.Logs.folder c.find_template.new.logs in
    let now = g.L.Logs.folder c.run_prepared.new.logs in
    record {
      text = c.args.text;
      q = query_of c.args.query.now;
      query = query_grown since old now c.args.spec.now.query c.args.text (query_of c.args.query.now) (OnlyGrow-trans old mid now c.find_template.ensures.grows c.run_prepared.ensures.grows) holds;
      began = mid;
      since = OnlyGrow-trans since old mid grow c.find_template.ensures.grows;
      between = g.L.Logs.given c.find_template.new.logs;
      files = reads_grown mid now (query_files c.args.spec.now.query ++ template_files c.args.spec.now (query_of c.args.query.now)) given (g.L.Logs.given c.find_template.new.logs) c.run_prepared.ensures.grows
          (reads_on old mid (query_files c.args.spec.now.query) (template_files c.args.spec.now (query_of c.args.query.now)) given (g.L.Logs.given c.args.logs.now) (g.L.Logs.given c.find_template.new.logs) c.find_template.ensures.grows once c.find_template.ensures.reads);
      logs = c.run_prepared.ensures.given read known;
    }

pub returns-clause-ran : goal.returns-clause-ran
returns-clause-ran g c = λ read known.
    let range : FitsSigned w64 c.args.moment = c.ranges.moment in
    let old = g.L.Logs.folder c.args.logs.now in
    let mid = g.L.Logs.folder c.find_template.new.logs in
    let now = g.L.Logs.folder c.run_prepared.new.logs in
    let q = query_of c.args.query.now in
    let sections = sections_in (λ t. t.value) c.in-Ok.template.shared in
    let each = simp to_z-of_z at c.run_prepared.ensures.ran in
    counted_behind g.D.Disk.state (g.D.Disk.state read) c.args.ledger.now (c.args.ledger.now ++ codes ".stage") old mid now c.args.spec.now c.args.moment c.args.text q c.in-Ok.template.bytes sections c.run_prepared.result
    c.find_template.ensures.grows c.run_prepared.ensures.grows c.requires.fit c.in-Ok.ensures.found (each read known)
