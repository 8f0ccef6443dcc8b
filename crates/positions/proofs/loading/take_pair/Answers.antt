use Rattle.std.proofs.Common.{ℕ, ◌+◌, ◌-◌, ◌^◌, min, ◌++◌, length, Ok, Err, ap, ◌∙◌}
use Rattle.std.proofs.Math.Facts.{Fits-lt-pow}
use Rattle.ledger_model.specs.Grammar.{payload_of}
use Rattle.ledger_model.specs.Numbers.{number}
use Rattle.ledger_model.proofs.Fields.{number_law}
use Rattle.ledger.proofs.Composing.{handed}
use Rattle.ledger.proofs.Resting.{rests_holds}
use Rattle.positions.specs.Faults.{of_ledger, IsNoFault}
use Rattle.positions.proofs.Finds.{given, from_ledger}
use Rattle.positions.proofs.Ledgers.{body_stands, behind_payload}
use Rattle.positions.proofs.loading.take_pair.Goals as goal

pub returns-in_err-size-clause-takes : goal.returns-in_err-size-clause-takes
returns-in_err-size-clause-takes g c = λ file entries pair more holds is keeps left.
    let before = g.D.Disk.state c.args.disk.now in
    let reader = c.new-reader.result in
    let body = body_stands before c.args.ledger.now file c.args.to c.args.place reader pair more holds left (Fits-lt-pow c.ranges.to) (c.new-reader.ensures.at ∙ c.saturating_add.ensures) c.new-reader.ensures.to c.new-reader.ensures.ahead in
    handed c.from_residual.result (of_ledger c.in_err-size.field-0.0) _ IsNoFault c.from_residual.ensures.1 (from_ledger c.in_err-size.field-0.0
    (given number number_law before (g.D.Disk.state c.take_number.new.disk) c.args.ledger.now c.args.to reader c.take_number.new.reader (length (payload_of pair.entry)) (payload_of pair.entry ++ more) (Err c.in_err-size.field-0.0) c.in_err-size.ensures.gives is.size body))

pub returns-in_err-take_entry-clause-takes : goal.returns-in_err-take_entry-clause-takes
returns-in_err-take_entry-clause-takes g c = λ file entries pair more holds is keeps left.
    let before = g.D.Disk.state c.args.disk.now in
    let reader = c.new-reader.result in
    let body = body_stands before c.args.ledger.now file c.args.to c.args.place reader pair more holds left (Fits-lt-pow c.ranges.to) (c.new-reader.ensures.at ∙ c.saturating_add.ensures) c.new-reader.ensures.to c.new-reader.ensures.ahead in
    let size = given number number_law before (g.D.Disk.state c.take_number.new.disk) c.args.ledger.now c.args.to reader c.take_number.new.reader (length (payload_of pair.entry)) (payload_of pair.entry ++ more) (Ok c.in_ok-size.size) c.in_ok-size.ensures.gives is.size body in
    handed c.from_residual-in_err-take_entry.result c.in_err-take_entry.field-0.0 _ IsNoFault c.from_residual-in_err-take_entry.ensures.1 (c.in_err-take_entry.ensures.takes entries pair.entry more is.entry keeps size.1)

pub returns-clause-takes : goal.returns-clause-takes
returns-clause-takes g c = λ file entries pair more holds is keeps left.
    let before = g.D.Disk.state c.args.disk.now in
    let now = g.D.Disk.state c.take_number.new.disk in
    let reader = c.new-reader.result in
    let body = body_stands before c.args.ledger.now file c.args.to c.args.place reader pair more holds left (Fits-lt-pow c.ranges.to) (c.new-reader.ensures.at ∙ c.saturating_add.ensures) c.new-reader.ensures.to c.new-reader.ensures.ahead in
    let size = given number number_law before now c.args.ledger.now c.args.to reader c.take_number.new.reader (length (payload_of pair.entry)) (payload_of pair.entry ++ more) (Ok c.in_ok-size.size) c.in_ok-size.ensures.gives is.size body in
    (behind_payload now c.args.ledger.now file c.args.to c.saturating_add-next.result c.in_ok-size.size c.take_number.new.reader (payload_of pair.entry) more (rests_holds before now c.args.ledger.now file c.take_number.ensures.rests holds) size.1 size.0 (Fits-lt-pow c.ranges.to) (c.saturating_add-next.ensures ∙ ap (λ (n : ℕ). min (n + c.in_ok-size.size) (2 ^ 64 - 1)) c.place.ensures), c.in_ok-take_entry.ensures.takes entries pair.entry more is.entry keeps size.1)
