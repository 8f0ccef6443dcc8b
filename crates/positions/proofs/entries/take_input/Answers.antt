use Rattle.std.proofs.Common.{Ok, Err, Some, ap, sym, ◌∙◌}
use Rattle.ledger.proofs.Composing.{handed}
use Rattle.positions.specs.Faults.{of_text, IsNoFault}
use Rattle.positions.proofs.Finds.{given_text, from_text}
use Rattle.positions.proofs.SpanFields.{first_new}
use Rattle.positions.proofs.entries.take_input.Goals as goal

pub returns-in_err-text-clause-takes : goal.returns-in_err-text-clause-takes
returns-in_err-text-clause-takes g c = λ text more short stands.
    let t = given_text (g.D.Disk.state c.args.disk.now) (g.D.Disk.state c.take_text.new.disk) c.args.ledger.now c.args.to c.args.reader.now c.take_text.new.self text more (Err c.in_err-text.field-0.0) c.in_err-text.ensures.reads short stands in
    handed c.from_residual-in_err-text.result (of_text c.in_err-text.field-0.0) _ IsNoFault c.from_residual-in_err-text.ensures.1 (from_text c.in_err-text.field-0.0 t)

pub returns-clause-takes : goal.returns-clause-takes
returns-clause-takes g c = λ text more short stands.
    let t = given_text (g.D.Disk.state c.args.disk.now) (g.D.Disk.state c.take_text.new.disk) c.args.ledger.now c.args.to c.args.reader.now c.take_text.new.self text more (Ok c.in_ok-text.text) c.in_ok-text.ensures.reads short stands in
    (ap Some t.0 ∙ first_new c.args.input.now text (sym c.is_some.ensures ∙ c.if-is_some.false), t.1)
