use Rattle.std.proofs.Common.{Ok, Err}
use Rattle.ledger.proofs.Composing.{handed}
use Rattle.positions.specs.Faults.{of_ledger, of_text, IsNoFault}
use Rattle.positions.proofs.Finds.{from_ledger, from_text}
use Rattle.positions.proofs.SpanFields.{name_taken, from_taken, to_taken, standing_taken}
use Rattle.positions.proofs.entries.take_span.Goals as goal

pub returns-in_err-identity-clause-takes : goal.returns-in_err-identity-clause-takes
returns-in_err-identity-clause-takes g c = λ to span more fits stands.
    let a = name_taken (g.D.Disk.state c.args.disk.now) (g.D.Disk.state c.take_name.new.disk) c.args.ledger.now to c.args.reader.now c.take_name.new.self span more (Err c.in_err-identity.field-0.0) c.in_err-identity.ensures.gives fits stands in
    handed c.from_residual.result (of_ledger c.in_err-identity.field-0.0) _ IsNoFault c.from_residual.ensures.1 (from_ledger c.in_err-identity.field-0.0 a)

pub returns-in_err-from-clause-takes : goal.returns-in_err-from-clause-takes
returns-in_err-from-clause-takes g c = λ to span more fits stands.
    let a = name_taken (g.D.Disk.state c.args.disk.now) (g.D.Disk.state c.take_name.new.disk) c.args.ledger.now to c.args.reader.now c.take_name.new.self span more (Ok c.in_ok-identity.identity) c.in_ok-identity.ensures.gives fits stands in
    let f = from_taken (g.D.Disk.state c.take_name.new.disk) (g.D.Disk.state c.take_number.new.disk) c.args.ledger.now to c.take_name.new.self c.take_number.new.reader span more (Err c.in_err-from.field-0.0) c.in_err-from.ensures.gives fits a.1 in
    handed c.from_residual-in_err-from.result (of_ledger c.in_err-from.field-0.0) _ IsNoFault c.from_residual-in_err-from.ensures.1 (from_ledger c.in_err-from.field-0.0 f)

pub returns-in_err-to-clause-takes : goal.returns-in_err-to-clause-takes
returns-in_err-to-clause-takes g c = λ to span more fits stands.
    let a = name_taken (g.D.Disk.state c.args.disk.now) (g.D.Disk.state c.take_name.new.disk) c.args.ledger.now to c.args.reader.now c.take_name.new.self span more (Ok c.in_ok-identity.identity) c.in_ok-identity.ensures.gives fits stands in
    let f = from_taken (g.D.Disk.state c.take_name.new.disk) (g.D.Disk.state c.take_number.new.disk) c.args.ledger.now to c.take_name.new.self c.take_number.new.reader span more (Ok c.in_ok-from.from) c.in_ok-from.ensures.gives fits a.1 in
    let t = to_taken (g.D.Disk.state c.take_number.new.disk) (g.D.Disk.state c.take_number-2.new.disk) c.args.ledger.now to c.take_number.new.reader c.take_number-2.new.reader span more (Err c.in_err-to.field-0.0) c.in_err-to.ensures.gives fits f.1 in
    handed c.from_residual-in_err-to.result (of_ledger c.in_err-to.field-0.0) _ IsNoFault c.from_residual-in_err-to.ensures.1 (from_ledger c.in_err-to.field-0.0 t)

pub returns-in_err-standing-clause-takes : goal.returns-in_err-standing-clause-takes
returns-in_err-standing-clause-takes g c = λ to span more fits stands.
    let a = name_taken (g.D.Disk.state c.args.disk.now) (g.D.Disk.state c.take_name.new.disk) c.args.ledger.now to c.args.reader.now c.take_name.new.self span more (Ok c.in_ok-identity.identity) c.in_ok-identity.ensures.gives fits stands in
    let f = from_taken (g.D.Disk.state c.take_name.new.disk) (g.D.Disk.state c.take_number.new.disk) c.args.ledger.now to c.take_name.new.self c.take_number.new.reader span more (Ok c.in_ok-from.from) c.in_ok-from.ensures.gives fits a.1 in
    let t = to_taken (g.D.Disk.state c.take_number.new.disk) (g.D.Disk.state c.take_number-2.new.disk) c.args.ledger.now to c.take_number.new.reader c.take_number-2.new.reader span more (Ok c.in_ok-to.to) c.in_ok-to.ensures.gives fits f.1 in
    let s = standing_taken (g.D.Disk.state c.take_number-2.new.disk) (g.D.Disk.state c.take_text.new.disk) c.args.ledger.now to c.take_number-2.new.reader c.take_text.new.self span more (Err c.in_err-standing.field-0.0) c.in_err-standing.ensures.reads fits t.1 in
    handed c.from_residual-in_err-standing.result (of_text c.in_err-standing.field-0.0) _ IsNoFault c.from_residual-in_err-standing.ensures.1 (from_text c.in_err-standing.field-0.0 s)

pub returns-clause-takes : goal.returns-clause-takes
returns-clause-takes g c = λ to span more fits stands.
    let a = name_taken (g.D.Disk.state c.args.disk.now) (g.D.Disk.state c.take_name.new.disk) c.args.ledger.now to c.args.reader.now c.take_name.new.self span more (Ok c.in_ok-identity.identity) c.in_ok-identity.ensures.gives fits stands in
    let f = from_taken (g.D.Disk.state c.take_name.new.disk) (g.D.Disk.state c.take_number.new.disk) c.args.ledger.now to c.take_name.new.self c.take_number.new.reader span more (Ok c.in_ok-from.from) c.in_ok-from.ensures.gives fits a.1 in
    let t = to_taken (g.D.Disk.state c.take_number.new.disk) (g.D.Disk.state c.take_number-2.new.disk) c.args.ledger.now to c.take_number.new.reader c.take_number-2.new.reader span more (Ok c.in_ok-to.to) c.in_ok-to.ensures.gives fits f.1 in
    let s = standing_taken (g.D.Disk.state c.take_number-2.new.disk) (g.D.Disk.state c.take_text.new.disk) c.args.ledger.now to c.take_number-2.new.reader c.take_text.new.self span more (Ok c.in_ok-standing.standing) c.in_ok-standing.ensures.reads fits t.1 in
    (λ i. record { identity = a.0 i; from = f.0 i; to = t.0 i; standing = s.0 i }, s.1)
