use Rattle.std.proofs.Common.{◌++◌, Ok, Err, append_assoc, length, arith}
use Rattle.std.proofs.Math.Facts.{Fits-lt-pow}
use Rattle.ledger_model.specs.Numbers.{u32_bytes, text_bytes}
use Rattle.ledger.proofs.Composing.{handed}
use Rattle.ledger.proofs.Finding.{word_law}
use Rattle.ledger.specs.Reader.{any_word}
use Rattle.ledger.specs.Placing.{IsOfDisk}
use Rattle.positions.proofs.Finds.{given, stands_as}
use Rattle.positions.proofs.Skips.{skipped}
use Rattle.positions.proofs.fields.skip_text.Goals as goal

pub returns-in_err-size-clause-passes : goal.returns-in_err-size-clause-passes
returns-in_err-size-clause-passes g c = λ text more short stands.
    let front = stands_as (g.D.Disk.state c.args.disk.now) c.args.ledger.now c.args.to c.args.reader.now (text_bytes text ++ more) (u32_bytes (length text) ++ (text ++ more)) (append_assoc (u32_bytes (length text)) text more) stands in
    handed c.from_residual.result c.in_err-size.field-0.0 _ IsOfDisk c.from_residual.ensures.1
    (given any_word word_law (g.D.Disk.state c.args.disk.now) (g.D.Disk.state c.take_count.new.disk) c.args.ledger.now c.args.to c.args.reader.now c.take_count.new.reader (length text) (text ++ more) (Err c.in_err-size.field-0.0) c.in_err-size.ensures.gives short front)

pub returns-clause-passes : goal.returns-clause-passes
returns-clause-passes g c = λ text more short stands.
    let disk = g.D.Disk.state c.take_count.new.disk in
    let front = stands_as (g.D.Disk.state c.args.disk.now) c.args.ledger.now c.args.to c.args.reader.now (text_bytes text ++ more) (u32_bytes (length text) ++ (text ++ more)) (append_assoc (u32_bytes (length text)) text more) stands in
    let both = given any_word word_law (g.D.Disk.state c.args.disk.now) disk c.args.ledger.now c.args.to c.args.reader.now c.take_count.new.reader (length text) (text ++ more) (Ok c.in_ok-size.size) c.in_ok-size.ensures.gives short front in
    skipped disk disk c.args.ledger.now c.args.to c.take_count.new.reader c.skip.new.reader c.from.result text more both.1 (omega (arith, both.0, c.from.ensures)) (Fits-lt-pow c.ranges.to) c.skip.ensures.at c.skip.ensures.to c.skip.ensures.ahead
