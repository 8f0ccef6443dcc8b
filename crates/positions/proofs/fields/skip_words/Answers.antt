use Rattle.std.proofs.Common.{◌++◌, Ok, Err, sym, length, flat_map}
use Rattle.ledger_model.specs.Numbers.{text_bytes}
use Rattle.ledger.proofs.Composing.{handed}
use Rattle.ledger.proofs.Finding.{word_law}
use Rattle.ledger.specs.Reader.{any_word}
use Rattle.ledger.specs.Placing.{IsOfDisk}
use Rattle.positions.proofs.Finds.{given}
use Rattle.positions.proofs.fields.skip_words.Goals as goal

pub returns-in_err-count-clause-passes : goal.returns-in_err-count-clause-passes
returns-in_err-count-clause-passes g c = λ words more few short stands.
    handed c.from_residual.result c.in_err-count.field-0.0 _ IsOfDisk c.from_residual.ensures.1
    (given any_word word_law (g.D.Disk.state c.args.disk.now) (g.D.Disk.state c.take_count.new.disk) c.args.ledger.now c.args.to c.args.reader.now c.take_count.new.reader (length words) (flat_map text_bytes words ++ more) (Err c.in_err-count.field-0.0) c.in_err-count.ensures.gives few stands)

pub returns-clause-passes : goal.returns-clause-passes
returns-clause-passes g c = λ words more few short stands.
    let both = given any_word word_law (g.D.Disk.state c.args.disk.now) (g.D.Disk.state c.take_count.new.disk) c.args.ledger.now c.args.to c.args.reader.now c.take_count.new.reader (length words) (flat_map text_bytes words ++ more) (Ok c.in_ok-count.count) c.in_ok-count.ensures.gives few stands in
    c.skip_texts.ensures.passes words more (sym both.0) short both.1
