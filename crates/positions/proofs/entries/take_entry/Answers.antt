use Rattle.std.proofs.Common.{[], ◌∷◌, ◌++◌, length, Ok, Err, sym}
use Rattle.std.proofs.Math.Facts.{Fits-lt-pow}
use Rattle.ledger_model.specs.Grammar.{payload_of}
use Rattle.ledger.specs.Reader.{any_word}
use Rattle.ledger.proofs.Composing.{handed}
use Rattle.ledger.proofs.Finding.{word_law}
use Rattle.run_model.specs.Kept.{spans_of}
use Rattle.positions.specs.Faults.{of_ledger, IsNoFault}
use Rattle.positions.specs.Places.{Remembers, Keeps, kept_of}
use Rattle.positions.proofs.Finds.{given, stands_as, from_ledger}
use Rattle.positions.proofs.Skips.{skipped}
use Rattle.positions.proofs.Lasts.{keeps_more}
use Rattle.positions.proofs.Ledgers.{match_weaker}
use Rattle.positions.proofs.EntryFields.{fields, head_of, tail_of, behind_head, behind_input, behind_words, behind_query, behind_template, behind_count}
use Rattle.positions.proofs.entries.take_entry.Goals as goal

pub returns-in_err-take_input-clause-takes : goal.returns-in_err-take_input-clause-takes
returns-in_err-take_input-clause-takes g c = λ entries entry more is keeps stands.
    let before = g.D.Disk.state c.args.disk.now in
    let f = fields entry more is in
    let s0 = skipped before before c.args.ledger.now c.args.to c.args.reader.now c.skip.new.reader 9 (head_of entry) (behind_head entry more) (stands_as before c.args.ledger.now c.args.to c.args.reader.now (payload_of entry ++ more) (head_of entry ++ behind_head entry more) f.split stands) f.head (Fits-lt-pow c.ranges.to) c.skip.ensures.at c.skip.ensures.to c.skip.ensures.ahead in
    handed c.from_residual.result c.in_err-take_input.field-0.0 _ IsNoFault c.from_residual.ensures.1 (c.in_err-take_input.ensures.takes entry.input (behind_input entry more) f.input s0)

pub returns-in_err-skip_words-clause-takes : goal.returns-in_err-skip_words-clause-takes
returns-in_err-skip_words-clause-takes g c = λ entries entry more is keeps stands.
    let before = g.D.Disk.state c.args.disk.now in
    let f = fields entry more is in
    let s0 = skipped before before c.args.ledger.now c.args.to c.args.reader.now c.skip.new.reader 9 (head_of entry) (behind_head entry more) (stands_as before c.args.ledger.now c.args.to c.args.reader.now (payload_of entry ++ more) (head_of entry ++ behind_head entry more) f.split stands) f.head (Fits-lt-pow c.ranges.to) c.skip.ensures.at c.skip.ensures.to c.skip.ensures.ahead in
    let s1 = c.in_ok-take_input.ensures.takes entry.input (behind_input entry more) f.input s0 in
    handed c.from_residual-in_err-skip_words.result (of_ledger c.in_err-skip_words.field-0.0) _ IsNoFault c.from_residual-in_err-skip_words.ensures.1 (from_ledger c.in_err-skip_words.field-0.0 (c.in_err-skip_words.ensures.passes entry.words (behind_words entry more) f.few f.words s1.1))

pub returns-in_err-skip_text-clause-takes : goal.returns-in_err-skip_text-clause-takes
returns-in_err-skip_text-clause-takes g c = λ entries entry more is keeps stands.
    let before = g.D.Disk.state c.args.disk.now in
    let f = fields entry more is in
    let s0 = skipped before before c.args.ledger.now c.args.to c.args.reader.now c.skip.new.reader 9 (head_of entry) (behind_head entry more) (stands_as before c.args.ledger.now c.args.to c.args.reader.now (payload_of entry ++ more) (head_of entry ++ behind_head entry more) f.split stands) f.head (Fits-lt-pow c.ranges.to) c.skip.ensures.at c.skip.ensures.to c.skip.ensures.ahead in
    let s1 = c.in_ok-take_input.ensures.takes entry.input (behind_input entry more) f.input s0 in
    let s2 = c.in_ok-skip_words.ensures.passes entry.words (behind_words entry more) f.few f.words s1.1 in
    handed c.from_residual-in_err-skip_text.result (of_ledger c.in_err-skip_text.field-0.0) _ IsNoFault c.from_residual-in_err-skip_text.ensures.1 (from_ledger c.in_err-skip_text.field-0.0 (c.in_err-skip_text.ensures.passes entry.query (behind_query entry more) f.query s2))

pub returns-in_err-skip_text-2-clause-takes : goal.returns-in_err-skip_text-2-clause-takes
returns-in_err-skip_text-2-clause-takes g c = λ entries entry more is keeps stands.
    let before = g.D.Disk.state c.args.disk.now in
    let f = fields entry more is in
    let s0 = skipped before before c.args.ledger.now c.args.to c.args.reader.now c.skip.new.reader 9 (head_of entry) (behind_head entry more) (stands_as before c.args.ledger.now c.args.to c.args.reader.now (payload_of entry ++ more) (head_of entry ++ behind_head entry more) f.split stands) f.head (Fits-lt-pow c.ranges.to) c.skip.ensures.at c.skip.ensures.to c.skip.ensures.ahead in
    let s1 = c.in_ok-take_input.ensures.takes entry.input (behind_input entry more) f.input s0 in
    let s2 = c.in_ok-skip_words.ensures.passes entry.words (behind_words entry more) f.few f.words s1.1 in
    let s3 = c.in_ok-skip_text.ensures.passes entry.query (behind_query entry more) f.query s2 in
    handed c.from_residual-in_err-skip_text-2.result (of_ledger c.in_err-skip_text-2.field-0.0) _ IsNoFault c.from_residual-in_err-skip_text-2.ensures.1 (from_ledger c.in_err-skip_text-2.field-0.0 (c.in_err-skip_text-2.ensures.passes entry.template (behind_template entry more) f.template s3))

pub returns-in_err-count-clause-takes : goal.returns-in_err-count-clause-takes
returns-in_err-count-clause-takes g c = λ entries entry more is keeps stands.
    let before = g.D.Disk.state c.args.disk.now in
    let f = fields entry more is in
    let s0 = skipped before before c.args.ledger.now c.args.to c.args.reader.now c.skip.new.reader 9 (head_of entry) (behind_head entry more) (stands_as before c.args.ledger.now c.args.to c.args.reader.now (payload_of entry ++ more) (head_of entry ++ behind_head entry more) f.split stands) f.head (Fits-lt-pow c.ranges.to) c.skip.ensures.at c.skip.ensures.to c.skip.ensures.ahead in
    let s1 = c.in_ok-take_input.ensures.takes entry.input (behind_input entry more) f.input s0 in
    let s2 = c.in_ok-skip_words.ensures.passes entry.words (behind_words entry more) f.few f.words s1.1 in
    let s3 = c.in_ok-skip_text.ensures.passes entry.query (behind_query entry more) f.query s2 in
    let s4 = c.in_ok-skip_text-2.ensures.passes entry.template (behind_template entry more) f.template s3 in
    handed c.from_residual-in_err-count.result (of_ledger c.in_err-count.field-0.0) _ IsNoFault c.from_residual-in_err-count.ensures.1 (from_ledger c.in_err-count.field-0.0 (given any_word word_law (g.D.Disk.state c.skip_text-2.new.disk) (g.D.Disk.state c.take_count.new.disk) c.args.ledger.now c.args.to c.skip_text-2.new.reader c.take_count.new.reader (length entry.spans) (behind_count entry more) (Err c.in_err-count.field-0.0) c.in_err-count.ensures.gives f.count s4))

pub returns-clause-takes : goal.returns-clause-takes
returns-clause-takes g c = λ entries entry more is keeps stands.
    let before = g.D.Disk.state c.args.disk.now in
    let f = fields entry more is in
    let s0 = skipped before before c.args.ledger.now c.args.to c.args.reader.now c.skip.new.reader 9 (head_of entry) (behind_head entry more) (stands_as before c.args.ledger.now c.args.to c.args.reader.now (payload_of entry ++ more) (head_of entry ++ behind_head entry more) f.split stands) f.head (Fits-lt-pow c.ranges.to) c.skip.ensures.at c.skip.ensures.to c.skip.ensures.ahead in
    let s1 = c.in_ok-take_input.ensures.takes entry.input (behind_input entry more) f.input s0 in
    let s2 = c.in_ok-skip_words.ensures.passes entry.words (behind_words entry more) f.few f.words s1.1 in
    let s3 = c.in_ok-skip_text.ensures.passes entry.query (behind_query entry more) f.query s2 in
    let s4 = c.in_ok-skip_text-2.ensures.passes entry.template (behind_template entry more) f.template s3 in
    let s5 = given any_word word_law (g.D.Disk.state c.skip_text-2.new.disk) (g.D.Disk.state c.take_count.new.disk) c.args.ledger.now c.args.to c.skip_text-2.new.reader c.take_count.new.reader (length entry.spans) (behind_count entry more) (Ok c.in_ok-count.count) c.in_ok-count.ensures.gives f.count s4 in
    match_weaker (λ _. Remembers (spans_of entries ++ entry.spans) c.take_places.new.places.entries) (λ _. Keeps (entries ++ entry ∷ []) (kept_of c.take_input.new.input c.take_places.new.places.entries)) IsNoFault
    (λ _ remembers. keeps_more entries entry c.args.input.now c.take_input.new.input c.args.places.now.entries c.take_places.new.places.entries keeps s1.0 remembers)
    c.take_places.result (c.take_places.ensures.takes c.args.to (spans_of entries) entry.spans (tail_of entry ++ more) (sym s5.0) f.spans keeps.places s5.1)
