use Rattle.std.proofs.Common.{◌<◌, ◌≤◌, ℕ, length, subst, sym, arith}
use Rattle.ledger.specs.Reader.{left_of}
use Rattle.ledger.specs.Texts.{any_text, Added, TextRefusedAt}
use Rattle.ledger.proofs.Resting.{can_rests}
use Rattle.ledger.proofs.Wholes.{text_unread, text_cut, text_whole, text_unfaulted}
use Rattle.ledger.proofs.texts.find_text.Goals as goal

pub returns-in-Err-clause-reads : goal.returns-in-Err-clause-reads
returns-in-Err-clause-reads g c = λ file end can.
    let k = c.in-Err.ensures.gives file end can in
    (k.0, text_unread file end c.args.reader.now.at c.in-Err.refused c.refused_text.result c.refused_text.ensures k.1)

pub returns-in-Err-has-clause-reads : goal.returns-in-Err-has-clause-reads
returns-in-Err-has-clause-reads g c = λ file end can.
    (can_rests _ _ c.args.ledger.now file end c.word.new.self c.has.ensures.rests (c.in-Ok.ensures.gives file end can).0, tt)

pub returns-in-Ok-false-clause-reads : goal.returns-in-Ok-false-clause-reads
returns-in-Ok-false-clause-reads g c = λ file end can.
    let k = c.in-Ok.ensures.gives file end can in
    let short : length (left_of file end c.word.new.self.at) < c.from.result = rw c.in-Ok-false.field-0-test at (c.in-Ok-false.ensures.tells file end k.0) in (
      can_rests _ _ c.args.ledger.now file end c.word.new.self c.has.ensures.rests k.0,
      subst (TextRefusedAt any_text file end c.args.reader.now.at) (sym c.cut_text.ensures) (text_cut file end c.args.reader.now.at c.word.new.self.at c.in-Ok.size c.place-place.result k.1 (omega (arith, short, c.from.ensures)) c.place-place.ensures),
    )

pub returns-in-Ok-true-add_bytes-clause-reads : goal.returns-in-Ok-true-add_bytes-clause-reads
returns-in-Ok-true-add_bytes-clause-reads g c = λ file end can.
    let k = c.in-Ok.ensures.gives file end can in
    let a = c.in-Ok-true-add_bytes.ensures.adds file end (can_rests _ _ c.args.ledger.now file end c.word.new.self c.has.ensures.rests k.0) in
    let added : Added file end c.word.new.self.at c.add_bytes.new.reader.at c.new-text.result c.add_bytes.new.to c.from-2.result = rw c.in-Ok-true-add_bytes.field-0-test at a.1 in
    (a.0, text_whole file end c.args.reader.now.at c.word.new.self.at c.add_bytes.new.reader.at c.in-Ok.size c.new-text.result c.add_bytes.new.to k.1 c.new-text.ensures (subst (λ (n : ℕ). Added file end c.word.new.self.at c.add_bytes.new.reader.at c.new-text.result c.add_bytes.new.to n) (omega (arith, c.from-2.ensures)) added))

pub returns-in-Ok-false-add_bytes-clause-reads : goal.returns-in-Ok-false-add_bytes-clause-reads
returns-in-Ok-false-add_bytes-clause-reads g c = λ file end can.
    let k = c.in-Ok.ensures.gives file end can in
    let a = c.in-Ok-false-add_bytes.ensures.adds file end (can_rests _ _ c.args.ledger.now file end c.word.new.self c.has.ensures.rests k.0) in
    let short : length (left_of file end c.word.new.self.at) < c.from-2.result = rw c.in-Ok-false-add_bytes.field-0-test at a.1 in (
      a.0,
      subst (TextRefusedAt any_text file end c.args.reader.now.at) (sym c.cut_text-in-Ok-false-add_bytes.ensures)
          (text_cut file end c.args.reader.now.at c.word.new.self.at c.in-Ok.size c.place-place.result k.1 (omega (arith, short, c.from-2.ensures)) c.place-place.ensures),
    )

pub returns-in-Err-add_bytes-clause-reads : goal.returns-in-Err-add_bytes-clause-reads
returns-in-Err-add_bytes-clause-reads g c = λ file end can.
    let k = c.in-Ok.ensures.gives file end can in
    let now = can_rests _ _ c.args.ledger.now file end c.word.new.self c.has.ensures.rests k.0 in
    let there : c.from.result ≤ length (left_of file end c.word.new.self.at) = rw c.in-Ok-true.field-0-test at (c.in-Ok-true.ensures.tells file end k.0) in
    ((c.add_bytes.ensures.adds file end now).0, text_unfaulted file end c.args.reader.now.at c.word.new.self.at c.in-Ok.size c.in-Err-add_bytes.refused k.1 (omega (arith, there, c.from.ensures)) c.in-Err-add_bytes.ensures.clean)
