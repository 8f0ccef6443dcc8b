use Rattle.std.proofs.Common.{ℕ, refl, subst}
use Rattle.ledger_model.specs.Layouts.{behind}
use Rattle.ledger_model.specs.Numbers.{number}
use Rattle.ledger.specs.Reader.{RefusedAt, IsRead, any_word}
use Rattle.ledger.specs.Outputs.{loose_front, outputs_front}
use Rattle.ledger.proofs.Composing.{refused_first, refused_second, read_both}
use Rattle.ledger.proofs.Finding.{can_at}
use Rattle.ledger.specs.declared.outputs.OutputReader.{OutputReader}
use Rattle.ledger.proofs.Finding.{can_find, no_front, no_staged, no_count, found_all}
use Rattle.ledger.proofs.outputs.OutputReader.find.Goals as goal

pub returns-in-Err-clause-fault : goal.returns-in-Err-clause-fault
returns-in-Err-clause-fault g c = λ part p is entry holds.
    let old = g.D.Disk.state c.args.disk.now in
    let ledger = c.args.ledger.now in
    let from = c.args.from in
    let to = c.args.to in
    let r = c.new-reader.result in
    let e = c.new-reader.ensures in
    let file = old.seen ledger in
    let can = can_find old ledger from to entry r holds e.at e.to e.ahead in
    no_front old ledger from to entry r holds e.at e.to e.ahead OutputReader c.in-Err.refused part p is (c.in-Err.ensures.looks file to can).1

pub returns-in-Err-number-clause-fault : goal.returns-in-Err-number-clause-fault
returns-in-Err-number-clause-fault g c = λ part p is entry holds.
    let old = g.D.Disk.state c.args.disk.now in
    let ledger = c.args.ledger.now in
    let from = c.args.from in
    let to = c.args.to in
    let r = c.new-reader.result in
    let e = c.new-reader.ensures in
    let file = old.seen ledger in
    let can = can_find old ledger from to entry r holds e.at e.to e.ahead in
    let k = c.in-Ok.ensures.looks file to can in
    no_staged old ledger from to entry r holds e.at e.to e.ahead OutputReader _ k.1 c.in-Err-number.refused part p is (c.in-Err-number.ensures.gives file to k.0).1

pub returns-in-Err-word-clause-fault : goal.returns-in-Err-word-clause-fault
returns-in-Err-word-clause-fault g c = λ part p is entry holds.
    let old = g.D.Disk.state c.args.disk.now in
    let ledger = c.args.ledger.now in
    let from = c.args.from in
    let to = c.args.to in
    let r = c.new-reader.result in
    let e = c.new-reader.ensures in
    let file = old.seen ledger in
    let can = can_find old ledger from to entry r holds e.at e.to e.ahead in
    let k = c.in-Ok.ensures.looks file to can in
    let n = c.in-Ok-number.ensures.gives file to k.0 in
    no_count old ledger from to entry r holds e.at e.to e.ahead OutputReader _ _ _ k.1 n.1 c.in-Err-word.refused part p is (c.in-Err-word.ensures.gives file to n.0).1

pub returns-in-Ok-word-clause-found : goal.returns-in-Ok-word-clause-found
returns-in-Ok-word-clause-found g c = λ entry holds.
    let old = g.D.Disk.state c.args.disk.now in
    let ledger = c.args.ledger.now in
    let from = c.args.from in
    let to = c.args.to in
    let r = c.new-reader.result in
    let e = c.new-reader.ensures in
    let file = old.seen ledger in
    let can = can_find old ledger from to entry r holds e.at e.to e.ahead in
    let k = c.in-Ok.ensures.looks file to can in
    let n = c.in-Ok-number.ensures.gives file to k.0 in
    let w = c.in-Ok-word.ensures.gives file to n.0 in
    found_all old ledger from to entry r holds e.at e.to e.ahead (g.D.Disk.state c.word.new.disk) _ _ c.in-Ok-number.staged (record { position = c.word.new.self; staged = c.in-Ok-number.staged; count = c.in-Ok-word.count }) k.1 n.1 w.1 w.0 refl

pub returns-in-Err-clause-reads : goal.returns-in-Err-clause-reads
returns-in-Err-clause-reads g c = λ file holds.
    let e = c.new-reader.ensures in
    let front = c.in-Err.ensures.looks file c.args.to (can_at _ c.args.ledger.now file c.args.to c.new-reader.result holds e.to e.ahead) in
    subst (λ (n : ℕ). RefusedAt outputs_front file c.args.to n c.in-Err.refused) e.at (refused_first loose_front (λ front. behind number (λ staged. any_word)) file c.args.to _ _ front.1)

pub returns-in-Err-number-clause-reads : goal.returns-in-Err-number-clause-reads
returns-in-Err-number-clause-reads g c = λ file holds.
    let e = c.new-reader.ensures in
    let front = c.in-Ok.ensures.looks file c.args.to (can_at _ c.args.ledger.now file c.args.to c.new-reader.result holds e.to e.ahead) in
    let staged = c.in-Err-number.ensures.gives file c.args.to front.0 in
    subst (λ (n : ℕ). RefusedAt outputs_front file c.args.to n c.in-Err-number.refused) e.at
    (refused_second loose_front (λ front. behind number (λ staged. any_word)) file c.args.to _ _ front.1.value _ front.1.read (refused_first number (λ staged. any_word) file c.args.to _ _ staged.1))

pub returns-in-Err-word-clause-reads : goal.returns-in-Err-word-clause-reads
returns-in-Err-word-clause-reads g c = λ file holds.
    let e = c.new-reader.ensures in
    let front = c.in-Ok.ensures.looks file c.args.to (can_at _ c.args.ledger.now file c.args.to c.new-reader.result holds e.to e.ahead) in
    let staged = c.in-Ok-number.ensures.gives file c.args.to front.0 in
    let count = c.in-Err-word.ensures.gives file c.args.to staged.0 in
    subst (λ (n : ℕ). RefusedAt outputs_front file c.args.to n c.in-Err-word.refused) e.at
    (refused_second loose_front (λ front. behind number (λ staged. any_word)) file c.args.to _ _ front.1.value _ front.1.read (refused_second number (λ staged. any_word) file c.args.to _ _ _ _ staged.1 count.1))

pub returns-in-Ok-word-clause-reads : goal.returns-in-Ok-word-clause-reads
returns-in-Ok-word-clause-reads g c = λ file holds.
    let e = c.new-reader.ensures in
    let front = c.in-Ok.ensures.looks file c.args.to (can_at _ c.args.ledger.now file c.args.to c.new-reader.result holds e.to e.ahead) in
    let staged = c.in-Ok-number.ensures.gives file c.args.to front.0 in
    let count = c.in-Ok-word.ensures.gives file c.args.to staged.0 in
    record {
      front = front.1.value;
      read = subst (λ (n : ℕ). IsRead outputs_front file c.args.to n c.word.new.self.at (front.1.value, (c.in-Ok-number.staged, c.in-Ok-word.count))) e.at
          (read_both loose_front (λ front. behind number (λ staged. any_word)) file c.args.to _ _ _ front.1.value _ front.1.read (read_both number (λ staged. any_word) file c.args.to _ _ _ _ _ staged.1 count.1));
    }
