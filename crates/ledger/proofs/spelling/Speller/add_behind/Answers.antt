use Rattle.std.proofs.Common.{ℕ, ◌++◌, ◌∙◌, List, [], ap}
use Rattle.std.proofs.lemmas.List.{append-nil}
use Rattle.ledger.specs.Spelling.{Goes}
use Rattle.ledger.proofs.Spelled.{on_both, goes_then, spells_then, spells_written, spells_held}
use Rattle.ledger.proofs.spelling.Speller.add_behind.Goals as goal

pub returns-then-bytes-gt-ROOM-clause-goes : goal.returns-then-bytes-gt-ROOM-clause-goes
returns-then-bytes-gt-ROOM-clause-goes g c =
    let ledger = c.args.ledger.now in
    let first : Goes (g.D.Disk.state c.args.disk.now) (g.D.Disk.state c.flush.new.disk) ledger c.args.self.now c.flush.new.self = record { at = c.flush.ensures.at; crash = c.flush.ensures.crash; shows = c.flush.ensures.shows } in
    let second : Goes (g.D.Disk.state c.flush.new.disk) (g.D.Disk.state c.write.new.disk) ledger c.flush.new.self c.write.new.self = record { at = c.write.ensures.at; crash = c.write.ensures.crash; shows = c.write.ensures.shows } in
    goes_then first second

pub returns-then-bytes-gt-ROOM-clause-spells : goal.returns-then-bytes-gt-ROOM-clause-spells
returns-then-bytes-gt-ROOM-clause-spells g c =
    let ledger = c.args.ledger.now in
    let old = c.args.self.now in
    let none = c.in_ok-flush.ensures.ahead in
    let first = spells_written (g.D.Disk.state c.args.disk.now) (g.D.Disk.state c.flush.new.disk) ledger old c.flush.new.self old.ahead [] c.flush.ensures.shows c.in_ok-flush.ensures.written c.flush.ensures.at c.in_ok-flush.ensures.count none (append-nil old.ahead) in
    on_both c.write.result _ _ _ c.write.ensures.written c.write.ensures.count (λ written count.
    let second = spells_written (g.D.Disk.state c.flush.new.disk) (g.D.Disk.state c.write.new.disk) ledger c.flush.new.self c.write.new.self c.args.bytes.now c.args.bytes.now c.write.ensures.shows written c.write.ensures.at count
    (c.write.ensures.ahead ∙ none) (ap (λ (t : List ℕ). t ++ c.args.bytes.now) none) in
    spells_then first second)

pub returns-clause-spells : goal.returns-clause-spells
returns-clause-spells g c =
    let ledger = c.args.ledger.now in
    let old = c.args.self.now in
    let first = spells_written (g.D.Disk.state c.args.disk.now) (g.D.Disk.state c.flush.new.disk) ledger old c.flush.new.self old.ahead [] c.flush.ensures.shows c.in_ok-flush.ensures.written c.flush.ensures.at c.in_ok-flush.ensures.count
    c.in_ok-flush.ensures.ahead (append-nil old.ahead) in
    spells_then first (spells_held (g.D.Disk.state c.flush.new.disk) ledger c.flush.new.self c.hold.new.self c.args.bytes.now c.hold.ensures.at c.hold.ensures.count c.hold.ensures.ahead)
