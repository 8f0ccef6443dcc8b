use Rattle.std.proofs.Common.{◌≡◌, ℕ, ◌+◌, ◌<◌, List, [], length, ◌∙◌, arith}
use Rattle.std.proofs.lemmas.List.{append-nil}
use Rattle.disk_model.specs.Disk.{overwritten}
use Rattle.ledger_model.specs.Grammar.{payload_of}
use Rattle.ledger.specs.Written.{entry_of}
use Rattle.ledger.specs.Spelling.{Goes, Spells}
use Rattle.ledger.proofs.Sizing.{payload_length}
use Rattle.ledger.proofs.Spelled.{goes_then, goes_crash, spells_then, spells_as, spells_written, spelled_whole}
use Rattle.ledger.proofs.writing.EntryWriter.put_entry.Goals as goal

pub returns-in_err-flush-clause-crash : goal.returns-in_err-flush-clause-crash
returns-in_err-flush-clause-crash g c =
    let last : Goes (g.D.Disk.state c.add_entry.new.disk) (g.D.Disk.state c.flush.new.disk) c.args.ledger.now c.add_entry.new.speller c.flush.new.self = record { at = c.flush.ensures.at; crash = c.flush.ensures.crash; shows = c.flush.ensures.shows } in
    goes_crash _ _ _ _ _ c.args.self.now.at (c.new-speller.ensures.at ∙ c.copy.ensures.at) (goes_then c.add_entry.ensures.goes last)

pub returns-clause-crash : goal.returns-clause-crash
returns-clause-crash g c =
    let last : Goes (g.D.Disk.state c.add_entry.new.disk) (g.D.Disk.state c.flush.new.disk) c.args.ledger.now c.add_entry.new.speller c.flush.new.self = record { at = c.flush.ensures.at; crash = c.flush.ensures.crash; shows = c.flush.ensures.shows } in
    goes_crash _ _ _ _ _ c.args.self.now.at (c.new-speller.ensures.at ∙ c.copy.ensures.at) (goes_then c.add_entry.ensures.goes last)

pub returns-clause-written : goal.returns-clause-written
returns-clause-written g c = λ tells.
    let before = g.D.Disk.state c.args.disk.now in
    let mid = g.D.Disk.state c.add_entry.new.disk in
    let now = g.D.Disk.state c.flush.new.disk in
    let ledger = c.args.ledger.now in
    let first = c.new-speller.result in
    let later = c.add_entry.new.speller in
    let payload : List ℕ = payload_of (entry_of c.args.entry.now) in
    let some : 0 < length payload = omega (arith, payload_length c.args.entry.now) in
    let at : first.at ≡ c.args.self.now.at = c.new-speller.ensures.at ∙ c.copy.ensures.at in
    let count : first.count ≡ c.args.self.now.count = c.new-speller.ensures.count ∙ c.copy.ensures.count in
    let flushed = spells_written mid now ledger later c.flush.new.self later.ahead [] c.flush.ensures.shows c.in_ok-flush.ensures.written c.flush.ensures.at c.in_ok-flush.ensures.count c.in_ok-flush.ensures.ahead (append-nil later.ahead) in
    let all : Spells before now ledger first c.flush.new.self payload = spells_as (spells_then c.in_ok-add_entry.ensures.spells flushed) (append-nil payload) in
    spelled_whole before now ledger first c.flush.new.self payload all c.new-speller.ensures.ahead c.in_ok-flush.ensures.ahead (c.flush.ensures.at ∙ c.add_entry.ensures.goes.at) some tells
    ∙ (λ i. overwritten (before.seen ledger) (at i + 8 + count i) payload)
