use Rattle.std.proofs.Common.{◌++◌, ◌∷◌, [], ℕ, List, refl, ap, ◌∙◌}
use Rattle.disk_model.specs.Disk.{Nothing}
use Rattle.memory_outside.specs.Files.{files_in}
use Rattle.memory_outside.specs.declared.store.Call.TheVariants.{Sync}
use Rattle.memory_outside.proofs.MemorySteps.{works_same, sync_done, sync_synced}
use Rattle.memory_outside.proofs.store.Store.sync.Goals as goal

pub returns-in_err-push-clause-crash : goal.returns-in_err-push-clause-crash
returns-in_err-push-clause-crash c = λ honest.
    let first = files_in c.args.self.now.first.items in
    let calls = c.args.self.now.calls.items in
    let f = files_in c.args.self.now.files.items in
    let name = c.args.name.now in
    works_same Nothing (λ n b. refl) first f f calls c.push.new.self.items refl c.in_err-push.ensures.items honest

pub returns-clause-crash : goal.returns-clause-crash
returns-clause-crash c = λ honest.
    let first = files_in c.args.self.now.first.items in
    let calls = c.args.self.now.calls.items in
    let f = files_in c.args.self.now.files.items in
    let name = c.args.name.now in
    sync_done first f calls c.push.new.self.items name c.in_ok-bytes.bytes (c.in_ok-bytes.ensures ∙ c.bytes.ensures) (c.in_ok-push.ensures.items ∙ ap (λ (n : List ℕ). calls ++ Sync n c.in_ok-bytes.bytes ∷ []) c.copy.ensures) honest

pub returns-clause-durable : goal.returns-clause-durable
returns-clause-durable c = λ honest.
    let first = files_in c.args.self.now.first.items in
    let calls = c.args.self.now.calls.items in
    let f = files_in c.args.self.now.files.items in
    let name = c.args.name.now in
    sync_synced first f calls c.push.new.self.items name c.in_ok-bytes.bytes (c.in_ok-bytes.ensures ∙ c.bytes.ensures) (c.in_ok-push.ensures.items ∙ ap (λ (n : List ℕ). calls ++ Sync n c.in_ok-bytes.bytes ∷ []) c.copy.ensures)
