use Rattle.std.proofs.Common.{◌≡◌, ◌++◌, ◌∷◌, [], ℕ, List, length, ap, ◌∙◌}
use Rattle.memory_outside.specs.Files.{folder_of, files_in}
use Rattle.memory_outside.specs.declared.store.Call.TheVariants.{Write, Sync}
use Rattle.memory_outside.proofs.MemorySteps.{put_from, put_lasts}
use Rattle.memory_outside.proofs.store.Store.put.Goals as goal

pub returns-clause-lasts : goal.returns-clause-lasts
returns-clause-lasts c = λ honest.
    let first = files_in c.args.self.now.first.items in
    let calls = c.args.self.now.calls.items in
    let f = files_in c.args.self.now.files.items in
    let name = c.args.name.now in
    let one = c.push.new.self.items in
    let two = c.push-2.new.self.items in
    let whole = c.add.new.self in
    let old : c.bytes-old.result.now ≡ f name = c.bytes-old.ensures in
    let is : whole ≡ f name ++ c.args.bytes.now = c.in_ok-add.ensures.ok ∙ ap (λ (b : List ℕ). b ++ c.args.bytes.now) (c.in_ok-whole.ensures ∙ old) in
    let as_name : c.copy-2.result ≡ name = c.copy-2.ensures in
    let as_bytes : c.in_ok-copy.copy ≡ c.args.bytes.now = c.in_ok-copy.ensures in
    let kept : c.reserve.new.self.items ≡ calls = c.in_ok-reserve.ensures.items in
    let noted : one ≡ calls ++ Write name 0 (length (f name)) c.args.bytes.now ∷ [] = c.in_ok-push.ensures.items ∙ (λ i. kept i ++ Write (as_name i) 0 (length (old i)) (as_bytes i) ∷ []) in
    let synced : two ≡ one ++ Sync name whole ∷ [] = c.in_ok-push-2.ensures.items ∙ ap (λ (n : List ℕ). one ++ Sync n whole ∷ []) c.copy-3.ensures in
    put_lasts first f (files_in c.append.new.files.items) calls one two name c.args.bytes.now whole
    (put_from (folder_of c.args.self.now.files.items) (folder_of c.append.new.files.items) name (f name ++ c.args.bytes.now) c.in_ok-append.ensures.ok) is noted synced honest
