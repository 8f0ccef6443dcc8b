use Rattle.std.proofs.Common.{◌≡◌, ◌++◌, ◌∷◌, [], Some, None, refl, ◌∙◌, ap, sym, subst, List}
use Rattle.memory_outside.specs.declared.files.MemoryFile.{MemoryFile}
use Rattle.std.specs.List.{position}
use Rattle.memory_outside.specs.Files.{is_named, folder_of, Changes}
use Rattle.memory_outside.proofs.OneFile.{file_set, file_added}
use Rattle.memory_outside.proofs.files.store.Goals as goal

pub returns-in-Some-clause-ok : goal.returns-in-Some-clause-ok
returns-in-Some-clause-ok c =
    let files = c.args.files.now.items in
    let name = c.args.name.now in
    let found : Some c.in-Some.index ≡ position (is_named name) files = c.in-Some.ensures ∙ ap (position (is_named name)) c.deref.ensures.value in
    file_set files name c.in-Some.index c.index_mut.result.now (record { name = c.index_mut.result.now.name; bytes = c.args.bytes }) found c.index_mut.ensures.value refl

pub returns-in_ok-push-in-None-clause-ok : goal.returns-in_ok-push-in-None-clause-ok
returns-in_ok-push-in-None-clause-ok c =
    let files = c.args.files.now.items in
    let name = c.args.name.now in
    let new : MemoryFile = record { name = c.copy.result; bytes = c.args.bytes } in
    let missing : None ≡ position (is_named name) files = c.in-None.ensures ∙ ap (position (is_named name)) c.deref.ensures.value in
    let items : files ++ new ∷ [] ≡ c.push.new.self.items = sym c.in_ok-push-in-None.ensures.items in
    subst (λ (fs : List MemoryFile). Changes (folder_of files) (folder_of fs) name c.args.bytes) items (file_added files name new missing c.copy.ensures)
