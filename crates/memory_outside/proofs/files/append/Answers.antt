use Rattle.std.proofs.Common.{◌≡◌, ◌++◌, ◌∷◌, [], ℕ, set, Option, Some, None, refl, ◌∙◌, ap, sym, subst, List, unwrap_or}
use Rattle.memory_outside.specs.declared.files.MemoryFile.{MemoryFile}
use Rattle.std.specs.List.{position}
use Rattle.memory_outside.specs.Files.{is_named, folder_of, files_in, Changes}
use Rattle.memory_outside.proofs.OneFile.{file_set, file_added, file_had, file_missing, change_of}
use Rattle.memory_outside.proofs.files.append.Goals as goal

pub returns-in_ok-add-in-Some-clause-ok : goal.returns-in_ok-add-in-Some-clause-ok
returns-in_ok-add-in-Some-clause-ok c =
    let files = c.args.files.now.items in
    let name = c.args.name.now in
    let old = c.index_mut.result.now in
    let found : Some c.in-Some.index ≡ position (is_named name) files = c.in-Some.ensures ∙ ap (position (is_named name)) c.deref.ensures.value in
    let new : MemoryFile = record { name = old.name; bytes = c.add.new.self } in
    let gained : new.bytes ≡ files_in files name ++ c.args.bytes.now = c.in_ok-add-in-Some.ensures.ok ∙ ap (λ (b : List ℕ). b ++ c.args.bytes.now) (sym (file_had files name c.in-Some.index old found c.index_mut.ensures.value)) in
    change_of (folder_of files) (folder_of (set files c.in-Some.index new)) name new.bytes (files_in files name ++ c.args.bytes.now) gained (file_set files name c.in-Some.index old new found c.index_mut.ensures.value refl)

pub returns-in_ok-push-in-None-clause-ok : goal.returns-in_ok-push-in-None-clause-ok
returns-in_ok-push-in-None-clause-ok c =
    let files = c.args.files.now.items in
    let name = c.args.name.now in
    let new : MemoryFile = record { name = c.copy.result; bytes = c.in_ok-first-in-None.first } in
    let missing : None ≡ position (is_named name) files = c.in-None.ensures ∙ ap (position (is_named name)) c.deref.ensures.value in
    let items : files ++ new ∷ [] ≡ c.push.new.self.items = sym c.in_ok-push-in-None.ensures.items in
    let gained : new.bytes ≡ files_in files name ++ c.args.bytes.now = c.in_ok-first-in-None.ensures ∙ ap (λ (o : Option (List ℕ)). unwrap_or o [] ++ c.args.bytes.now) (sym (file_missing files name missing)) in
    subst (λ (fs : List MemoryFile). Changes (folder_of files) (folder_of fs) name (files_in files name ++ c.args.bytes.now)) items
    (change_of (folder_of files) (folder_of (files ++ new ∷ [])) name new.bytes (files_in files name ++ c.args.bytes.now) gained (file_added files name new missing c.copy.ensures))
