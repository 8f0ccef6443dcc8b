use Rattle.std.proofs.Common.{◌≡◌, ◌∙◌, ap, Some}
use Rattle.std.specs.List.{position}
use Rattle.memory_outside.specs.Files.{folder_of, is_named}
use Rattle.memory_outside.proofs.OneFile.{file_taken, file_missing}
use Rattle.memory_outside.proofs.files.remove.Goals as goal

pub loop-index-preserved : goal.loop-index-preserved
loop-index-preserved c =
    let files = c.loop-index.files.items in
    let name = c.args.name.now in
    let found : Some c.in-Some.index ≡ position (is_named name) files = c.in-Some.ensures ∙ ap (position (is_named name)) c.deref.ensures.value in
    λ other off. ap (λ fs. folder_of fs other) c.remove.ensures.items ∙ file_taken files name c.in-Some.index found other off ∙ c.loop-index.invariant other off

pub returns : goal.returns
returns c =
    let files = c.loop-index.files.items in
    let name = c.args.name.now in
    record { gone = file_missing files name (c.in_default.ensures ∙ ap (position (is_named name)) c.deref.ensures.value); others = c.loop-index.invariant }
