use Rattle.std.proofs.Common.{sym, ap, subst, List, set, ◌∙◌}
use Rattle.std.proofs.lemmas.List.Edits.{map_over_more}
use Rattle.memory_outside.specs.declared.files.MemoryFile.{MemoryFile}
use Rattle.memory_outside.specs.Files.{folder_of, renamed, Renames}
use Rattle.memory_outside.proofs.OneFile.{files_renamed, all_done}
use Rattle.memory_outside.proofs.files.rename.Goals as goal

pub loop-file-preserved : goal.loop-file-preserved
loop-file-preserved c =
    let f = renamed c.args.from.now c.args.to.now in
    let x = c.file-item.result in
    ap (λ (y : MemoryFile). set c.loop-file.file-items c.loop-file.file-index y) (c.rename_file.ensures ∙ ap f (sym c.file-item.is)) ∙ map_over_more f c.args.files.now c.loop-file.file-items c.loop-file.file-index x c.loop-file-test.true c.loop-file.invariant c.file-item.is

pub returns : goal.returns
returns c =
    let files = c.args.files.now in
    let f = renamed c.args.from.now c.args.to.now in
    subst (λ (fs : List MemoryFile). Renames (folder_of files) (folder_of fs) c.args.from.now c.args.to.now) (sym (c.loop-file.invariant ∙ all_done f files c.loop-file.file-index c.loop-file-test.false))
    (files_renamed files c.args.from.now c.args.to.now c.requires.there c.requires.free)
