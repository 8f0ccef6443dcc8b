use Rattle.std.proofs.Common.{◌≡◌, length, take, ap, ◌∙◌, arith}
use Rattle.std.proofs.lemmas.List.{take_all}
use Rattle.lp_model.specs.Outside.{bytes_in}
use Rattle.memory_outside.specs.Files.{folder_of, files_in}
use Rattle.memory_outside.proofs.MemorySteps.{put_same}
use Rattle.memory_outside.proofs.store.shorten.Goals as goal

pub returns-then-old-to-clause-ok : goal.returns-then-old-to-clause-ok
returns-then-old-to-clause-ok c =
    let f = files_in c.args.files.now.items in
    let name = c.args.name.now in
    let is : c.bytes_of-old.result.now ≡ f name = c.bytes_of-old.ensures ∙ ap (λ fs. bytes_in (folder_of fs) name) c.deref.ensures.value in
    put_same name (take c.args.to (f name)) f (take_all c.args.to (f name) (omega (arith, c.if-old-to.true, ap length is)))
