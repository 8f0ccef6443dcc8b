use Rattle.std.proofs.Common.{sym, ap, ◌∙◌}
use Rattle.memory_outside.specs.Files.{files_in}
use Rattle.memory_outside.proofs.DiskCalls.{first_honest, first_synced, crash_image}
use Rattle.memory_outside.proofs.memory_disk.MemoryDisk.crash.Goals as goal

pub returns-clause-image : goal.returns-clause-image
returns-clause-image c = crash_image c.args.self.now.store c.deref.result.now c.deref-2.result.now (files_in c.in_ok-image.image.items) (files_in c.new.result.files.items) c.deref.ensures.value c.deref-2.ensures.value (ap files_in c.new.ensures.files_is) c.in_ok-image.ensures.image

pub returns-clause-honest : goal.returns-clause-honest
returns-clause-honest c = first_honest c.in_ok-first.first.items c.in_ok-image.image.items c.new.result c.new.ensures (ap files_in (sym (c.in_ok-first.ensures ∙ c.deref-3.ensures.value)))

pub returns-clause-lasting : goal.returns-clause-lasting
returns-clause-lasting c = first_synced c.in_ok-first.first.items c.in_ok-image.image.items c.new.result c.new.ensures (ap files_in (sym (c.in_ok-first.ensures ∙ c.deref-3.ensures.value)))
