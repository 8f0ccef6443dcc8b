-- The laws of a disk in memory.
use Rattle.std.specs.Prelude.{ℕ, ◌≤◌, List, length}
use Rattle.std.proofs.Common.{arith, subst, sym}
use Rattle.std.proofs.lemmas.List.{take_all}
use Rattle.disk_model.specs.Disk.{Files, IsImage}
use Rattle.memory_outside.specs.Files.{files_in}
use Rattle.memory_outside.specs.Store.{MayLeave, HadLeft}
use Rattle.memory_outside.specs.MemoryDisk.{disk_state}
use Rattle.memory_outside.specs.declared.store.Call.{Call}
use Rattle.memory_outside.specs.declared.memory_disk.MemoryDisk.{MemoryDisk}

pub left_now : (disk : MemoryDisk) (t : ℕ) (image : Files) → t ≤ length disk.store.calls.items → IsImage (disk_state disk) image → HadLeft (files_in disk.store.first.items) disk.store.calls.items t image
left_now disk t image le is =
    let first = files_in disk.store.first.items in
    let calls = disk.store.calls.items in
    (length calls, le, omega arith, λ name. subst (λ (cs : List Call). MayLeave first cs name (image name)) (sym (take_all (length calls) calls (omega arith))) (is name))

pub only_now : (disk : MemoryDisk) (image : Files) → HadLeft (files_in disk.store.first.items) disk.store.calls.items (length disk.store.calls.items) image → IsImage (disk_state disk) image
only_now disk image had =
    let first = files_in disk.store.first.items in
    let calls = disk.store.calls.items in
    λ name. subst (λ (cs : List Call). MayLeave first cs name (image name)) (take_all had.0 calls had.1) (had.3 name)
