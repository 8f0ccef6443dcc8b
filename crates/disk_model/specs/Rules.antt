-- The rules that an honest disk keeps.
use Rattle.std.specs.Prelude.{ℕ, ◌≤◌}
use Rattle.disk_model.specs.Disk.{Files, DiskState, IsImage}

pub record KeepsRules (disk : DiskState) : Type 0 where
  -- it tells what a read gives
  pub tells : disk.honest → disk.tells
  -- what a read gives is an image
  pub seen_left : disk.honest → IsImage disk disk.seen
  -- this moment is one of those since an earlier one
  pub counts_now : (t : ℕ) (image : Files) → disk.honest → t ≤ disk.moment → IsImage disk image → disk.left_since t image
  -- since this moment there is no other
  pub only_now : (image : Files) → disk.honest → disk.left_since disk.moment image → IsImage disk image
