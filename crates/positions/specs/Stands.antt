-- What stands before a reader of a ledger.
use Rattle.std.specs.Prelude.{◌≡◌, ℕ, ◌<◌, ◌^◌, List, length}
use Rattle.std.specs.List.{AllByRecursion}
use Rattle.disk_model.specs.Disk.{DiskState}
use Rattle.ledger.specs.Reader.{Position, CanRead, left_of}

-- the disk tells a file in which these bytes stand before a reader, up to a place
pub record Stands (disk : DiskState) (name : List ℕ) (to : ℕ) (position : Position) (bytes : List ℕ) : Type 0 where
  pub file : List ℕ
  pub can : CanRead disk name file to position
  pub left : left_of file to position.at ≡ bytes

-- texts whose lengths have 32 bits
abbrev pub AreShort : List (List ℕ) → Type 0
AreShort texts = AllByRecursion (λ text. length text < 2 ^ 32) texts
