-- Texts that grow in a stage, frame by frame.
use Rattle.std.specs.Prelude.{◌≡◌, ℕ, ◌<◌, ◌≤◌, List, [], ◌++◌, length, flat_map}
use Rattle.std.specs.List.{AllByRecursion}
use Rattle.std.specs.Int.{to_le_bytes, w32, w64}
use Rattle.disk_model.specs.Disk.{DiskState}
use Rattle.recovery_model.specs.Stage.{Frame, IsChain, text_of}

-- a frame as it is written
abbrev pub frame_bytes : ℕ → Frame → List ℕ
frame_bytes index f = to_le_bytes w64 f.prev ++ (to_le_bytes w64 f.offset ++ (to_le_bytes w32 index ++ (to_le_bytes w32 (length f.bytes) ++ f.bytes)))

-- the text of an output by its index, its last frame's place and its length
abbrev pub IsText : List ℕ → ℕ → ℕ → ℕ → List ℕ → Type 0
IsText stage index last size text = (frames : List Frame) × IsChain stage index frames last size × (text ≡ text_of frames)

-- the disk tells that the stage has so many bytes
pub record HasStage (disk : DiskState) (stage : List ℕ) (size : ℕ) : Type 0 where
  pub tells : disk.tells
  pub size_is : length (disk.seen stage) ≡ size

-- all texts stay
abbrev pub KeepsTexts : List ℕ → List ℕ → Type 0
KeepsTexts old new = (index last size : ℕ) (text : List ℕ) → IsText old index last size text → IsText new index last size text

-- these frames hold these bytes: each has 4,096, and at most one behind them has fewer
pub record Cuts (frames : List Frame) (bytes : List ℕ) : Type 0 where
  pub full : List Frame
  pub last : List Frame
  pub split : frames ≡ full ++ last
  pub each_full : AllByRecursion (λ f. length f.bytes ≡ 4096) full
  pub fewer : AllByRecursion (λ f. (0 < length f.bytes) × (length f.bytes < 4096)) last
  pub one : length last ≤ 1
  pub bytes_are : flat_map (λ f. f.bytes) frames ≡ bytes

-- the stage before, and then these bytes in frames of 4,096 each, the last one fewer
pub record GainsFrames (output : ℕ) (bytes old new : List ℕ) : Type 0 where
  pub frames : List Frame
  pub cuts : Cuts frames bytes
  pub stage_is : new ≡ old ++ flat_map (frame_bytes output) frames

-- and as long as bytes are left none has fewer
pub record HasGained (output : ℕ) (bytes : List ℕ) (left : ℕ) (old new : List ℕ) : Type 0 where
  pub gains : GainsFrames output bytes old new
  pub even : 0 < left → gains.cuts.last ≡ []
