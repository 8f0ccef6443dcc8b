-- Texts that stand in their files.
use Rattle.std.specs.Prelude.{◌≡◌, ℕ, ◌+◌, ◌≤◌, List, [], length, take, drop, None}
use Rattle.std.proofs.Common.{refl, sym, ◌∙◌}
use Rattle.disk_model.specs.Disk.{DiskState}
use Rattle.lp_outside.specs.declared.stage.Mark.{Mark}
use Rattle.lp_outside.specs.Stages.{StageState}
use Rattle.file_stage.specs.declared.putting.FileStage.{FileStage}

-- the disk that a stage writes to
abbrev pub disk_of : {D : Type 0} → (D → DiskState) → FileStage D → DiskState
disk_of state s = state s.disk.now

-- A file has this text from the base on, of that length.
pub record IsThere (file : List ℕ) (base size : ℕ) (text : List ℕ) : Type 0 where
  pub whole : length text ≡ size
  pub same : text ≡ take size (drop base file)

-- the texts of the files, as far as the disk tells them
abbrev pub file_state : {D : Type 0} → (D → DiskState) → FileStage D → StageState
file_state state s = record {
  tells = (disk_of state s).tells;
  is_text = λ output name base mark text. IsThere ((disk_of state s).seen name) base mark.length text;
  is_length = λ name bytes. (disk_of state s).tells → bytes ≡ length ((disk_of state s).seen name);
  written = None;
  taken = None;
}

-- the disk tells at each moment what a read gives
abbrev pub AlwaysTells : {D : Type 0} → (D → DiskState) → Type 0
AlwaysTells {D} state = (disk : D) → (state disk).tells

-- an output's file ends where its text does, or before
abbrev pub EndsBy : {D : Type 0} → (D → DiskState) → FileStage D → List ℕ → ℕ → Mark → Type 0
EndsBy state s name base mark = AlwaysTells state → length ((disk_of state s).seen name) ≤ base + mark.length

-- What a stage lets stand over all its calls: the reference, and that the disk tells and is honest.
pub record Goes {D : Type 0} (state : D → DiskState) (old new : FileStage D) : Type 0 where
  pub same_reference : new.disk.ghost_name ≡ old.disk.ghost_name
  pub tells : (disk_of state old).tells → (disk_of state new).tells
  pub honest : (disk_of state old).honest → (disk_of state new).honest

pub goes_nowhere : {D : Type 0} → (state : D → DiskState) → (s : FileStage D) → Goes state s s
goes_nowhere state s = record { same_reference = refl; tells = λ tells. tells; honest = λ honest. honest }

pub goes_on : {D : Type 0} → (state : D → DiskState) → (a b c : FileStage D) → Goes state a b → Goes state b c → Goes state a c
goes_on state a b c f s = record {
  same_reference = s.same_reference ∙ f.same_reference;
  tells = λ tells. s.tells (f.tells tells);
  honest = λ honest. s.honest (f.honest honest);
}

-- a text of no bytes is at any place
pub no_text : (file : List ℕ) (base : ℕ) → IsThere file base 0 []
no_text file base = record { whole = refl; same = refl }

-- a text at a place is one
pub one_text : (file : List ℕ) (base size : ℕ) (text other : List ℕ) → IsThere file base size text → IsThere file base size other → other ≡ text
one_text file base size text other a b = b.same ∙ sym a.same
