-- What a stage holds.
use Rattle.std.specs.Prelude.{◌≢◌, ℕ, ◌+◌, ◌<◌, ◌≤◌, ◌^◌, List, ◌++◌, length, Option, IsSomeAnd}
use Rattle.lp_model.specs.Outside.{Told}
use Rattle.lp_outside.specs.declared.stage.Mark.{Mark}

-- the mark of an empty text
abbrev pub no_mark : Mark
no_mark = record { last = 18446744073709551615; length = 0 }

-- what is known of a stage at one moment
pub record StageState : Type 1 where
  -- it tells its texts
  pub tells : Type 0
  -- the output of this index, name and base has this text up to a mark
  pub is_text : ℕ → List ℕ → ℕ → Mark → List ℕ → Type 0
  -- the file of an output of this name has so many bytes
  pub is_length : List ℕ → ℕ → Type 0
  -- what it wrote to an output stream at once, where it tells that
  pub written : Option (List ℕ)
  -- how many bytes it has taken, where it tells that
  pub taken : Option ℕ

-- all texts stay
pub record KeepsAll (before now : StageState) : Type 0 where
  pub tells : now.tells
  pub all : (output : ℕ) (name : List ℕ) (base : ℕ) (mark : Mark) (text : List ℕ) → before.is_text output name base mark text → now.is_text output name base mark text

-- the texts of outputs with another index and another name stay
abbrev pub KeepsOthers : ℕ → List ℕ → StageState → StageState → Type 0
KeepsOthers index called before now = (output : ℕ) (name : List ℕ) (base : ℕ) (mark : Mark) (text : List ℕ) → output ≢ index → name ≢ called
    → before.is_text output name base mark text → now.is_text output name base mark text

-- the text at the mark, and all texts of another name, stay
pub record KeepsClosed (called : List ℕ) (base : ℕ) (mark : Mark) (before now : StageState) : Type 0 where
  pub closed : (output : ℕ) (text : List ℕ) → before.is_text output called base mark text → now.is_text output called base mark text
  pub others : (output : ℕ) (name : List ℕ) (at : ℕ) (other : Mark) (text : List ℕ) → name ≢ called → before.is_text output name at other text → now.is_text output name at other text

-- where it told how many bytes it had taken, it tells so now, and they are no fewer
abbrev pub KeepsTaken : StageState → StageState → Type 0
KeepsTaken before now = Told before.taken (λ was. IsSomeAnd now.taken (λ is. was ≤ is))
