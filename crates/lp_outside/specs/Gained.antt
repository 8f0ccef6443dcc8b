-- What an output has gained between two moments: one relation for a stream and for a stage that keeps texts.
use Rattle.std.specs.Prelude.{◌≡◌, ◌≢◌, ℕ, ◌+◌, ◌%◌, ◌<◌, ◌≤◌, ◌^◌, List, ◌++◌, length, codes, option_map, IsSomeAnd}
use Rattle.lp_model.specs.Outside.{Gains, GainsSome, Told}
use Rattle.lp_outside.specs.declared.stage.Mark.{Mark}
use Rattle.lp_outside.specs.Stages.{StageState, no_mark}

-- the name of what goes to standard output
abbrev pub standard_output : List ℕ
standard_output = codes "STDOUT"

-- The output of this index, name and base has gained this text since before, from one mark up to another.
pub record Gained (output : ℕ) (name : List ℕ) (base : ℕ) (from to : Mark) (text : List ℕ) (before now : StageState) : Type 0 where
  -- A stage has it behind what stood up to the first mark.
  pub tells : before.tells → now.tells
  pub staged : before.tells → (was : List ℕ) → before.is_text output name base from was → now.is_text output name base to (was ++ text)
  -- A stream has written it, and nothing else; its one output has the name of standard output.
  pub streamed : name ≡ standard_output → Gains before.written now.written text
  pub counted : now.taken ≡ option_map (λ count. count + length text) before.taken
  pub length_is : to.length ≡ (from.length + length text) % 2 ^ 64

-- This output was to gain a text: a stream has written the front of it, and has taken no fewer bytes than before.
pub record GainedSome (name text : List ℕ) (before now : StageState) : Type 0 where
  pub streamed : name ≡ standard_output → GainsSome before.written now.written text
  pub counted : Told before.taken (λ was. IsSomeAnd now.taken (λ is. was ≤ is))

-- an output has this text, from its first byte up to a mark
abbrev pub HasText : ℕ → List ℕ → ℕ → Mark → List ℕ → StageState → Type 0
HasText output name base mark text now = now.tells × now.is_text output name base mark text

-- the texts of all outputs with another index and another name stay, whatever comes of this one
abbrev pub SparesOthers : ℕ → List ℕ → StageState → StageState → Type 0
SparesOthers index called before now = before.tells → (output : ℕ) (name : List ℕ) (base : ℕ) (mark : Mark) (text : List ℕ) → output ≢ index → name ≢ called
    → before.is_text output name base mark text → now.is_text output name base mark text

-- the texts of files that end at a base or before it stay
abbrev pub SparesFronts : ℕ → StageState → StageState → Type 0
SparesFronts base before now = before.tells → (output : ℕ) (name : List ℕ) (start : ℕ) (mark : Mark) (text : List ℕ) → start + mark.length ≤ base
    → before.is_text output name start mark text → now.is_text output name start mark text

-- the lengths of all other outputs' files stay
abbrev pub SparesLengths : List ℕ → StageState → StageState → Type 0
SparesLengths called before now = before.tells → (name : List ℕ) (bytes : ℕ) → name ≢ called → (before.is_length name bytes → now.is_length name bytes) × (now.is_length name bytes → before.is_length name bytes)

-- all lengths stay
abbrev pub KeepsLengths : StageState → StageState → Type 0
KeepsLengths before now = before.tells → (name : List ℕ) (bytes : ℕ) → (before.is_length name bytes → now.is_length name bytes) × (now.is_length name bytes → before.is_length name bytes)

-- outputs of all names but one that were ended are so still
abbrev pub SparesEnded : {S : Type 0} → (S → List ℕ → ℕ → Mark → Type 0) → List ℕ → S → S → Type 0
SparesEnded ended called before now = (name : List ℕ) (base : ℕ) (mark : Mark) → name ≢ called → ended before name base mark → ended now name base mark

-- all that were ended are so still
abbrev pub KeepsEnded : {S : Type 0} → (S → List ℕ → ℕ → Mark → Type 0) → S → S → Type 0
KeepsEnded ended before now = (name : List ℕ) (base : ℕ) (mark : Mark) → ended before name base mark → ended now name base mark

-- Over some calls for one output: what the stage lets stand, and that all other outputs stay.
pub record SparesRest {S : Type 0} (state : S → StageState) (Stands : S → S → Type 0) (IsEnded : S → List ℕ → ℕ → Mark → Type 0) (output : ℕ) (name : List ℕ) (before now : S) : Type 0 where
  pub goes : Stands before now
  pub others : SparesOthers output name (state before) (state now)
  pub lengths : SparesLengths name (state before) (state now)
  pub ended : SparesEnded IsEnded name before now
