-- What stands at the front of some bytes.
use Rattle.std.specs.Prelude.{◌≡◌, ℕ, ◌-◌, ◌^◌, List, ◌++◌}
use Rattle.std.specs.Bool.{⊤}
use Rattle.lp_model.specs.Reading.{Standing}
use Rattle.ledger_model.specs.Layouts.{Layout, whole}
use Rattle.ledger_model.specs.Standings.{standing_layout}
use Rattle.line_input.specs.declared.standing_bytes.StandingFault.{StandingFault}
use Rattle.line_input.specs.declared.standing_bytes.StandingFault.TheVariants.{Malformed, Memory}

-- a value stands in front, and these bytes behind it
pub record IsFront {A : Type 0} (layout : Layout A) (bytes : List ℕ) (value : A) (rest : List ℕ) : Type 0 where
  pub fits : layout.Fits value
  pub split : bytes ≡ layout.spell value ++ rest

-- none does: some field doesn't fit
pub record HasBreak {A : Type 0} (layout : Layout A) (bytes : List ℕ) : Type 0 where
  pub place : ℕ
  pub breaks : layout.Breaks bytes place

-- a standing with any number of lines
abbrev pub any_standing : Layout Standing
any_standing = standing_layout (2 ^ 64 - 1)

-- the first field that doesn't fit begins at this place of the bytes
abbrev pub IsMalformed : List ℕ → StandingFault → Type 0
IsMalformed bytes (Malformed at) = whole any_standing bytes at
IsMalformed bytes Memory = ⊤
