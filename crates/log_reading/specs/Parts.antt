-- Parts of a log, up to a cut that may lie behind its end.
use Rattle.std.specs.Prelude.{◌≡◌, ◌+◌, ◌≤◌, ℕ, List, [], length, take, drop, Option}
use Rattle.lp_model.specs.Outside.{Folder, Told, bytes_in}
use Rattle.lp_model.specs.Pieces.{rest_of}

-- these bytes stand in a log from a place on, below a cut
pub record IsPart (told : Option Folder) (name : List ℕ) (from cut : ℕ) (bytes : List ℕ) : Type 0 where
  pub fits : from + length bytes ≤ cut
  pub same : Told told (λ folder. bytes ≡ take (length bytes) (drop from (bytes_in folder name)))

-- a log has no byte below a cut from this place on
abbrev pub IsReadUp : Option Folder → List ℕ → ℕ → ℕ → Type 0
IsReadUp told name place cut = Told told (λ folder. rest_of folder name place cut ≡ [])
