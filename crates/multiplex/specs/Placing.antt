-- What the outputs of a pattern are, and how a row is placed.
use Rattle.std.specs.Prelude.{◌≡◌, ◌⊎◌, ◌<◌, ◌≤◌, ℕ, true, false, List, length, map, None, Some, bytes_eq}
use Rattle.std.specs.Bool.{⊤}
use Rattle.std.specs.List.{position_or_len}
use Rattle.lp_outside.specs.NameFault.{name_fault}
use Rattle.lp_values.specs.declared.value.Value.{Value}
use Rattle.log_listing.specs.Firsts.{is_among, firsts, with_name}
use Rattle.multiplex.specs.Naming.{filled}
use Rattle.multiplex.specs.declared.place_fault.PlaceFault.{PlaceFault}
use Rattle.multiplex.specs.declared.place_fault.PlaceFault.TheVariants.{TooManyOutputs, BadName, NameClash, Memory}

-- What is known of outputs: their pattern, the names that none may have, and their own names by index.
pub record Numbering : Type 0 where
  pub pattern : List ℕ
  pub forbidden : List (List ℕ)
  pub names : List (List ℕ)

-- the outputs after a row of this name
abbrev pub after_row : Numbering → List ℕ → Numbering
after_row outputs name = record { pattern = outputs.pattern; forbidden = outputs.forbidden; names = with_name outputs.names name }

-- the index of a name, the next one if it is new
abbrev pub index_among : List (List ℕ) → List ℕ → ℕ
index_among names name = position_or_len (bytes_eq name) names

-- no output has this name yet
abbrev pub IsNewName : Numbering → List ℕ → Type 0
IsNewName outputs name = is_among outputs.names name ≡ false

-- A new output may have this name.
pub record CanBeAdded (forbidden names : List (List ℕ)) (name : List ℕ) : Type 0 where
  pub room : length names < 10_000
  pub good : name_fault name ≡ None
  pub free : is_among forbidden name ≡ false

-- why a new name is refused, the first of three reasons; want of memory may come at any name
abbrev pub IsReason : List (List ℕ) → List (List ℕ) → List ℕ → PlaceFault → Type 0
IsReason forbidden names name TooManyOutputs = 10_000 ≤ length names
IsReason forbidden names name (BadName fault) = (length names < 10_000) × (name_fault name ≡ Some fault)
IsReason forbidden names name (NameClash clash) = (length names < 10_000) × (name_fault name ≡ None) × (is_among forbidden name ≡ true) × (clash ≡ name)
IsReason forbidden names name Memory = ⊤

-- a row of this name has no output: the name is new and refused, or memory is wanted
abbrev pub HasNoOutput : Numbering → List ℕ → PlaceFault → Type 0
HasNoOutput outputs name fault = (fault ≡ Memory) ⊎ (IsNewName outputs name × IsReason outputs.forbidden outputs.names name fault)

-- the outputs are those of rows with these values for the stars, in this order
abbrev pub StandFor : Numbering → List (List Value) → Type 0
StandFor outputs rows = outputs.names ≡ firsts (map (filled outputs.pattern) rows)

-- the indices of these rows
abbrev pub indices_of : Numbering → List (List Value) → List ℕ
indices_of outputs rows = map (λ values. index_among outputs.names (filled outputs.pattern values)) rows

-- bytes are refused as a name of a file
abbrev pub IsNoName : List ℕ → PlaceFault → Type 0
IsNoName name TooManyOutputs = ⊥
IsNoName name (BadName fault) = name_fault name ≡ Some fault
IsNoName name (NameClash clash) = ⊥
IsNoName name Memory = ⊤

-- no output may have this name
abbrev pub IsTaken : List (List ℕ) → List ℕ → PlaceFault → Type 0
IsTaken forbidden name TooManyOutputs = ⊥
IsTaken forbidden name (BadName fault) = ⊥
IsTaken forbidden name (NameClash clash) = (is_among forbidden name ≡ true) × (clash ≡ name)
IsTaken forbidden name Memory = ⊤
