-- Texts that are passed over.
use Rattle.std.specs.Prelude.{◌≡◌, ◌≢◌, ℕ, ◌≤◌, List, ◌++◌, length}
use Rattle.std.specs.Bool.{⊤}
use Rattle.std.specs.Str.{IsUtf8}
use Rattle.ledger.specs.declared.passing.TextKind.{TextKind}
use Rattle.ledger.specs.declared.passing.TextKind.TheVariants.{Any, Utf8}
use Rattle.ledger.specs.Reader.{Stood, left_of}

abbrev pub IsText : TextKind → List ℕ → Type 0
IsText Any text = ⊤
IsText Utf8 text = IsUtf8 text

-- no text of this length is left there
abbrev pub NoText : TextKind → List ℕ → ℕ → ℕ → ℕ → Type 0
NoText kind file to from size = (text more : List ℕ) → length text ≡ size → IsText kind text → left_of file to from ≢ text ++ more

-- a text of this length was passed over
pub record Passed (kind : TextKind) (file : List ℕ) (to from at size : ℕ) : Type 0 where
  pub text : List ℕ
  pub stood : Stood file to from at text
  pub size_is : length text ≡ size
  pub is : IsText kind text

-- some of a text was, or none of it is left
pub record PassedSome (kind : TextKind) (file : List ℕ) (to from at most count : ℕ) : Type 0 where
  pub passed : Passed kind file to from at count
  pub within : count ≤ most
  pub ends : count ≡ 0 → NoText kind file to from most
