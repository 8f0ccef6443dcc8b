-- Outputs whose names differ.
use Rattle.std.specs.Prelude.{◌≡◌, ℕ, ◌+◌, ◌*◌, ◌%◌, ◌<◌, ◌^◌, Bool, List, [], ◌∷◌, map, Result, MatchResult, MatchBool}
use Rattle.std.specs.Bool.{⊤}
use Rattle.lp_outside.specs.declared.stage.Mark.{Mark}
use Rattle.ledger_model.specs.Entries.{Output}
use Rattle.ledger_model.specs.Layouts.{Layout, field, behind}
use Rattle.ledger_model.specs.Numbers.{number, u64_bytes}
use Rattle.ledger_model.specs.Grammar.{output_layout, IsNew}
use Rattle.ledger.specs.declared.refused.LedgerRefused.{LedgerRefused}
use Rattle.ledger.specs.declared.refused.LedgerRefused.TheVariants.{DiskFault, LedgerFault}
use Rattle.ledger.specs.Reader.{IsRead, RefusedAt}
use Rattle.ledger.specs.Counted.{SomeItems}

-- the refusal is the disk's
abbrev pub IsOfDisk : LedgerRefused → Type 0
IsOfDisk DiskFault = ⊤
IsOfDisk (LedgerFault part at) = ⊥

-- where an output's text stands: the place where it begins, its size, and its last frame's place; it ends below 2^63
abbrev pub place_layout : Layout (ℕ × (ℕ × ℕ))
place_layout = behind number (λ base. behind (field (λ size. (size < 2 ^ 64) × (base + size < 2 ^ 63)) u64_bytes) (λ size. number))

-- the same as a base and a mark
abbrev pub place_at : ℕ → Mark → ℕ × (ℕ × ℕ)
place_at base mark = (base, (mark.length, mark.last))

-- a base and a mark are read, or the bytes are refused
abbrev pub TakesPlace : List ℕ → ℕ → ℕ → ℕ → Result (ℕ × Mark) LedgerRefused → Type 0
TakesPlace file to from at result = MatchResult result (λ place. IsRead place_layout file to from at (place_at place.0 place.1)) (RefusedAt place_layout file to from)

-- a name was compared with those of the outputs that stand from one place on, which can be read
abbrev pub Compares : List ℕ → ℕ → ℕ → ℕ → List ℕ → Result Bool LedgerRefused → Type 0
Compares file to first count name result = (at : ℕ) (some : SomeItems output_layout file to first at count) → MatchResult result (λ taken. MatchBool taken (IsNew some.items name → ⊥) (IsNew some.items name)) IsOfDisk

-- a number that names share only by rare chance, if they differ: each byte is added to a multiple of what the bytes before it gave
unfoldable pub hash_on : ℕ → List ℕ → ℕ
hash_on hash [] = hash
hash_on hash (byte ∷ bytes) = hash_on (((hash * 1_099_511_628_211) % 2 ^ 64 + byte) % 2 ^ 64) bytes

abbrev pub name_hash : List ℕ → ℕ
name_hash name = hash_on 0 name

-- these are the numbers of the outputs' names
abbrev pub HasHashes : List ℕ → List Output → Type 0
HasHashes seen outputs = seen ≡ map (λ output. name_hash output.name) outputs

-- some outputs were read, of whose names these are the numbers
abbrev pub HashedItems : List ℕ → ℕ → ℕ → ℕ → ℕ → List ℕ → Type 0
HashedItems file to first at count seen = (some : SomeItems output_layout file to first at count) × HasHashes seen some.items

-- and a name was compared where its number is among them
abbrev pub ComparesSeen : List ℕ → List ℕ → ℕ → ℕ → ℕ → List ℕ → Result Bool LedgerRefused → Type 0
ComparesSeen seen file to first count name result = (at : ℕ) (some : SomeItems output_layout file to first at count) → HasHashes seen some.items → MatchResult result (λ taken. MatchBool taken (IsNew some.items name → ⊥) (IsNew some.items name)) IsOfDisk
