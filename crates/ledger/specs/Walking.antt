-- What a walk over a ledger finds.
use Rattle.std.specs.Prelude.{◌≡◌, ℕ, ◌+◌, ◌<◌, ◌≤◌, ◌^◌, ◌==◌, List, ◌∷◌, ◌++◌, length, drop, Option, Some, None, Result, MatchResult, option_map}
use Rattle.std.specs.Bool.{⊤}
use Rattle.std.specs.List.{AllByRecursion}
use Rattle.ledger_model.specs.Entries.{Entry}
use Rattle.ledger_model.specs.Grammar.{IsEntry, payload_of, BreaksPayload}
use Rattle.ledger_model.specs.Ledgers.{Pair, IsPair, body_of, spelled_pair, front_of, IsClosed, IsLedger, BreaksBody, BreaksLedger, Last, last_of}
use Rattle.ledger.specs.declared.refused.LedgerRefused.{LedgerRefused}
use Rattle.ledger.specs.declared.refused.LedgerRefused.TheVariants.{DiskFault, LedgerFault}
use Rattle.ledger.specs.declared.refused.Part2.TheVariants.{Ledger}
use Rattle.ledger.specs.declared.walking.LastEntry.{LastEntry}
use Rattle.ledger.specs.declared.walking.End.{End}

-- these bytes are the payload of an entry
pub record IsPayload (bytes : List ℕ) : Type 0 where
  pub entry : Entry
  pub is : IsEntry entry
  pub spells : bytes ≡ payload_of entry

-- they are refused where they break
abbrev pub RefusedPayload : List ℕ → ℕ → LedgerRefused → Type 0
RefusedPayload bytes from DiskFault = ⊤
RefusedPayload bytes from (LedgerFault part at) = (part ≡ Ledger) × ((later : ℕ) × (at ≡ from + later) × BreaksPayload bytes later)

-- the last pair as the code has it
abbrev pub last_entry : Last → LastEntry
last_entry last = record { pair = last.pair; payload = last.payload; length = last.size; done = last.done }

-- an open pair stands in front of these bytes, which begin at a place
pub record WalkedPair (bytes : List ℕ) (place : ℕ) (found : LastEntry) : Type 0 where
  pub pair : Pair
  pub is : IsPair pair
  pub rest : List ℕ
  pub more : 2 ≤ length rest
  pub split : bytes ≡ spelled_pair pair ++ rest
  pub found_is : found ≡ record { pair = place; payload = place + 10; length = length (payload_of pair.entry); done = pair.done == 90 }

-- the gate in front is open, and its body breaks
pub record BrokenPair (bytes : List ℕ) (place at : ℕ) : Type 0 where
  pub done : ℕ
  pub body : List ℕ
  pub split : bytes ≡ 165 ∷ (done ∷ body)
  pub later : ℕ
  pub breaks : BreaksBody body later
  pub at_is : at ≡ place + 2 + later

abbrev pub RefusedPair : List ℕ → ℕ → LedgerRefused → Type 0
RefusedPair bytes place DiskFault = ⊤
RefusedPair bytes place (LedgerFault part at) = (part ≡ Ledger) × BrokenPair bytes place at

abbrev pub FindsPair : List ℕ → ℕ → Option LastEntry → Type 0
FindsPair bytes place None = IsClosed bytes
FindsPair bytes place (Some found) = WalkedPair bytes place found

-- where a ledger of these entries ends
pub record IsEnd (ledger : List ℕ) (end : End) : Type 0 where
  pub pairs : List Pair
  pub is : IsLedger ledger pairs
  pub entries : end.entries ≡ length pairs
  pub pair : end.pair ≡ length (front_of pairs)
  pub last : end.last ≡ option_map last_entry (last_of 16 pairs)

abbrev pub RefusedLedger : List ℕ → LedgerRefused → Type 0
RefusedLedger ledger DiskFault = ⊤
RefusedLedger ledger (LedgerFault part at) = (part ≡ Ledger) × BreaksLedger ledger at

-- a body stands in front of these bytes, or breaks
pub record WalkedBody (bytes : List ℕ) (size : ℕ) : Type 0 where
  pub entry : Entry
  pub is : IsEntry entry
  pub rest : List ℕ
  pub more : 2 ≤ length rest
  pub split : bytes ≡ body_of entry ++ rest
  pub size_is : size ≡ length (payload_of entry)
  pub low : size < 2 ^ 64

abbrev pub RefusedBody : List ℕ → ℕ → LedgerRefused → Type 0
RefusedBody bytes place DiskFault = ⊤
RefusedBody bytes place (LedgerFault part at) = (part ≡ Ledger) × ((later : ℕ) × (at ≡ place + later) × BreaksBody bytes later)

abbrev pub WalksBody : List ℕ → ℕ → Result ℕ LedgerRefused → Type 0
WalksBody bytes place result = MatchResult result (WalkedBody bytes) (RefusedBody bytes place)

-- some open pairs stand behind the mark, and what comes behind them isn't looked at yet
pub record SomePairs (file : List ℕ) (end : End) : Type 0 where
  pub pairs : List Pair
  pub fit : AllByRecursion IsPair pairs
  pub split : file ≡ front_of pairs ++ drop end.pair file
  pub entries : end.entries ≡ length pairs
  pub pair : end.pair ≡ length (front_of pairs)
  pub last : end.last ≡ option_map last_entry (last_of 16 pairs)
