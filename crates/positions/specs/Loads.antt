-- What a load answers.
use Rattle.std.specs.Prelude.{◌≡◌, ℕ, List, map}
use Rattle.std.specs.Bool.{⊤}
use Rattle.std.specs.List.{AllByRecursion}
use Rattle.ledger_model.specs.Entries.{Entry, Span}
use Rattle.ledger_model.specs.Grammar.{span_layout}
use Rattle.ledger_model.specs.Ledgers.{Pair, IsLedger, BreaksLedger}
use Rattle.ledger.specs.declared.refused.Part2.TheVariants.{Ledger}
use Rattle.positions.specs.declared.fault.LoadFault.{LoadFault}
use Rattle.positions.specs.declared.fault.LoadFault.TheVariants.{DiskFault, LedgerFault, Memory}
use Rattle.positions.specs.Places.{Kept, Keeps}

-- spans in their form
abbrev pub AreSpans : List Span → Type 0
AreSpans spans = AllByRecursion span_layout.Fits spans

abbrev pub entries_of : List Pair → List Entry
entries_of pairs = map (λ pair. pair.entry) pairs

-- what the entries of a ledger keep
pub record KeepsLedger (file : List ℕ) (kept : Kept) : Type 0 where
  pub pairs : List Pair
  pub is : IsLedger file pairs
  pub keeps : Keeps (entries_of pairs) kept

-- why it isn't loaded: a damage is that of the ledger, at the place where it breaks, and where memory is wanted the ledger fits
abbrev pub RefusedLoad : List ℕ → LoadFault → Type 0
RefusedLoad file DiskFault = ⊤
RefusedLoad file (LedgerFault part at) = (part ≡ Ledger) × BreaksLedger file at
RefusedLoad file Memory = (pairs : List Pair) × IsLedger file pairs
