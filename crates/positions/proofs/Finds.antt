-- What is read is what stands there.
use Rattle.std.proofs.Common.{◌≡◌, ℕ, ◌<◌, ◌^◌, List, ◌++◌, length, Result, Ok, Err, ◌∙◌}
use Rattle.std.specs.Result.{MatchResult}
use Rattle.disk_model.specs.Disk.{DiskState}
use Rattle.ledger_model.specs.Layouts.{Layout}
use Rattle.ledger_model.specs.Numbers.{text_bytes}
use Rattle.ledger_model.proofs.Laws.{IsLawful}
use Rattle.ledger_model.proofs.Fields.{text_law}
use Rattle.ledger.specs.declared.refused.LedgerRefused.{LedgerRefused}
use Rattle.ledger.specs.declared.refused.LedgerRefused.TheVariants.{DiskFault, LedgerFault}
use Rattle.ledger.specs.declared.refused.TextRefused.{TextRefused}
use Rattle.ledger.specs.declared.refused.TextRefused.TheVariants as Text
use Rattle.ledger.specs.Reader.{Position, CanRead, Gives}
use Rattle.ledger.specs.Placing.{IsOfDisk}
use Rattle.ledger.specs.Texts.{ReadsText, any_text}
use Rattle.ledger.specs.Texts.{IsNoFault as IsNoTextFault}
use Rattle.ledger.proofs.Finding.{read_it, not_refused}
use Rattle.positions.specs.Faults.{of_ledger, of_text, IsNoFault}
use Rattle.positions.specs.Stands.{Stands}

pub given : {A : Type 0} (layout : Layout A) → IsLawful layout → (before now : DiskState) (name : List ℕ) (to : ℕ) (old new : Position) (value : A) (more : List ℕ) (r : Result A LedgerRefused) → Gives layout before now name old new r → layout.Fits value
    → Stands before name to old (layout.spell value ++ more) → MatchResult r (λ found. (found ≡ value) × Stands now name to new more) IsOfDisk
given layout law before now name to old new value more (Ok found) gives fits s =
    let g = gives s.file to s.can in
    let both = read_it layout law s.file to old.at new.at found value more fits s.left g.1 in
    (both.0, record { file = s.file; can = g.0; left = both.1 })
given layout law before now name to old new value more (Err DiskFault) gives fits s = tt
given layout law before now name to old new value more (Err (LedgerFault part at)) gives fits s = not_refused layout law s.file to old.at value more fits s.left part at (gives s.file to s.can).1

pub given_text : (before now : DiskState) (name : List ℕ) (to : ℕ) (old new : Position) (text more : List ℕ) (r : Result (List ℕ) TextRefused) → ((file : List ℕ) (end : ℕ) → CanRead before name file end old → CanRead now name file end new × ReadsText file end old.at new.at r) → length text < 2 ^ 32
    → Stands before name to old (text_bytes text ++ more) → MatchResult r (λ found. (found ≡ text) × Stands now name to new more) IsNoTextFault
given_text before now name to old new text more (Ok found) reads short s =
    let g = reads s.file to s.can in
    let both = read_it any_text (text_law _) s.file to old.at new.at found text more (short, tt) s.left g.1 in
    (both.0, record { file = s.file; can = g.0; left = both.1 })
given_text before now name to old new text more (Err Text.DiskFault) reads short s = tt
given_text before now name to old new text more (Err (Text.LedgerFault part at)) reads short s = not_refused any_text (text_law _) s.file to old.at text more (short, tt) s.left part at (reads s.file to s.can).1
given_text before now name to old new text more (Err Text.Memory) reads short s = tt

-- the same bytes
pub stands_as : (disk : DiskState) (name : List ℕ) (to : ℕ) (position : Position) (xs ys : List ℕ) → xs ≡ ys → Stands disk name to position xs → Stands disk name to position ys
stands_as disk name to position xs ys same s = record { file = s.file; can = s.can; left = s.left ∙ same }

-- faults that aren't of the bytes stay so
pub from_ledger : (refused : LedgerRefused) → IsOfDisk refused → IsNoFault (of_ledger refused)
from_ledger DiskFault is = tt
from_ledger (LedgerFault part at) is = is

pub from_text : (refused : TextRefused) → IsNoTextFault refused → IsNoFault (of_text refused)
from_text Text.DiskFault is = tt
from_text (Text.LedgerFault part at) is = is
from_text Text.Memory is = tt
