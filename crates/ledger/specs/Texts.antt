-- Texts that are read whole.
use Rattle.std.specs.Prelude.{◌≡◌, ℕ, ◌≤◌, List, ◌++◌, length, Result, MatchResult, IfErr, OnOk}
use Rattle.std.specs.Bool.{⊤}
use Rattle.lp_model.specs.Outside.{Rose}
use Rattle.ledger_model.specs.Layouts.{Layout}
use Rattle.ledger_model.specs.Numbers.{text_of}
use Rattle.ledger.specs.declared.refused.LedgerRefused.{LedgerRefused}
use Rattle.ledger.specs.declared.refused.LedgerRefused.TheVariants.{DiskFault, LedgerFault}
use Rattle.ledger.specs.declared.refused.TextRefused.{TextRefused}
use Rattle.ledger.specs.declared.refused.TextRefused.TheVariants as Text
use Rattle.ledger.specs.declared.refused.Part2.TheVariants.{Ledger}
use Rattle.ledger.specs.Reader.{Stood, IsRead, SomeRead, IsBroken, left_of}

-- any bytes behind their length
abbrev pub any_text : Layout (List ℕ)
any_text = text_of (λ text. ⊤)

-- so many of the bytes left were added to others
pub record Added (file : List ℕ) (to from at : ℕ) (old new : List ℕ) (count : ℕ) : Type 0 where
  pub bytes : List ℕ
  pub stood : Stood file to from at bytes
  pub size_is : length bytes ≡ count
  pub new_is : new ≡ old ++ bytes

-- some were, or none are left
pub record AddedSome (file : List ℕ) (to from at : ℕ) (old new : List ℕ) (count : ℕ) : Type 0 where
  pub added : Added file to from at old new count
  pub ends : count ≡ 0 → length (left_of file to from) ≡ 0

-- the refusal of a call that takes memory
abbrev pub text_refused : LedgerRefused → TextRefused
text_refused DiskFault = Text.DiskFault
text_refused (LedgerFault part at) = Text.LedgerFault part at

-- a refusal for the bytes is one of the ledger, at the first field that doesn't fit; where memory is wanted a value stands there whole
abbrev pub TextRefusedAt : {A : Type 0} → Layout A → List ℕ → ℕ → ℕ → TextRefused → Type 0
TextRefusedAt layout file to from Text.DiskFault = ⊤
TextRefusedAt layout file to from (Text.LedgerFault part at) = (part ≡ Ledger) × IsBroken layout file to from at
TextRefusedAt layout file to from Text.Memory = (at : ℕ) × SomeRead layout file to from at

-- a text is read, or the bytes are refused, or memory is wanted
abbrev pub ReadsText : List ℕ → ℕ → ℕ → ℕ → Result (List ℕ) TextRefused → Type 0
ReadsText file to from at result = MatchResult result (IsRead any_text file to from at) (TextRefusedAt any_text file to from)

-- a disk's fault is one that it counted, and where memory is wanted it counted none
abbrev pub TextRoseFor : ℕ → ℕ → TextRefused → Type 0
TextRoseFor before now Text.DiskFault = Rose before now
TextRoseFor before now (Text.LedgerFault part at) = ⊤
TextRoseFor before now Text.Memory = now ≡ before

-- a count of faults never falls, stays where the call is done, and a call is refused for the disk only where it rose
pub record HasTextReason {T : Type 0} (before now : ℕ) (result : Result T TextRefused) : Type 0 where
  pub later : before ≤ now
  pub same : OnOk result (now ≡ before)
  pub failed : IfErr result (TextRoseFor before now)

-- the refusal is none of the bytes
abbrev pub IsNoFault : TextRefused → Type 0
IsNoFault Text.DiskFault = ⊤
IsNoFault (Text.LedgerFault part at) = ⊥
IsNoFault Text.Memory = ⊤
