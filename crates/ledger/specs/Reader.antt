-- What a reader of a part of a ledger has before it.
use Rattle.std.specs.Prelude.{◌≡◌, ◌⊎◌, ℕ, ◌+◌, ◌-◌, ◌<◌, ◌≤◌, ◌^◌, List, ◌++◌, length, take, drop}
use Rattle.std.specs.Bool.{⊤}
use Rattle.std.specs.Prelude.{Result, MatchResult, IfErr, OnOk}
use Rattle.lp_model.specs.Outside.{Rose}
use Rattle.disk_model.specs.Disk.{DiskState, Works, Shows, Nothing}
use Rattle.ledger_model.specs.Layouts.{Layout, field}
use Rattle.ledger_model.specs.Numbers.{u8_bytes, u16_bytes, u32_bytes, text_of}
use Rattle.ledger.specs.declared.refused.LedgerRefused.{LedgerRefused}
use Rattle.ledger.specs.declared.refused.LedgerRefused.TheVariants.{DiskFault, LedgerFault}
use Rattle.ledger.specs.declared.refused.Part2.TheVariants.{Ledger}

-- the place of the next byte, the place where reading ends, and the bytes that are read ahead
pub record Position : Type 0 where
  pub at : ℕ
  pub to : ℕ
  pub ahead : List ℕ

-- the disk tells that a file holds these bytes
pub record Holds (disk : DiskState) (name file : List ℕ) : Type 0 where
  pub tells : disk.tells
  pub seen : disk.seen name ≡ file

-- it does, and what was read ahead stands there
pub record CanRead (disk : DiskState) (name file : List ℕ) (to : ℕ) (position : Position) : Type 0 where
  pub holds : Holds disk name file
  pub end : position.to ≡ to
  pub ahead : position.ahead ≡ take (length position.ahead) (drop position.at file)
  pub within : length position.ahead ≤ to - position.at

-- the bytes from a place on, up to another
abbrev pub left_of : List ℕ → ℕ → ℕ → List ℕ
left_of file to at = take (to - at) (drop at file)

-- no file changes
pub record Rests (old new : DiskState) : Type 0 where
  pub shows : old.tells → Shows Nothing old new
  pub crash : old.honest → Works Nothing old new

-- so many bytes of a buffer are those of a file from a place on: at least as many as are wanted, or all that fit or are left
pub record IsFilled (file : List ℕ) (at want count : ℕ) (room : List ℕ) : Type 0 where
  pub bytes : take count room ≡ take count (drop at file)
  pub within : count ≤ length (drop at file)
  pub enough : (want ≤ count) ⊎ (count ≡ length room) ⊎ (length (drop at file) ≤ count)

-- these bytes stand from one place up to another
pub record Stood (file : List ℕ) (to from at : ℕ) (bytes : List ℕ) : Type 0 where
  pub split : left_of file to from ≡ bytes ++ left_of file to at
  pub moved : at ≡ from + length bytes

-- a value stands there that fits
pub record IsRead {A : Type 0} (layout : Layout A) (file : List ℕ) (to from at : ℕ) (value : A) : Type 0 where
  pub fits : layout.Fits value
  pub stood : Stood file to from at (layout.spell value)

-- some value does
pub record SomeRead {A : Type 0} (layout : Layout A) (file : List ℕ) (to from at : ℕ) : Type 0 where
  pub value : A
  pub read : IsRead layout file to from at value

-- the first field that doesn't fit begins at a place of the file
pub record IsBroken {A : Type 0} (layout : Layout A) (file : List ℕ) (to from at : ℕ) : Type 0 where
  pub later : ℕ
  pub breaks : layout.Breaks (left_of file to from) later
  pub at_is : at ≡ from + later

-- a refusal for the bytes is one of the ledger, at the first field that doesn't fit
abbrev pub RefusedAt : {A : Type 0} → Layout A → List ℕ → ℕ → ℕ → LedgerRefused → Type 0
RefusedAt layout file to from DiskFault = ⊤
RefusedAt layout file to from (LedgerFault part at) = (part ≡ Ledger) × IsBroken layout file to from at

-- fewer bytes are left than are wanted
abbrev pub RefusedShort : List ℕ → ℕ → ℕ → ℕ → LedgerRefused → Type 0
RefusedShort file to from want DiskFault = ⊤
RefusedShort file to from want (LedgerFault part at) = (part ≡ Ledger) × (at ≡ from) × (length (left_of file to from) < want)

-- a value is read, or the bytes are refused
abbrev pub Reads : {A : Type 0} → Layout A → List ℕ → ℕ → ℕ → ℕ → Result A LedgerRefused → Type 0
Reads layout file to from at result = MatchResult result (IsRead layout file to from at) (RefusedAt layout file to from)

-- and the same of a call that only looks
abbrev pub Checks : {A B : Type 0} → Layout A → List ℕ → ℕ → ℕ → ℕ → Result B LedgerRefused → Type 0
Checks layout file to from at result = MatchResult result (λ _. SomeRead layout file to from at) (RefusedAt layout file to from)

-- a disk's fault is one that it counted
abbrev pub RoseFor : ℕ → ℕ → LedgerRefused → Type 0
RoseFor before now DiskFault = Rose before now
RoseFor before now (LedgerFault part at) = ⊤

-- a count of faults never falls, stays where the call is done, and a call is refused for the disk only where it rose
pub record HasReason {T : Type 0} (before now : ℕ) (result : Result T LedgerRefused) : Type 0 where
  pub later : before ≤ now
  pub same : OnOk result (now ≡ before)
  pub failed : IfErr result (RoseFor before now)

-- a call that reads a value of a layout, and one that only looks at one
abbrev pub Gives : {A : Type 0} → Layout A → DiskState → DiskState → List ℕ → Position → Position → Result A LedgerRefused → Type 0
Gives layout before now name old new result = (file : List ℕ) (to : ℕ) → CanRead before name file to old → CanRead now name file to new × Reads layout file to old.at new.at result

abbrev pub Looks : {A B : Type 0} → Layout A → DiskState → DiskState → List ℕ → Position → Position → Result B LedgerRefused → Type 0
Looks layout before now name old new result = (file : List ℕ) (to : ℕ) → CanRead before name file to old → CanRead now name file to new × Checks layout file to old.at new.at result

-- any numbers of 8, 16 and 32 bits
abbrev pub any_byte : Layout ℕ
any_byte = field (λ n. n < 256) u8_bytes

abbrev pub any_short : Layout ℕ
any_short = field (λ n. n < 2 ^ 16) u16_bytes

abbrev pub any_word : Layout ℕ
any_word = field (λ n. n < 2 ^ 32) u32_bytes

-- a text of at most so many bytes
abbrev pub text_within : ℕ → Layout (List ℕ)
text_within most = text_of (λ text. length text ≤ most)

-- a refusal for bytes, at the place where its field begins
abbrev pub moved_to : LedgerRefused → ℕ → LedgerRefused
moved_to DiskFault place = DiskFault
moved_to (LedgerFault part at) place = LedgerFault Ledger place
