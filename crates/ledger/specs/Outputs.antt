-- Reading the outputs of an entry, one after another.
use Rattle.std.specs.Prelude.{◌≡◌, ℕ, List, ◌++◌, take, drop, ℤ}
use Rattle.disk_model.specs.Disk.{DiskState}
use Rattle.ledger_model.specs.Entries.{Entry, Span, Kept, Output}
use Rattle.ledger_model.specs.Layouts.{Layout, behind, spelled}
use Rattle.ledger_model.specs.Numbers.{text_of, number}
use Rattle.ledger_model.specs.Grammar.{IsEntry, payload_of, name_field, texts_layout, kept_layout, output_layout}
use Rattle.ledger.specs.Reader.{Position, CanRead, IsRead, left_of, any_byte, any_word}
use Rattle.ledger.specs.Counted.{any_signed}
use Rattle.ledger.specs.Passing.{IsText}
use Rattle.ledger.specs.Placing.{place_layout}
use Rattle.ledger.specs.declared.passing.TextKind.TheVariants.{Any}

-- a form, a moment and an input text, whatever they are
abbrev pub loose_head : Layout (ℕ × (ℤ × List ℕ))
loose_head = behind any_byte (λ form. behind any_signed (λ moment. text_of (IsText Any)))

-- and the texts, the spans and the lists behind them
abbrev pub loose_front : Layout ((ℕ × (ℤ × List ℕ)) × ((List (List ℕ) × (List ℕ × List ℕ)) × (List Span × List (List Kept))))
loose_front = behind loose_head (λ head. behind texts_layout (λ texts. kept_layout))

-- what stands before the outputs, the stage's length and their number
abbrev pub outputs_front : Layout (((ℕ × (ℤ × List ℕ)) × ((List (List ℕ) × (List ℕ × List ℕ)) × (List Span × List (List Kept)))) × (ℕ × ℕ))
outputs_front = behind loose_front (λ front. behind number (λ staged. any_word))

-- an output, whatever the names of others
abbrev pub loose_output : Layout (List ℕ × (ℕ × (ℕ × ℕ)))
loose_output = behind name_field (λ name. place_layout)

-- the disk tells that the ledger holds an entry's payload from one place up to another
pub record HoldsEntry (disk : DiskState) (ledger : List ℕ) (from to : ℕ) (entry : Entry) : Type 0 where
  pub tells : disk.tells
  pub is_entry : IsEntry entry
  pub stands : left_of (disk.seen ledger) to from ≡ payload_of entry

-- how far a reader has come, the stage's length and the number of outputs
pub record Cursor : Type 0 where
  pub position : Position
  pub staged : ℕ
  pub count : ℕ

-- all up to the outputs stands from a place on, and the reader behind it
pub record FindsOutputs (file : List ℕ) (to from : ℕ) (cursor : Cursor) : Type 0 where
  pub front : (ℕ × (ℤ × List ℕ)) × ((List (List ℕ) × (List ℕ × List ℕ)) × (List Span × List (List Kept)))
  pub read : IsRead outputs_front file to from cursor.position.at (front, (cursor.staged, cursor.count))

-- the four parts of an output
abbrev pub parts_of : Output → List ℕ × (ℕ × (ℕ × ℕ))
parts_of output = (output.name, (output.base, (output.size, output.last)))

-- it stands before the outputs of an entry from one of them on
pub record StandsBefore (disk : DiskState) (ledger : List ℕ) (entry : Entry) (k : ℕ) (cursor : Cursor) : Type 0 where
  pub is_entry : IsEntry entry
  pub file : List ℕ
  pub to : ℕ
  pub can : CanRead disk ledger file to cursor.position
  pub more : List ℕ
  pub left : left_of file to cursor.position.at ≡ spelled output_layout (take k entry.outputs) (drop k entry.outputs) ++ more
