-- The rows of a line, field list by field list.
use Rattle.std.proofs.Common.{◌≡◌, ℕ, zero, suc, ◌+◌, ◌<◌, List, [], ◌∷◌, ◌++◌, length, take, drop, get_or, map, Option, option_map, ap, sym, ◌∙◌, refl}
use Rattle.std.specs.List.{slice_get}
use Rattle.std.proofs.lemmas.List.{map-append, take_more, take-append-drop}
use Rattle.lp_model.specs.Reading.{Columns, Slots, Record, records_read, rows}
use Rattle.line_input.specs.declared.slot.Slot.{Slot}
use Rattle.line_input.specs.Taken.{slot_bytes, slots_of}
use Rattle.log_reading.specs.Found.{Met, found_of, held, met_of, row_met, slot_at}

abbrev pub founds : List ℕ → ℕ → Option Columns → List Slots → List Met
founds identity number columns slots = met_of identity (records_read number columns (rows slots))

pub met_of-append : (identity : List ℕ) (xs ys : List Record) → met_of identity (xs ++ ys) ≡ met_of identity xs ++ met_of identity ys
met_of-append identity xs ys = map-append _ xs ys

-- the rows of a log are met
pub met_found : (identity : List ℕ) (records : List Record) → map row_met (found_of identity records) ≡ met_of identity records
met_found identity [] = refl
met_found identity (row ∷ records) = ap (λ t. row_met (record { identity = identity; row = row }) ∷ t) (met_found identity records)

pub founds-append : (identity : List ℕ) (number : ℕ) (columns : Option Columns) (xs ys : List Slots)
    → founds identity number columns (xs ++ ys) ≡ founds identity number columns xs ++ founds identity number columns ys
founds-append identity number columns xs ys = ap (met_of identity) (map-append _ xs ys) ∙ met_of-append identity (records_read number columns (rows xs)) (records_read number columns (rows ys))

-- one field list more
pub founds_more : {X : Type 0} (s : X → Slots) (identity : List ℕ) (number : ℕ) (columns : Option Columns) (items : List X) (i : ℕ) (x : X) → i < length items → x ≡ get_or items i x
    → founds identity number columns (map s (take i items)) ++ founds identity number columns (s x ∷ []) ≡ founds identity number columns (map s (take (i + 1) items))
founds_more s identity number columns items i x lt is =
    sym (ap (λ t. founds identity number columns (map s t)) (take_more items i x lt ∙ ap (λ y. take i items ++ y ∷ []) (sym is))
    ∙ (ap (founds identity number columns) (map-append s (take i items) (x ∷ []))
    ∙ founds-append identity number columns (map s (take i items)) (s x ∷ [])))

-- those so far, one more and the rest
pub founds_split : {X : Type 0} (s : X → Slots) (identity : List ℕ) (number : ℕ) (columns : Option Columns) (items : List X) (i : ℕ) (x : X) → i < length items → x ≡ get_or items i x
    → (founds identity number columns (map s (take i items)) ++ founds identity number columns (s x ∷ [])) ++ founds identity number columns (map s (drop (i + 1) items)) ≡ founds identity number columns (map s items)
founds_split s identity number columns items i x lt is =
    ap (λ t. t ++ founds identity number columns (map s (drop (i + 1) items))) (founds_more s identity number columns items i x lt is)
    ∙ (sym (founds-append identity number columns (map s (take (i + 1) items)) (map s (drop (i + 1) items)))
    ∙ ap (founds identity number columns) (sym (map-append s (take (i + 1) items) (drop (i + 1) items)) ∙ ap (map s) (take-append-drop (i + 1) items)))

-- the field of a line at a place
pub field_at : (line : List ℕ) (fields : List Slot) (i : ℕ) → slot_at (slots_of line fields) i ≡ held (option_map (slot_bytes line) (slice_get fields i))
field_at line [] i = refl
field_at line (f ∷ fs) zero = refl
field_at line (f ∷ fs) (suc i) = field_at line fs i
