-- Records that were kept, one after the other.
use Rattle.std.proofs.Common.{◌≡◌, ℕ, ◌+◌, ◌<◌, List, [], ◌∷◌, ◌++◌, length, take, drop, get_or, map, ap, sym, ◌∙◌, refl}
use Rattle.std.proofs.lemmas.List.{map-append, take_more, take-append-drop}
use Rattle.line_input.specs.Taken.{slots_of}
use Rattle.log_reading.specs.Found.{Found, rows_met}
use Rattle.column_kinds.specs.Kept.{found_in}
use Rattle.column_kinds.specs.declared.kept.KeptRow.{KeptRow}
use Rattle.column_kinds.specs.Kept.{met_in}

-- the record of a kept row, of which this is the line
abbrev pub found_on : KeptRow → List ℕ → Found
found_on kept line = record { identity = kept.identity; row = record { number = kept.number; slots = slots_of line kept.fields; columns = kept.columns } }

-- one record more
pub kept_more : (rows : List KeptRow) (i : ℕ) (row : KeptRow) → i < length rows → row ≡ get_or rows i row → map met_in (take i rows) ++ met_in row ∷ [] ≡ map met_in (take (i + 1) rows)
kept_more rows i row lt is =
    sym (ap (map met_in) (take_more rows i row lt ∙ ap (λ r. take i rows ++ r ∷ []) (sym is)) ∙ map-append met_in (take i rows) (row ∷ []))

-- those so far, one more and the rest
pub kept_split : (rows : List KeptRow) (i : ℕ) (row : KeptRow) → i < length rows → row ≡ get_or rows i row → (map met_in (take i rows) ++ met_in row ∷ []) ++ map met_in (drop (i + 1) rows) ≡ map met_in rows
kept_split rows i row lt is =
    ap (λ t. t ++ map met_in (drop (i + 1) rows)) (kept_more rows i row lt is)
    ∙ (sym (map-append met_in (take (i + 1) rows) (drop (i + 1) rows)) ∙ ap (map met_in) (take-append-drop (i + 1) rows))

-- the rows of what is met again
pub rows_kept : (rows : List KeptRow) → rows_met (map met_in rows) ≡ map found_in rows
rows_kept [] = refl
rows_kept (row ∷ rows) = ap (λ t. found_in row ∷ t) (rows_kept rows)
