-- The first line: the header, or the first row.
use Rattle.std.proofs.Common.{◌≡◌, ℕ, Bool, true, false, cond, nat_le, List, [], ◌∷◌, length, map, take, Option, Some, refl, sym, ap, ◌∙◌, inl, inr, rules, tests}
use Rattle.std.proofs.lemmas.Bool.{cases_Bool}
use Rattle.lp_model.specs.Reading.{Columns, Reading, bad, rows}
use Rattle.line_input.specs.declared.slot.Slot.{Slot}
use Rattle.line_input.specs.Taken.{slots_of}
use Rattle.delimited_input.specs.declared.options.DelimitedOptions.{DelimitedOptions}
use Rattle.delimited_input.specs.Cuts.{IsCut}
use Rattle.delimited_input.specs.Kept.{bytes_or_none, text_of, texts_of}
use Rattle.delimited_input.specs.Lines.{is_empty, slot_of, first_reading}
use Rattle.delimited_input.specs.Names.{made_names, header_names}
use Rattle.delimited_input.specs.Setting.{first_columns}
use Rattle.delimited_input.proofs.Rows.{cut_whole}

bytes_kept : (field : List ℕ) → bytes_or_none (slot_of field) ≡ field
bytes_kept [] = refl
bytes_kept (b ∷ bs) = let filled : is_empty (b ∷ bs) ≡ false = search (rules, tests) in rw filled refl

all_kept : (fields : List (List ℕ)) → map bytes_or_none (map slot_of fields) ≡ fields
all_kept [] = refl
all_kept (field ∷ fields) = let first = bytes_kept field in let rest = all_kept fields in cc

texts_are : (line : List ℕ) (slots : List Slot) → texts_of line slots ≡ map bytes_or_none (slots_of line slots)
texts_are line [] = refl
texts_are line (slot ∷ slots) = ap (λ (t : List (List ℕ)). text_of line slot ∷ t) (texts_are line slots)

-- the bytes of the fields that were cut
texts_kept : (line : List ℕ) (slots : List Slot) (fields : List (List ℕ)) → slots_of line slots ≡ map slot_of fields → texts_of line slots ≡ fields
texts_kept line slots fields e = texts_are line slots ∙ (ap (map bytes_or_none) e ∙ all_kept fields)

module _ (options : DelimitedOptions) (line : List ℕ) (fields : List (List ℕ)) (row : List Slot) (all : Bool) (is : IsCut line fields 1024 row all) where
  pub header_columns : (old new : Option Columns) → options.header_row ≡ true → new ≡ Some (header_names (texts_of line row)) → new ≡ first_columns options fields old
  header_columns old new header e =
      rw header (e ∙ ap (λ (texts : List (List ℕ)). Some (header_names texts)) (texts_kept line row (take 1024 fields) is.kept))

  pub row_first : (reading : Reading) → options.header_row ≡ false → reading ≡ cond all (rows (slots_of line row ∷ [])) bad → reading ≡ first_reading options fields
  row_first reading rows_only e =
      elim (cases_Bool all) [
        | inl whole ↦
            let fits : nat_le (length fields) 1024 ≡ true = sym is.whole ∙ whole in
            let parts = cut_whole line fields 1024 row all is whole in
            rw (rows_only, fits) (e ∙ (ap (λ (b : Bool). cond b (rows (slots_of line row ∷ [])) bad) whole ∙ ap (λ slots. rows (slots ∷ [])) parts.1))
        | inr more ↦
            let long : nat_le (length fields) 1024 ≡ false = sym is.whole ∙ more in
            rw (rows_only, long) (e ∙ ap (λ (b : Bool). cond b (rows (slots_of line row ∷ [])) bad) more)
      ]

  pub row_columns : (old new : Option Columns) → options.header_row ≡ false → new ≡ cond all (Some (made_names (length row))) old → new ≡ first_columns options fields old
  row_columns old new rows_only e =
      elim (cases_Bool all) [
        | inl whole ↦
            let fits : nat_le (length fields) 1024 ≡ true = sym is.whole ∙ whole in
            let parts = cut_whole line fields 1024 row all is whole in
            rw (rows_only, fits) (e ∙ (ap (λ (b : Bool). cond b (Some (made_names (length row))) old) whole ∙ ap (λ n. Some (made_names n)) parts.2))
        | inr more ↦
            let long : nat_le (length fields) 1024 ≡ false = sym is.whole ∙ more in
            rw (rows_only, long) (e ∙ ap (λ (b : Bool). cond b (Some (made_names (length row))) old) more)
      ]
