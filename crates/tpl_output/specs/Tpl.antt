-- The text of rows by a template.
use Rattle.std.specs.Prelude.{◌≡◌, ℕ, Bool, true, false, List, [], ◌++◌, flat_map, ℤ}
use Rattle.lp_values.specs.declared.value.Value.{Value}
use Rattle.text_formats.specs.Lined.{lined}
use Rattle.tpl_output.specs.declared.filling.Filling.{Filling}
use Rattle.tpl_output.specs.declared.filling.Part.{Part}
use Rattle.tpl_output.specs.Marks.{filled, value_text}
use Rattle.tpl_output.specs.Sections.{Sections}

-- the header and the body for each row
abbrev pub rows_of : Sections → ℤ → List (List ℕ) → List (List Value) → List ℕ
rows_of sections moment names rows = lined (filled names moment false [] sections.header) (λ values. filled names moment true values sections.body) rows

-- and the footer
abbrev pub tpl_of : Sections → ℤ → Bool → List (List ℕ) → List (List Value) → List ℕ
tpl_of sections moment fresh names rows = rows_of sections moment names rows ++ filled names moment false [] sections.footer

abbrev pub part_text : List Value → Part → List ℕ
part_text values part = part.before ++ value_text values part.column

-- the text of values between what is always the same
abbrev pub rendered : Filling → List Value → List ℕ
rendered filling values = flat_map (part_text values) filling.parts ++ filling.tail

-- a template, and its sections as they are filled for some names
pub record TplState : Type 0 where
  pub sections : Sections
  pub moment : ℤ
  pub body : Filling
  pub footer : Filling

-- what is out is the text of the rows so far, apart from the footer
pub record IsTplText (state : TplState) (names : List (List ℕ)) (rows : List (List Value)) (so_far : List ℕ) : Type 0 where
  pub body : (values : List Value) → rendered state.body values ≡ filled names state.moment true values state.sections.body
  pub footer : rendered state.footer [] ≡ filled names state.moment false [] state.sections.footer
  pub out : so_far ≡ rows_of state.sections state.moment names rows
