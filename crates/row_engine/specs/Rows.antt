-- What a plan gives in a row: values, and the truth of conditions.
use Rattle.std.specs.Prelude.{ℕ, Bool, true, false, List, [], ◌∷◌, map, get_or, if◌then◌else◌, Option, Some, None}
use Rattle.std.specs.Str.{chars}
use Rattle.in_set.specs.Facts.{found}
use Rattle.lp_values.specs.declared.comparison.Compare.TheVariants as how
use Rattle.lp_values.specs.declared.truth.Truth.{Truth}
use Rattle.lp_values.specs.declared.truth.Truth.TheVariants.{Yes, No, Unknown}
use Rattle.lp_values.specs.declared.value.Value.{Value}
use Rattle.lp_values.specs.declared.value.Value.TheVariants as V
use Rattle.lp_values.specs.Comparing.{compared as comparison, truth_of}
use Rattle.lp_values.specs.Truths.{both as and_both, either as or_either, opposite as not_it}
use Rattle.lp_functions.specs.Applied.{applied}
use Rattle.lp_functions.specs.Moments.{read_as}
use Rattle.lp_functions.specs.Texts.{written_as}
use Rattle.query_types.specs.declared.form.Form.{Form}
use Rattle.query_types.specs.Terms.{Maker, called, branched, written, read, stated, unlisted, Term, column, constant, made, Terms, no_terms, more_terms, term_of}
use Rattle.query_types.specs.Conditions.{Filter, either, both, opposite, compared, null, like, between, within, contained}
use Rattle.row_engine.specs.Likeness.{is_like}

abbrev pub is_yes : Truth → Bool
is_yes Yes = true
is_yes No = false
is_yes Unknown = false

-- what stands behind a CASE's subject: the first THEN whose WHEN compares equal, else ELSE, else NULL
abbrev pub branch_of : Value → List Value → Value
branch_of subject [] = V.Null
branch_of subject (otherwise ∷ []) = otherwise
branch_of subject (test ∷ value ∷ parts) = if is_yes (comparison how.Equal subject test) then value else branch_of subject parts

abbrev pub case_of : List Value → Value
case_of [] = V.Null
case_of (subject ∷ parts) = branch_of subject parts

abbrev pub first_of : (Value → Value) → List Value → Value
first_of give [] = V.Null
first_of give (value ∷ values) = give value

-- what is made of values
abbrev pub made_by : Maker → List Value → Value
made_by (called function) values = applied function values
made_by branched values = case_of values
made_by (written pattern) values = first_of (written_as pattern) values
made_by (read pattern) values = first_of (read_as pattern) values
made_by (stated value) values = value
made_by (unlisted name) values = V.Null

abbrev mutual
  -- a column is its value in the row
  pub value_in : List Value → Term → Value
  value_in row (column k) = get_or row k V.Null
  value_in row (constant value) = value
  value_in row (made kind by of) = made_by by (values_in row of)

  pub values_in : List Value → Terms → List Value
  values_in row no_terms = []
  values_in row (more_terms term terms) = value_in row term ∷ values_in row terms

abbrev pub forms_in : List Value → List Form → List Value
forms_in row forms = map (λ form. value_in row (term_of form)) forms

abbrev pub is_null : Value → Bool
is_null V.Null = true
is_null (V.Int number) = false
is_null (V.Real number) = false
is_null (V.Text text) = false
is_null (V.Stamp stamp) = false

-- NOT before LIKE, BETWEEN, IN and NULL
abbrev pub turned : Bool → Truth → Truth
turned false truth = truth
turned true truth = not_it truth

-- the OR of the equalities with some meanings, No for none
abbrev pub among : List Value → Value → List Term → Truth
among row value [] = No
among row value (item ∷ items) = or_either (comparison how.Equal value (value_in row item)) (among row value items)

-- whether a text is like a pattern; NULL and what is no text is unknown
abbrev pub likeness : Value → List ℕ → Truth
likeness (V.Text text) pattern = truth_of (is_like (chars pattern) (chars text))
likeness value pattern = Unknown

-- the truth of a condition in a row
abbrev pub truth_in : List Value → Filter → Truth
truth_in row (either a b) = or_either (truth_in row a) (truth_in row b)
truth_in row (both a b) = and_both (truth_in row a) (truth_in row b)
truth_in row (opposite a) = not_it (truth_in row a)
truth_in row (compared sign left right) = comparison sign (value_in row left) (value_in row right)
truth_in row (null value negated) = turned negated (truth_of (is_null (value_in row value)))
truth_in row (like value pattern negated) = turned negated (likeness (value_in row value) pattern)
truth_in row (between value low high negated) =
    turned negated (and_both (comparison how.MoreEqual (value_in row value) (value_in row low)) (comparison how.LessEqual (value_in row value) (value_in row high)))
truth_in row (within value items negated) = turned negated (among row (value_in row value) items)
truth_in row (contained value values negated) = turned negated (found values (value_in row value))

-- WHERE keeps the rows for which its condition is Yes; without WHERE each row is kept
abbrev pub keeps : Option Filter → List Value → Bool
keeps None row = true
keeps (Some filter) row = is_yes (truth_in row filter)

-- the output row
abbrev pub selected_in : List Value → List Term → List Value
selected_in row items = map (value_in row) items
