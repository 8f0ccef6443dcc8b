-- What an expression means once its names are replaced, less where it lies in memory.
use Rattle.std.specs.Prelude.{ℕ, Bool, false, ◌||◌, ◌==◌, List, [], ◌∷◌}
use Rattle.std.specs.List.{list_any}
use Rattle.lp_values.specs.declared.kind.Kind.{Kind}
use Rattle.lp_values.specs.declared.value.Value.{Value}
use Rattle.lp_time.specs.declared.piece.Piece.{Piece}
use Rattle.lp_functions.specs.declared.function.Function.{Function}
use Rattle.query_types.specs.declared.form.Operation.{Operation}
use Rattle.query_types.specs.declared.form.Operation.TheVariants.{Call, Case, Write, Read, Stated, Unlisted}
use Rattle.query_types.specs.declared.form.Form.{Form, Column, Constant, Made', Row_of-Form, end_of-Form, more_of-Form}

-- how a value is made of others: by a function, by CASE, as a stamp written or a text read by a pattern; or a value that the query
-- states, a stamp of the two texts of a TIMESTAMP, the moment of the run of nothing; or NULL, by the name of a column that the table
-- doesn't list
pub data Maker : Type 0 where
  called : Function → Maker
  branched : Maker
  written : List Piece → Maker
  read : List Piece → Maker
  stated : Value → Maker
  unlisted : List ℕ → Maker

mutual
  -- a column of the table, a constant, or what is made of others, and of which kind it is
  pub data Term : Type 0 where
    column : ℕ → Term
    constant : Value → Term
    made : Kind → Maker → Terms → Term

  pub data Terms : Type 0 where
    no_terms : Terms
    more_terms : Term → Terms → Terms

abbrev pub terms_of : List Term → Terms
terms_of [] = no_terms
terms_of (term ∷ terms) = more_terms term (terms_of terms)

abbrev pub maker_of : Operation → Maker
maker_of (Call function) = called function
maker_of Case = branched
maker_of (Write pattern) = written pattern.value
maker_of (Read pattern) = read pattern.value
maker_of (Stated value) = stated value
maker_of (Unlisted name) = unlisted name

abbrev mutual
  pub term_of : Form → Term
  term_of (Column k) = column k
  term_of (Constant value) = constant value
  term_of (Made' kind by shape all) = made kind (maker_of by) (terms_in all)

  pub terms_in : {m : _} → Row_of-Form m → Terms
  terms_in end_of-Form = no_terms
  terms_in (more_of-Form form rest) = more_terms (term_of form) (terms_in rest)

-- whether a term has the column at a place
abbrev mutual
  pub has_column : ℕ → Term → Bool
  has_column k (column n) = n == k
  has_column k (constant value) = false
  has_column k (made kind by of) = have_column k of

  pub have_column : ℕ → Terms → Bool
  have_column k no_terms = false
  have_column k (more_terms term terms) = has_column k term || have_column k terms

abbrev pub any_has_column : ℕ → List Term → Bool
any_has_column k terms = list_any (has_column k) terms
