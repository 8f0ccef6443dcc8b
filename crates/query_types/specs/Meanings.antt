-- What words and expressions mean over a table, and of which kind they are.
use Rattle.std.specs.Prelude.{◌≡◌, ℕ, zero, suc, ℤ, Bool, true, false, ◌||◌, List, [], ◌∷◌, ◌++◌, map, if◌then◌else◌, Option, Some, None, Result, Ok, Err, ⊤}
use Rattle.std.specs.List.{find, position, slice_get}
use Rattle.std.specs.Str.{str_eq_ignore_ascii_case}
use Rattle.grammar.specs.Trees.{Tree, Trees, no_trees, more_trees, Whens, no_whens, more_whens, Otherwise, no_else, an_else, Placed, place_of, placed_text}
use Rattle.grammar.specs.Trees.{Tree as tree}
use Rattle.lp_values.specs.declared.kind.Kind.{Kind}
use Rattle.lp_values.specs.declared.kind.Kind.TheVariants as K
use Rattle.lp_values.specs.declared.part.Part.{Part}
use Rattle.lp_values.specs.declared.part.Part.TheVariants.{Date, Time, Both}
use Rattle.lp_values.specs.declared.value.Value.{Value}
use Rattle.lp_values.specs.declared.value.Value.TheVariants as V
use Rattle.lp_values.specs.Kinds.{kind_of}
use Rattle.lp_time.specs.declared.piece.Piece.{Piece}
use Rattle.lp_time.specs.Patterns.{pattern_in}
use Rattle.lp_time.specs.Readings.{pattern_part, seconds_in}
use Rattle.slot_reading.specs.Stamps.{stamp_value}
use Rattle.lp_functions.specs.declared.function.Function.{Function}
use Rattle.lp_functions.specs.declared.function.Function.TheVariants as f
use Rattle.lp_functions.specs.Fitting.{same_kind}
use Rattle.lp_functions.specs.Moments.{to_date, to_time}
use Rattle.lp_functions.specs.Table.{kind_of_call, pattern_place}
use Rattle.query_types.specs.declared.table.NamedKind.{NamedKind}
use Rattle.query_types.specs.declared.table.TableColumns.{TableColumns}
use Rattle.query_types.specs.declared.alias.Alias.{Alias}
use Rattle.query_types.specs.declared.callee.Callee.{Callee}
use Rattle.query_types.specs.declared.callee.Callee.TheVariants as C
use Rattle.query_types.specs.declared.fault.TypeFault.{TypeFault}
use Rattle.query_types.specs.declared.fault.TypeFault.TheVariants as F
use Rattle.query_types.specs.Calls.{callee, has_arity}
use Rattle.query_types.specs.Terms.{Maker, called, branched, written, read, stated, unlisted, Term, column, constant, made, Terms, no_terms, terms_of}

-- what a call answers of a meaning or the fault that stands in its place; want of memory is free
abbrev pub Answers : {A B : Type 0} → (A → B) → Result A TypeFault → Result B TypeFault → Type 0
Answers view (Ok a) wanted = wanted ≡ Ok (view a)
Answers view (Err F.Memory) wanted = ⊤
Answers view (Err (F.UnknownField at)) wanted = wanted ≡ Err (F.UnknownField at)
Answers view (Err (F.UnknownFunction at)) wanted = wanted ≡ Err (F.UnknownFunction at)
Answers view (Err (F.KindMismatch at)) wanted = wanted ≡ Err (F.KindMismatch at)
Answers view (Err (F.WrongArity at)) wanted = wanted ≡ Err (F.WrongArity at)
Answers view (Err (F.TooFewColumns at)) wanted = wanted ≡ Err (F.TooFewColumns at)
Answers view (Err (F.BadPattern at)) wanted = wanted ≡ Err (F.BadPattern at)
Answers view (Err (F.NotInSelect at)) wanted = wanted ≡ Err (F.NotInSelect at)
Answers view (Err (F.NotGrouped at)) wanted = wanted ≡ Err (F.NotGrouped at)
Answers view (Err (F.NestedAggregate at)) wanted = wanted ≡ Err (F.NestedAggregate at)
Answers view (Err (F.StarWithGroups at)) wanted = wanted ≡ Err (F.StarWithGroups at)

-- what follows where there is no fault yet
abbrev pub followed : {A B : Type 0} → Result A TypeFault → (A → Result B TypeFault) → Result B TypeFault
followed (Err fault) next = Err fault
followed (Ok a) next = next a

-- one and those behind it, or the first fault
abbrev pub added : {A : Type 0} → Result A TypeFault → Result (List A) TypeFault → Result (List A) TypeFault
added (Err fault) rest = Err fault
added (Ok first) (Err fault) = Err fault
added (Ok first) (Ok rest) = Ok (first ∷ rest)

-- some, and those behind them or the first fault
abbrev pub joined : {A : Type 0} → List A → Result (List A) TypeFault → Result (List A) TypeFault
joined front (Err fault) = Err fault
joined front (Ok rest) = Ok (front ++ rest)

-- the place of the first column of this name, ASCII case ignored
abbrev pub column_named : List NamedKind → List ℕ → Option ℕ
column_named columns name = position (λ c. str_eq_ignore_ascii_case c.name name) columns

abbrev pub kind_in : Option NamedKind → Kind
kind_in None = K.Any
kind_in (Some named) = named.kind

abbrev pub kind_at : List NamedKind → ℕ → Kind
kind_at columns k = kind_in (slice_get columns k)

abbrev pub kind_meant : List NamedKind → Term → Kind
kind_meant columns (column k) = kind_at columns k
kind_meant columns (constant value) = kind_of value
kind_meant columns (made kind by of) = kind

-- the first alias of this name, ASCII case ignored
abbrev pub alias_named : List Alias → List ℕ → Option Alias
alias_named aliases name = find (λ alias. str_eq_ignore_ascii_case alias.name name) aliases

-- a column that the table doesn't list
abbrev pub other : List ℕ → Term
other name = made K.Any (unlisted name) no_terms

-- a name that is no column of the table and no alias
abbrev pub other_means : Bool → ℕ → List ℕ → Result Term TypeFault
other_means true at name = Ok (other name)
other_means false at name = Err (F.UnknownField at)

abbrev pub alias_means : Option Alias → Bool → ℕ → List ℕ → Result Term TypeFault
alias_means (Some alias) others at name = alias.meaning
alias_means None others at name = other_means others at name

abbrev pub column_means : Option ℕ → Option Alias → Bool → ℕ → List ℕ → Result Term TypeFault
column_means (Some k) alias others at name = Ok (column k)
column_means None alias others at name = alias_means alias others at name

-- a word means the first column of that name, else the first alias, else a column of the others
abbrev pub word_means : TableColumns → List Alias → ℕ → List ℕ → Result Term TypeFault
word_means table aliases at name = column_means (column_named table.columns name) (alias_named aliases name) table.others at name

-- so much may be where it is so, else there is a fault
abbrev pub where_it_is : {A : Type 0} → Bool → TypeFault → A → Result A TypeFault
where_it_is is fault a = if is then Ok a else Err fault

-- what stands before parentheses, where it is known and takes so many arguments
abbrev pub known : ℕ → ℕ → Callee → Result Callee TypeFault
known at many C.Unknown = Err (F.UnknownFunction at)
known at many found = where_it_is (has_arity found many) (F.WrongArity at) found

abbrev pub count_trees : Trees → ℕ
count_trees no_trees = 0
count_trees (more_trees e es) = suc (count_trees es)

abbrev pub tree_at : ℕ → Trees → Option Tree
tree_at k no_trees = None
tree_at zero (more_trees e es) = Some e
tree_at (suc k) (more_trees e es) = tree_at k es

-- a text as a pattern, which is to stand there
abbrev pub pattern_read : ℕ → Result (List Piece) ℕ → Result (List Piece) TypeFault
pattern_read at (Ok pattern) = Ok pattern
pattern_read at (Err fault) = Err (F.BadPattern at)

abbrev pub pattern_of : ℕ → Option Placed → Result (List Piece) TypeFault
pattern_of at None = Err (F.BadPattern at)
pattern_of at (Some text) = pattern_read at (pattern_in text.text)

-- the pattern that an argument is
abbrev pub pattern_given : Option Tree → Result (Option (List Piece)) TypeFault
pattern_given None = Ok None
pattern_given (Some e) = followed (pattern_of (place_of e) (placed_text e)) (λ pattern. Ok (Some pattern))

-- the pattern among arguments of such kinds, where the function wants one
abbrev pub pattern_among : Option ℕ → Trees → Result (Option (List Piece)) TypeFault
pattern_among None es = Ok None
pattern_among (Some k) es = pattern_given (tree_at k es)

-- how a function makes its value, of which the pattern is known
abbrev pub maker : Function → Option (List Piece) → Maker
maker function None = called function
maker f.ToString (Some pattern) = written pattern
maker function (Some pattern) = read pattern

abbrev pub made_of_kind : ℕ → Option Kind → Maker → List Term → Result Term TypeFault
made_of_kind at None by terms = Err (F.KindMismatch at)
made_of_kind at (Some kind) by terms = Ok (made kind by (terms_of terms))

-- a function's call with arguments that mean this
abbrev pub function_means : List NamedKind → ℕ → Function → Trees → List Term → Result Term TypeFault
function_means columns at function es terms =
    let kinds = map (kind_meant columns) terms in
    followed (pattern_among (pattern_place function kinds) es) (λ pattern. made_of_kind at (kind_of_call function kinds) (maker function pattern) terms)

-- the moment of the run, its day or its time of day
abbrev pub moment_as : Part → Value → Value
moment_as Both value = value
moment_as Date value = to_date value
moment_as Time value = to_time value

-- a value that the query states, of the texts that say it
abbrev pub said : Value → List Term → Term
said value texts = made (kind_of value) (stated value) (terms_of texts)

-- a call with arguments that mean this; aggregates aren't built yet
abbrev pub call_means : List NamedKind → Value → ℕ → Callee → Trees → List Term → Result Term TypeFault
call_means columns moment at (C.Function function) es terms = function_means columns at function es terms
call_means columns moment at (C.Now part) es terms = Ok (said (moment_as part moment) [])
call_means columns moment at C.Aggregate es terms = Err (F.UnknownFunction at)
call_means columns moment at C.Unknown es terms = Err (F.UnknownFunction at)

-- a stamp that a value and a pattern say, where the one reads by the other
abbrev pub stamp_read : Placed → Placed → Part → Option ℤ → Result Term TypeFault
stamp_read value pattern part None = Err (F.BadPattern value.at)
stamp_read value pattern part (Some seconds) = Ok (said (stamp_value part seconds) (constant (V.Text value.text) ∷ constant (V.Text pattern.text) ∷ []))

-- TIMESTAMP
abbrev pub stamp_means : Placed → Placed → Result Term TypeFault
stamp_means value pattern = followed (pattern_of pattern.at (Some pattern)) (λ pieces. stamp_read value pattern (pattern_part pieces) (seconds_in pieces value.text))

-- two kinds of THEN and ELSE agree where they are equal or one is Any
abbrev pub agree : Kind → Kind → Bool
agree K.Any kind = true
agree kind K.Any = true
agree a b = same_kind a b

-- of two kinds that agree the one that isn't Any
abbrev pub sharper : Kind → Kind → Kind
sharper K.Any kind = kind
sharper kind b = kind

-- the kind of a CASE from its parts behind the subject, of whose values those before have such a kind
abbrev pub case_kind : List NamedKind → Kind → List Term → Kind
case_kind columns kind [] = kind
case_kind columns kind (value ∷ []) = sharper kind (kind_meant columns value)
case_kind columns kind (test ∷ value ∷ parts) = case_kind columns (sharper kind (kind_meant columns value)) parts

abbrev pub case_means : List NamedKind → Term → List Term → Term
case_means columns subject parts = made (case_kind columns K.Any parts) branched (terms_of (subject ∷ parts))

-- a WHEN and its THEN, and the parts behind them or the first fault
abbrev pub branch_added : {A : Type 0} → A → A → Result (List A) TypeFault → Result (List A) TypeFault
branch_added test value (Err fault) = Err fault
branch_added test value (Ok parts) = Ok (test ∷ value ∷ parts)

abbrev pub is_any : Kind → Bool
is_any K.Integer = false
is_any K.Real = false
is_any K.Text = false
is_any K.Stamp = false
is_any K.Any = true

abbrev pub is_number : Kind → Bool
is_number K.Integer = true
is_number K.Real = true
is_number K.Text = false
is_number K.Stamp = false
is_number K.Any = false

-- two kinds fit where they are equal, one is Any, or both are numbers
abbrev pub fits : Kind → Kind → Bool
fits K.Any b = true
fits K.Integer b = is_number b || is_any b
fits K.Real b = is_number b || is_any b
fits K.Text K.Text = true
fits K.Text b = is_any b
fits K.Stamp K.Stamp = true
fits K.Stamp b = is_any b

-- a right side whose kind has to fit the left one's
abbrev pub if_fits : List NamedKind → Kind → ℕ → Term → Result Term TypeFault
if_fits columns kind at term = where_it_is (fits kind (kind_meant columns term)) (F.KindMismatch at) term

-- a value of a CASE, whose kind has to agree with those before
abbrev pub if_agrees : List NamedKind → Kind → ℕ → Term → Result Term TypeFault
if_agrees columns kind at term = where_it_is (agree kind (kind_meant columns term)) (F.KindMismatch at) term

-- a CASE whose ELSE means this
abbrev pub case_ended : List NamedKind → Term → List Term → ℕ → Term → Result Term TypeFault
case_ended columns subject parts at last = followed (if_agrees columns (case_kind columns K.Any parts) at last) (λ x. Ok (case_means columns subject (parts ++ x ∷ [])))

abbrev mutual
  -- what an expression means at this moment of the run where these aliases are in force, or its first fault
  pub meant : TableColumns → Value → List Alias → Tree → Result Term TypeFault
  meant table moment aliases (tree.Integer at value) = Ok (constant (V.Int value))
  meant table moment aliases (tree.Real at value) = Ok (constant (V.Real (record { millionths = value })))
  meant table moment aliases (tree.Text at value) = Ok (constant (V.Text value))
  meant table moment aliases (tree.Null at) = Ok (constant V.Null)
  meant table moment aliases (tree.Timestamp at value pattern) = stamp_means value pattern
  meant table moment aliases (tree.Word at name) = word_means table aliases at name
  meant table moment aliases (tree.Call at name es) =
      followed (known at (count_trees es) (callee name)) (λ found. followed (all_meant table moment aliases es) (call_means table.columns moment at found es))
  meant table moment aliases (tree.CountAll at) = Err (F.UnknownFunction at)
  meant table moment aliases (tree.PropCountAll at) = Err (F.UnknownFunction at)
  meant table moment aliases (tree.Case at subject branches otherwise) =
      followed (meant table moment aliases subject) (λ x.
      followed (branches_meant table moment aliases (kind_meant table.columns x) K.Any branches) (λ parts.
      followed (else_meant table moment aliases (case_kind table.columns K.Any parts) otherwise) (λ last. Ok (case_means table.columns x (parts ++ last)))))

  pub all_meant : TableColumns → Value → List Alias → Trees → Result (List Term) TypeFault
  all_meant table moment aliases no_trees = Ok []
  all_meant table moment aliases (more_trees e es) = added (meant table moment aliases e) (all_meant table moment aliases es)

  -- each WHEN, whose kind has to fit the subject's, and its THEN, whose kind has to agree with those before
  pub branches_meant : TableColumns → Value → List Alias → Kind → Kind → Whens → Result (List Term) TypeFault
  branches_meant table moment aliases subject kind no_whens = Ok []
  branches_meant table moment aliases subject kind (more_whens test value branches) =
      followed (followed (meant table moment aliases test) (if_fits table.columns subject (place_of test))) (λ x.
      followed (followed (meant table moment aliases value) (if_agrees table.columns kind (place_of value))) (λ y.
      branch_added x y (branches_meant table moment aliases subject (sharper kind (kind_meant table.columns y)) branches)))

  -- ELSE, where it stands, whose kind has to agree with those before
  pub else_meant : TableColumns → Value → List Alias → Kind → Otherwise → Result (List Term) TypeFault
  else_meant table moment aliases kind no_else = Ok []
  else_meant table moment aliases kind (an_else value) = followed (followed (meant table moment aliases value) (if_agrees table.columns kind (place_of value))) (λ x. Ok (x ∷ []))
