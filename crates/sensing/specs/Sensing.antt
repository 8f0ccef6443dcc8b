-- What words and expressions of a query mean, where aggregates may stand and where they may not.
use Rattle.std.specs.Prelude.{ℕ, Bool, not, ◌||◌, ◌&&◌, List, [], ◌∷◌, ◌++◌, map, codes, if◌then◌else◌, Option, Some, None, Result, Ok, Err}
use Rattle.std.specs.List.{find}
use Rattle.std.specs.Str.{str_eq_ignore_ascii_case}
use Rattle.grammar.specs.Trees.{Tree, Trees, no_trees, more_trees, Whens, no_whens, more_whens, Otherwise, no_else, an_else, Placed, place_of}
use Rattle.grammar.specs.Trees.{Tree as tree}
use Rattle.lp_values.specs.declared.group.AggKind.{AggKind}
use Rattle.lp_values.specs.declared.group.AggKind.TheVariants as A
use Rattle.lp_values.specs.declared.kind.Kind.{Kind}
use Rattle.lp_values.specs.declared.kind.Kind.TheVariants as K
use Rattle.lp_values.specs.declared.value.Value.{Value}
use Rattle.lp_values.specs.declared.value.Value.TheVariants as V
use Rattle.lp_functions.specs.declared.function.Function.{Function}
use Rattle.lp_functions.specs.Table.{kind_of_call, pattern_place}
use Rattle.query_types.specs.declared.callee.Callee.{Callee}
use Rattle.query_types.specs.declared.callee.Callee.TheVariants as C
use Rattle.query_types.specs.declared.fault.TypeFault.{TypeFault}
use Rattle.query_types.specs.declared.fault.TypeFault.TheVariants as F
use Rattle.query_types.specs.declared.table.NamedKind.{NamedKind}
use Rattle.query_types.specs.declared.table.TableColumns.{TableColumns}
use Rattle.query_types.specs.Calls.{callee, is_counting}
use Rattle.query_types.specs.Meanings.{added, agree, branch_added, column_named, count_trees, fits, followed, known, maker, moment_as, other_means, pattern_among, said, sharper, stamp_means, where_it_is}
use Rattle.query_types.specs.Terms.{Maker, branched, column, constant}
use Rattle.sensing.specs.declared.alias.SenseAlias.{SenseAlias}
use Rattle.sensing.specs.declared.aggregates.Asked.{Asked}
use Rattle.sensing.specs.declared.aggregates.Asked.TheVariants as G
use Rattle.senses.specs.declared.sense.SenseForm.{SenseForm}
use Rattle.senses.specs.Senses.{Sense, field, fixed, formed, aggregate, grouping, senses_of, sense_of, kind_sensed, kind_of_case}

-- an alias as AS spells it, and what its expression means or its first fault: where aggregates may stand, and where they may not
pub record Named : Type 0 where
  pub name : List ℕ
  pub wide : Result Sense TypeFault
  pub narrow : Result Sense TypeFault

-- the same, less where it lies in memory
abbrev pub result_of : Result SenseForm TypeFault → Result Sense TypeFault
result_of result = followed result (λ form. Ok (sense_of form))

abbrev pub named_of : SenseAlias → Named
named_of alias = record { name = alias.name; wide = result_of alias.wide; narrow = result_of alias.narrow }

abbrev pub sense_named : Bool → Named → Result Sense TypeFault
sense_named wide named = if wide then named.wide else named.narrow

abbrev pub alias_senses : Bool → Option Named → Bool → ℕ → List ℕ → Result Sense TypeFault
alias_senses wide (Some named) others at name = sense_named wide named
alias_senses wide None others at name = followed (other_means others at name) (λ term. Ok (field at term))

abbrev pub column_senses : Bool → Option ℕ → Option Named → Bool → ℕ → List ℕ → Result Sense TypeFault
column_senses wide (Some k) named others at name = Ok (field at (column k))
column_senses wide None named others at name = alias_senses wide named others at name

-- the first alias of this name, ASCII case ignored
abbrev pub first_named : List Named → List ℕ → Option Named
first_named aliases name = find (λ named. str_eq_ignore_ascii_case named.name name) aliases

-- a word means the first column of that name, else the first alias, else a column of the others
abbrev pub word_senses : Bool → TableColumns → List Named → ℕ → List ℕ → Result Sense TypeFault
word_senses wide table aliases at name = column_senses wide (column_named table.columns name) (first_named aliases name) table.others at name

-- which of the aggregates and GROUPING a name is
abbrev pub asked : List ℕ → Asked
asked name =
    if str_eq_ignore_ascii_case name (codes "COUNT") then G.Count
    else if str_eq_ignore_ascii_case name (codes "SUM") then G.Sum
    else if str_eq_ignore_ascii_case name (codes "AVG") then G.Avg
    else if str_eq_ignore_ascii_case name (codes "MIN") then G.Min
    else if str_eq_ignore_ascii_case name (codes "MAX") then G.Max
    else G.Grouping

-- an aggregate may stand where aggregates may
abbrev pub if_wide : {A : Type 0} → Bool → ℕ → A → Result A TypeFault
if_wide wide at a = where_it_is wide (F.NestedAggregate at) a

-- what stands before parentheses, where it is known, takes so many arguments, and may stand
abbrev pub standing : Bool → ℕ → List ℕ → ℕ → Result Callee TypeFault
standing wide at name many = followed (known at many (callee name)) (if_wide (wide || not (is_counting name)) at)

-- of an argument at this place that has to be a number
abbrev pub of_number : List NamedKind → ℕ → Sense → Sense → Result Sense TypeFault
of_number columns at of sense = where_it_is (fits K.Integer (kind_sensed columns of)) (F.KindMismatch at) sense

-- an aggregate at a place, or GROUPING, of an argument at its place
abbrev pub asked_senses : List NamedKind → ℕ → Asked → ℕ → Sense → Result Sense TypeFault
asked_senses columns at G.Count place of = Ok (aggregate at A.Count of)
asked_senses columns at G.Sum place of = of_number columns place of (aggregate at (A.Sum (kind_sensed columns of)) of)
asked_senses columns at G.Avg place of = of_number columns place of (aggregate at (A.Avg (kind_sensed columns of)) of)
asked_senses columns at G.Min place of = Ok (aggregate at A.Min of)
asked_senses columns at G.Max place of = Ok (aggregate at A.Max of)
asked_senses columns at G.Grouping place of = Ok (grouping at of)

abbrev pub first_place : Trees → ℕ
first_place no_trees = 0
first_place (more_trees e es) = place_of e

abbrev pub aggregate_senses : List NamedKind → ℕ → List ℕ → Trees → List Sense → Result Sense TypeFault
aggregate_senses columns at name es (of ∷ []) = asked_senses columns at (asked name) (first_place es) of
aggregate_senses columns at name es senses = Err (F.WrongArity at)

abbrev pub formed_of_kind : ℕ → Option Kind → Maker → List Sense → Result Sense TypeFault
formed_of_kind at None by senses = Err (F.KindMismatch at)
formed_of_kind at (Some kind) by senses = Ok (formed kind by (senses_of senses))

-- a function's call with arguments that mean this
abbrev pub function_senses : List NamedKind → ℕ → Function → Trees → List Sense → Result Sense TypeFault
function_senses columns at function es senses =
    let kinds = map (kind_sensed columns) senses in
    followed (pattern_among (pattern_place function kinds) es) (λ pattern. formed_of_kind at (kind_of_call function kinds) (maker function pattern) senses)

-- a call with arguments that mean this
abbrev pub call_senses : List NamedKind → Value → ℕ → List ℕ → Trees → Callee → List Sense → Result Sense TypeFault
call_senses columns moment at name es (C.Function function) senses = function_senses columns at function es senses
call_senses columns moment at name es (C.Now part) senses = Ok (fixed (said (moment_as part moment) []))
call_senses columns moment at name es C.Aggregate senses = aggregate_senses columns at name es senses
call_senses columns moment at name es C.Unknown senses = Err (F.UnknownFunction at)

-- COUNT(*) and PROPCOUNT(*) have no argument: NULL stands there
abbrev pub all_rows : Bool → ℕ → AggKind → Result Sense TypeFault
all_rows wide at how = if_wide wide at (aggregate at how (fixed (constant V.Null)))

-- TIMESTAMP
abbrev pub stamp_senses : Placed → Placed → Result Sense TypeFault
stamp_senses value pattern = followed (stamp_means value pattern) (λ term. Ok (fixed term))

-- a right side whose kind has to fit the left one's
abbrev pub fitting_sense : List NamedKind → Kind → ℕ → Sense → Result Sense TypeFault
fitting_sense columns kind at sense = where_it_is (fits kind (kind_sensed columns sense)) (F.KindMismatch at) sense

-- a value of a CASE, whose kind has to agree with those before
abbrev pub agreeing_sense : List NamedKind → Kind → ℕ → Sense → Result Sense TypeFault
agreeing_sense columns kind at sense = where_it_is (agree kind (kind_sensed columns sense)) (F.KindMismatch at) sense

abbrev pub case_senses : List NamedKind → Sense → List Sense → Sense
case_senses columns subject parts = formed (kind_of_case columns K.Any parts) branched (senses_of (subject ∷ parts))

-- a CASE whose ELSE means this
abbrev pub case_closed : List NamedKind → Sense → List Sense → ℕ → Sense → Result Sense TypeFault
case_closed columns subject parts at last = followed (agreeing_sense columns (kind_of_case columns K.Any parts) at last) (λ x. Ok (case_senses columns subject (parts ++ x ∷ [])))

abbrev mutual
  -- what an expression means at this moment of the run where these aliases are in force, or its first fault; `wide` tells whether
  -- aggregates may stand, which they may not in one another
  pub sensed : Bool → TableColumns → Value → List Named → Tree → Result Sense TypeFault
  sensed wide table moment aliases (tree.Integer at value) = Ok (fixed (constant (V.Int value)))
  sensed wide table moment aliases (tree.Real at value) = Ok (fixed (constant (V.Real (record { millionths = value }))))
  sensed wide table moment aliases (tree.Text at value) = Ok (fixed (constant (V.Text value)))
  sensed wide table moment aliases (tree.Null at) = Ok (fixed (constant V.Null))
  sensed wide table moment aliases (tree.Timestamp at value pattern) = stamp_senses value pattern
  sensed wide table moment aliases (tree.Word at name) = word_senses wide table aliases at name
  sensed wide table moment aliases (tree.Call at name es) =
      followed (standing wide at name (count_trees es)) (λ found. followed (all_sensed (wide && not (is_counting name)) table moment aliases es) (call_senses table.columns moment at name es found))
  sensed wide table moment aliases (tree.CountAll at) = all_rows wide at A.CountAll
  sensed wide table moment aliases (tree.PropCountAll at) = all_rows wide at A.PropCount
  sensed wide table moment aliases (tree.Case at subject branches otherwise) =
      followed (sensed wide table moment aliases subject) (λ x.
      followed (branches_sensed wide table moment aliases (kind_sensed table.columns x) K.Any branches) (λ parts.
      followed (else_sensed wide table moment aliases (kind_of_case table.columns K.Any parts) otherwise) (λ last. Ok (case_senses table.columns x (parts ++ last)))))

  pub all_sensed : Bool → TableColumns → Value → List Named → Trees → Result (List Sense) TypeFault
  all_sensed wide table moment aliases no_trees = Ok []
  all_sensed wide table moment aliases (more_trees e es) = added (sensed wide table moment aliases e) (all_sensed wide table moment aliases es)

  -- each WHEN, whose kind has to fit the subject's, and its THEN, whose kind has to agree with those before
  pub branches_sensed : Bool → TableColumns → Value → List Named → Kind → Kind → Whens → Result (List Sense) TypeFault
  branches_sensed wide table moment aliases subject kind no_whens = Ok []
  branches_sensed wide table moment aliases subject kind (more_whens test value branches) =
      followed (followed (sensed wide table moment aliases test) (fitting_sense table.columns subject (place_of test))) (λ x.
      followed (followed (sensed wide table moment aliases value) (agreeing_sense table.columns kind (place_of value))) (λ y.
      branch_added x y (branches_sensed wide table moment aliases subject (sharper kind (kind_sensed table.columns y)) branches)))

  -- ELSE, where it stands, whose kind has to agree with those before
  pub else_sensed : Bool → TableColumns → Value → List Named → Kind → Otherwise → Result (List Sense) TypeFault
  else_sensed wide table moment aliases kind no_else = Ok []
  else_sensed wide table moment aliases kind (an_else value) = followed (followed (sensed wide table moment aliases value) (agreeing_sense table.columns kind (place_of value))) (λ x. Ok (x ∷ []))
