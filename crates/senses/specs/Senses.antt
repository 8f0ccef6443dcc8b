-- What an expression means once its names are replaced, with the places of its fields, aggregates and GROUPINGs.
use Rattle.std.specs.Prelude.{ℕ, Bool, true, false, ◌&&◌, List, [], ◌∷◌, map}
use Rattle.std.specs.List.{list_any}
use Rattle.lp_values.specs.declared.group.AggKind.{AggKind}
use Rattle.lp_values.specs.declared.group.AggKind.TheVariants as A
use Rattle.lp_values.specs.declared.kind.Kind.{Kind}
use Rattle.lp_values.specs.declared.kind.Kind.TheVariants as K
use Rattle.query_types.specs.declared.table.NamedKind.{NamedKind}
use Rattle.query_types.specs.Meanings.{kind_meant, sharper}
use Rattle.query_types.specs.Orders.{same_maker, same_term}
use Rattle.query_types.specs.Terms.{Maker, maker_of, Term}
use Rattle.senses.specs.declared.sense.SenseForm.{SenseForm, Field, Fixed, Formed', Aggregate', Grouping', Row_of-SenseForm, end_of-SenseForm, more_of-SenseForm}
use Rattle.senses.specs.declared.sense.SenseList.{SenseList}

mutual
  -- a field at a place; what is the same in each row; what is made of others, and of which kind it is; an aggregate at a place, of
  -- its argument; or GROUPING at a place
  pub data Sense : Type 0 where
    field : ℕ → Term → Sense
    fixed : Term → Sense
    formed : Kind → Maker → Senses → Sense
    aggregate : ℕ → AggKind → Sense → Sense
    grouping : ℕ → Sense → Sense

  pub data Senses : Type 0 where
    no_senses : Senses
    more_senses : Sense → Senses → Senses

abbrev pub senses_of : List Sense → Senses
senses_of [] = no_senses
senses_of (sense ∷ senses) = more_senses sense (senses_of senses)

-- the same, less where it lies in memory
abbrev mutual
  pub sense_of : SenseForm → Sense
  sense_of (Field at meaning) = field at meaning
  sense_of (Fixed meaning) = fixed meaning
  sense_of (Formed' kind by shape all) = formed kind (maker_of by) (senses_in all)
  sense_of (Aggregate' at how p of) = aggregate at how (sense_of of)
  sense_of (Grouping' at p of) = grouping at (sense_of of)

  pub senses_in : {m : _} → Row_of-SenseForm m → Senses
  senses_in end_of-SenseForm = no_senses
  senses_in (more_of-SenseForm form rest) = more_senses (sense_of form) (senses_in rest)

abbrev pub listed_senses : SenseList → List Sense
listed_senses list = map sense_of list.items.items

-- the kind of an aggregate over an argument of a kind
abbrev pub kind_of_aggregate : AggKind → Kind → Kind
kind_of_aggregate A.CountAll kind = K.Integer
kind_of_aggregate A.Count kind = K.Integer
kind_of_aggregate (A.Sum of) kind = of
kind_of_aggregate (A.Avg of) kind = of
kind_of_aggregate A.Min kind = kind
kind_of_aggregate A.Max kind = kind
kind_of_aggregate A.PropCount kind = K.Real

abbrev pub kind_sensed : List NamedKind → Sense → Kind
kind_sensed columns (field at term) = kind_meant columns term
kind_sensed columns (fixed term) = kind_meant columns term
kind_sensed columns (formed kind by of) = kind
kind_sensed columns (aggregate at how of) = kind_of_aggregate how (kind_sensed columns of)
kind_sensed columns (grouping at of) = K.Integer

-- the kind of a CASE from its parts behind the subject, of whose values those before have such a kind
abbrev pub kind_of_case : List NamedKind → Kind → List Sense → Kind
kind_of_case columns kind [] = kind
kind_of_case columns kind (value ∷ []) = sharper kind (kind_sensed columns value)
kind_of_case columns kind (test ∷ value ∷ parts) = kind_of_case columns (sharper kind (kind_sensed columns value)) parts

-- whether two aggregates are one and the same
abbrev pub same_aggregate : AggKind → AggKind → Bool
same_aggregate A.CountAll A.CountAll = true
same_aggregate A.Count A.Count = true
same_aggregate (A.Sum kind) (A.Sum other) = true
same_aggregate (A.Avg kind) (A.Avg other) = true
same_aggregate A.Min A.Min = true
same_aggregate A.Max A.Max = true
same_aggregate A.PropCount A.PropCount = true
same_aggregate how other = false

-- whether two expressions are equal by their form, wherever they stand
abbrev mutual
  pub same_sense : Sense → Sense → Bool
  same_sense (field at term) (field other_at other) = same_term term other
  same_sense (fixed term) (fixed other) = same_term term other
  same_sense (formed kind by of) (formed other_kind other_by others) = same_maker by other_by && same_senses of others
  same_sense (aggregate at how of) (aggregate other_at other_how other) = same_aggregate how other_how && same_sense of other
  same_sense (grouping at of) (grouping other_at other) = same_sense of other
  same_sense a b = false

  pub same_senses : Senses → Senses → Bool
  same_senses no_senses no_senses = true
  same_senses (more_senses a of) (more_senses b others) = same_sense a b && same_senses of others
  same_senses of others = false

-- whether an expression equals a key
abbrev pub is_key : List Sense → Sense → Bool
is_key keys sense = list_any (same_sense sense) keys
