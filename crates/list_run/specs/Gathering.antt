-- What is remembered of values that come one by one.
use Rattle.std.specs.Prelude.{List, [], ◌∷◌, ◌++◌}
use Rattle.indexmap.specs.IndexSet.{insert_key}
use Rattle.in_set.specs.Facts.{Facts, facts_of, with_value}
use Rattle.lp_values.specs.declared.value.Value.{Value}
use Rattle.list_run.specs.declared.keep.Keep.{Keep}
use Rattle.list_run.specs.declared.keep.Keep.TheVariants as K
use Rattle.list_run.specs.declared.gathered.Store.{Store}
use Rattle.list_run.specs.declared.gathered.Store.TheVariants as S
use Rattle.list_run.specs.Keeping.{kept_values, same_value}

-- the facts of their set, and the list that is kept
pub record Remembered : Type 0 where
  pub facts : Facts
  pub keep : Keep
  pub list : List Value

-- what is remembered of a list
abbrev pub remembered_of : Keep → List Value → Remembered
remembered_of keep values = record { facts = facts_of values; keep = keep; list = kept_values keep values }

-- what is kept with one value more
abbrev pub kept_more : Keep → List Value → Value → List Value
kept_more K.Nothing list value = list
kept_more K.All list value = list ++ value ∷ []
kept_more K.Distinct list value = insert_key same_value list value

abbrev pub remembering : Remembered → Value → Remembered
remembering before value = record { facts = with_value before.facts value; keep = before.keep; list = kept_more before.keep before.list value }

-- what a store keeps

abbrev pub keep_in : Store → Keep
keep_in S.Nothing = K.Nothing
keep_in (S.All values) = K.All
keep_in (S.Distinct values) = K.Distinct

abbrev pub list_in : Store → List Value
list_in S.Nothing = []
list_in (S.All values) = values
list_in (S.Distinct values) = values.keys
