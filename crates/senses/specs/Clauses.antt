-- What the clauses of a query mean, in their order.
use Rattle.std.specs.Prelude.{List, Option, option_map}
use Rattle.senses.specs.declared.clauses.SenseClauses.{SenseClauses}
use Rattle.senses.specs.Senses.{Sense, listed_senses}
use Rattle.senses.specs.Checks.{Check, check_of}

-- what the clauses of a query mean
pub record Clauses : Type 0 where
  pub using : List Sense
  pub items : List Sense
  pub condition : Option Check
  pub keys : List Sense
  pub having : Option Check
  pub order : List Sense

-- the same, less where it lies in memory
abbrev pub clauses_of : SenseClauses → Clauses
clauses_of clauses = record {
  using = listed_senses clauses.using;
  items = listed_senses clauses.items;
  condition = option_map check_of clauses.condition;
  keys = listed_senses clauses.keys;
  having = option_map check_of clauses.having;
  order = listed_senses clauses.order;
}
