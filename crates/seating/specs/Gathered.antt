-- The aggregates that a query asks of its groups, each once, and what is asked of the row of a group: keys, aggregates, and a mark for each key.
use Rattle.std.specs.Prelude.{ℕ, ◌+◌, Bool, ◌&&◌, List, [], ◌∷◌, ◌++◌, length, map, if◌then◌else◌, Option, Some, None}
use Rattle.std.specs.List.{list_any, position}
use Rattle.lp_values.specs.declared.group.AggKind.{AggKind}
use Rattle.query_types.specs.Conditions.{Filter}
use Rattle.query_types.specs.Conditions.{Filter as filter}
use Rattle.query_types.specs.Terms.{Term, Terms, column, made, no_terms, more_terms}
use Rattle.seating.specs.declared.gathering.Aggregate.{Aggregate}
use Rattle.senses.specs.Senses.{Sense, Senses, field, fixed, formed, aggregate, grouping, no_senses, more_senses, senses_of, sense_of, same_aggregate, same_sense}
use Rattle.senses.specs.Clauses.{Clauses}
use Rattle.senses.specs.Checks.{Check, either, both, opposite, compared, null, like, between, within, contained}

-- an aggregate and its argument
pub record Counted : Type 0 where
  pub how : AggKind
  pub of : Sense

abbrev pub counted_of : Aggregate → Counted
counted_of one = record { how = one.how; of = sense_of one.of }

abbrev pub same_counted : AggKind → Sense → Counted → Bool
same_counted how of other = same_aggregate how other.how && same_sense of other.of

-- these aggregates, and one more where it isn't among them
abbrev pub with_counted : List Counted → AggKind → Sense → List Counted
with_counted found how of = if list_any (same_counted how of) found then found else found ++ record { how = how; of = of } ∷ []

-- these aggregates, and those of an expression that aren't among them, from left to right
abbrev mutual
  pub gathered : List Counted → Sense → List Counted
  gathered found (field at term) = found
  gathered found (fixed term) = found
  gathered found (formed kind by of) = all_gathered found of
  gathered found (aggregate at how of) = with_counted found how of
  gathered found (grouping at of) = found

  pub all_gathered : List Counted → Senses → List Counted
  all_gathered found no_senses = found
  all_gathered found (more_senses sense senses) = all_gathered (gathered found sense) senses

abbrev pub list_gathered : List Counted → List Sense → List Counted
list_gathered found senses = all_gathered found (senses_of senses)

-- the same of a condition
abbrev pub gathered_in : List Counted → Check → List Counted
gathered_in found (either a b) = gathered_in (gathered_in found a) b
gathered_in found (both a b) = gathered_in (gathered_in found a) b
gathered_in found (opposite a) = gathered_in found a
gathered_in found (compared how left right) = gathered (gathered found left) right
gathered_in found (null value negated) = gathered found value
gathered_in found (like value pattern negated) = gathered found value
gathered_in found (between value low high negated) = gathered (gathered (gathered found value) low) high
gathered_in found (within value items negated) = list_gathered (gathered found value) items
gathered_in found (contained value values negated) = gathered found value

abbrev pub maybe_gathered : List Counted → Option Check → List Counted
maybe_gathered found None = found
maybe_gathered found (Some check) = gathered_in found check

-- each aggregate of SELECT once, and behind them those of HAVING; ORDER BY has none that SELECT hasn't
abbrev pub aggregates_of : Clauses → List Counted
aggregates_of clauses = maybe_gathered (list_gathered [] clauses.items) clauses.having

-- a place, or the first where there is none where there is none
abbrev pub place_or_first : Option ℕ → ℕ
place_or_first None = 0
place_or_first (Some k) = k

abbrev pub column_or : Option ℕ → Term → Term
column_or None term = term
column_or (Some k) term = column k

-- the place of the first key that an expression equals
abbrev pub key_place : List Sense → Sense → Option ℕ
key_place keys sense = position (same_sense sense) keys

module _ (keys : List Sense) (found : List Counted) where
  -- An expression over a row that begins with keys and aggregates and ends with the marks: what equals a key is the first such key,
  -- an aggregate its column, GROUPING a key's mark. Without keys and aggregates it is what the expression means over a table's row.
  abbrev mutual
    pub seated : Sense → Term
    seated (field at term) = column_or (key_place keys (field at term)) term
    seated (fixed term) = column_or (key_place keys (fixed term)) term
    seated (formed kind by of) = column_or (key_place keys (formed kind by of)) (made kind by (all_seated of))
    seated (aggregate at how of) = column (length keys + place_or_first (position (same_counted how of) found))
    seated (grouping at of) = column (length keys + length found + place_or_first (key_place keys of))

    pub all_seated : Senses → Terms
    all_seated no_senses = no_terms
    all_seated (more_senses sense senses) = more_terms (seated sense) (all_seated senses)

  -- the same of a condition
  abbrev pub seated_in : Check → Filter
  seated_in (either a b) = filter.either (seated_in a) (seated_in b)
  seated_in (both a b) = filter.both (seated_in a) (seated_in b)
  seated_in (opposite a) = filter.opposite (seated_in a)
  seated_in (compared how left right) = filter.compared how (seated left) (seated right)
  seated_in (null value negated) = filter.null (seated value) negated
  seated_in (like value pattern negated) = filter.like (seated value) pattern negated
  seated_in (between value low high negated) = filter.between (seated value) (seated low) (seated high) negated
  seated_in (within value items negated) = filter.within (seated value) (map seated items) negated
  seated_in (contained value values negated) = filter.contained (seated value) values negated
