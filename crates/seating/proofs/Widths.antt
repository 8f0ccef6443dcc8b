-- How wide the rows of a group's plan are, and what they use.
use Rattle.std.proofs.Common.{◌≡◌, ◌+◌, List, [], length, map, Option, arith, length-append}
use Rattle.std.proofs.lemmas.List.{length-map}
use Rattle.query_types.specs.Conditions.{Filter}
use Rattle.query_types.specs.Planned.{Covers}
use Rattle.query_types.specs.Terms.{Term}
use Rattle.senses.specs.Clauses.{Clauses}
use Rattle.seating.specs.Gathered.{Counted, aggregates_of, seated}
use Rattle.seating.specs.GroupPlans.{row_items}

-- a row has a value for each key and for each aggregate
pub row_width : (clauses : Clauses) → length (row_items clauses) ≡ length clauses.keys + length (map (λ (one : Counted). one.how) (aggregates_of clauses))
row_width clauses =
    let keys = map (seated [] []) clauses.keys in
    let arguments = map (λ (one : Counted). seated [] [] one.of) (aggregates_of clauses) in
    let one : length keys ≡ length clauses.keys = length-map clauses.keys (seated [] []) in
    let two : length arguments ≡ length (aggregates_of clauses) = length-map (aggregates_of clauses) (λ one. seated [] [] one.of) in
    let three : length (map (λ (one : Counted). one.how) (aggregates_of clauses)) ≡ length (aggregates_of clauses) = length-map (aggregates_of clauses) (λ one. one.how) in
    let sum : length (row_items clauses) ≡ length keys + length arguments = length-append keys arguments in
    omega arith

-- no column of a table is used by what is asked of a group's row
pub none_used : (items : List Term) (condition : Option Filter) → Covers [] items condition
none_used items condition = record { item = λ k here is. absurd (omega arith); mentioned = λ k here is. absurd (omega arith) }
