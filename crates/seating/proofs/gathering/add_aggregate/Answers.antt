use Rattle.std.proofs.Common.{◌∙◌, ◌++◌, ◌∷◌, [], List, map, ap, sym}
use Rattle.std.proofs.lemmas.List.{map_push}
use Rattle.std.specs.List.{list_any}
use Rattle.seating.specs.declared.gathering.Aggregate.{Aggregate}
use Rattle.seating.specs.Gathered.{counted_of, same_counted}
use Rattle.senses.specs.Senses.{Sense, sense_of}
use Rattle.seating.proofs.Gathers.{with_old, with_new}
use Rattle.seating.proofs.gathering.add_aggregate.Goals as goal

pub returns-then-has_counted : goal.returns-then-has_counted
returns-then-has_counted c =
    let found = c.args.found.now.items in
    let of = sense_of c.args.of.now in
    let is = c.has_counted.ensures ∙ ap (λ (l : List Aggregate). list_any (λ other. same_counted c.args.how of (counted_of other)) l) c.as_slice.ensures.value in
    with_old found c.args.how of c.has_counted.result is c.if-has_counted.true

pub returns : goal.returns
returns c =
    let found = c.args.found.now.items in
    let of = sense_of c.args.of.now in
    let is = c.has_counted.ensures ∙ ap (λ (l : List Aggregate). list_any (λ other. same_counted c.args.how of (counted_of other)) l) c.as_slice.ensures.value in
    ap (λ (l : List Aggregate). map counted_of l) c.in_ok-push.ensures.items ∙ map_push counted_of found (record { how = c.args.how; of = c.in_ok-of.of })
    ∙ ap (λ (s : Sense). map counted_of found ++ record { how = c.args.how; of = s } ∷ []) c.in_ok-of.ensures
    ∙ sym (with_new found c.args.how of c.has_counted.result is c.if-has_counted.false)
