use Rattle.std.proofs.Common.{◌≡◌, map, drop}
use Rattle.query_types.specs.Orders.{same_terms}
use Rattle.query_types.specs.Terms.{term_of, terms_of}
use Rattle.query_types.proofs.ordering.+forms.Given as goal

abbrev pub invariant-are_same-loop-part : goal.invariant-are_same-loop-part
invariant-are_same-loop-part l = same_terms (terms_of (map term_of l.parts)) (terms_of (map term_of l.others))
    ≡ same_terms (terms_of (map term_of (drop l.part-index l.parts))) (terms_of (map term_of l.rest))
