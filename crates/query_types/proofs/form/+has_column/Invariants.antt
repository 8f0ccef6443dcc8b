use Rattle.std.proofs.Common.{◌≡◌, map, drop}
use Rattle.query_types.specs.Terms.{term_of, terms_of, have_column}
use Rattle.query_types.proofs.form.+has_column.Given as goal

abbrev pub invariant-loop-part : goal.invariant-loop-part
invariant-loop-part l = have_column l.index (terms_of (map term_of l.part-items)) ≡ have_column l.index (terms_of (map term_of (drop l.part-index l.part-items)))
