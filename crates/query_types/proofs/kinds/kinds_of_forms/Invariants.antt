use Rattle.std.proofs.Common.{◌≡◌, map, take}
use Rattle.query_types.specs.Meanings.{kind_meant}
use Rattle.query_types.specs.Terms.{term_of}
use Rattle.query_types.proofs.kinds.kinds_of_forms.Given as goal

abbrev pub invariant-loop-form : goal.invariant-loop-form
invariant-loop-form l = l.kinds ≡ map (kind_meant l.table.columns) (map term_of (take l.form-index l.forms))
