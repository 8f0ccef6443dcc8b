use Rattle.std.proofs.Common.{◌≡◌, map, take}
use Rattle.query_types.specs.Terms.{term_of}
use Rattle.query_types.proofs.form.+copied.Given as goal

abbrev pub invariant-loop-part : goal.invariant-loop-part
invariant-loop-part l = map term_of l.parts.items ≡ map term_of (take l.part-index l.part-items)
