use Rattle.std.proofs.Common.{◌≡◌, map, take}
use Rattle.query_types.specs.Terms.{term_of}
use Rattle.row_engine.specs.Settled.{settled}
use Rattle.row_engine.proofs.settling.+settled_form.Given as goal

abbrev pub invariant-loop-part : goal.invariant-loop-part
invariant-loop-part l = map term_of l.parts.items ≡ map settled (map term_of (take l.part-index l.part-items))
