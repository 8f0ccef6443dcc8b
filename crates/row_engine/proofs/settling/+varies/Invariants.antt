use Rattle.std.proofs.Common.{◌≡◌, map, drop}
use Rattle.query_types.specs.Terms.{term_of, terms_of}
use Rattle.row_engine.specs.Settled.{any_varies}
use Rattle.row_engine.proofs.settling.+varies.Given as goal

abbrev pub invariant-loop-part : goal.invariant-loop-part
invariant-loop-part l = any_varies (terms_of (map term_of l.part-items)) ≡ any_varies (terms_of (map term_of (drop l.part-index l.part-items)))
