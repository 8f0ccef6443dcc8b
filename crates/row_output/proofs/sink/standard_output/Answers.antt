use Rattle.std.proofs.Common.{◌≡◌, None, codes, refl, sym, ◌∙◌}
use Rattle.lp_outside.specs.NameFault.{name_fault}
use Rattle.row_output.proofs.sink.standard_output.Goals as goal

-- the name of standard output is one
is_name : name_fault (codes "STDOUT") ≡ None
is_name = refl

pub unreachable-requires : goal.unreachable-requires
unreachable-requires c = let same = sym c.in-Err.ensures ∙ is_name in cc
