use Rattle.std.proofs.Common.{◌≡◌, true, codes, ap, sym, ◌∙◌, refl, is_ok}
use Rattle.std.proofs.lemmas.Bool.{false≢true}
use Rattle.lp_time.specs.Patterns.{pattern_in, pieces_from}
use Rattle.command_words.proofs.table.usual_times.Goals as goal

-- the usual pattern is one
is_pattern : is_ok (pattern_in (codes "yyyy-MM-dd hh:mm:ss")) ≡ true
unfolding pieces_from
is_pattern = refl

pub unreachable-requires : goal.unreachable-requires
unreachable-requires c = false≢true (sym (ap is_ok c.in-Err.ensures.fault) ∙ is_pattern)
