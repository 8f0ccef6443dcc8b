use Rattle.std.proofs.Common.{◌≡◌, map, take, length}
use Rattle.delimited_input.specs.Sampled.{StandsFor}
use Rattle.column_kinds.specs.Fields.{texts_under}
use Rattle.column_kinds.specs.Kept.{found_in}
use Rattle.column_kinds.proofs.judging.kinds_under.Given as goal

abbrev pub invariant-loop-row : goal.invariant-loop-row
invariant-loop-row l = record {
  columns : l.sampler.columns ≡ length l.first.columns;
  limit : l.sampler.limit ≡ l.limit;
  pattern : l.sampler.pattern ≡ l.pattern;
  stands : StandsFor l.sampler (map (texts_under l.first) (map found_in (take l.row-index l.row-items)));
}
