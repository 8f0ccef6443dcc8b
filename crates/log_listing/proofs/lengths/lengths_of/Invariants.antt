use Rattle.std.proofs.Common.{◌≡◌, ◌≤◌, take}
use Rattle.lp_model.specs.Outside.{OnlyGrow}
use Rattle.log_listing.specs.Lengths.{AreLengths}
use Rattle.log_listing.proofs.lengths.lengths_of.Given as goal

-- the names so far have their lengths
abbrev pub invariant-loop-name : goal.invariant-loop-name
invariant-loop-name g l = record {
  grows : OnlyGrow (g.L.Logs.folder l.initial.logs) (g.L.Logs.folder l.logs);
  given : g.L.Logs.given l.logs ≡ g.L.Logs.given l.initial.logs;
  later : g.L.Logs.faults l.initial.logs ≤ g.L.Logs.faults l.logs;
  items : l.name-items ≡ l.names;
  lengths : AreLengths (g.L.Logs.folder l.initial.logs) (g.L.Logs.folder l.logs) (take l.name-index l.name-items) l.list;
}
