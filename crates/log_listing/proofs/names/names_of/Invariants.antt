use Rattle.std.proofs.Common.{◌≡◌, ◌≤◌, length, take}
use Rattle.lp_model.specs.Outside.{OnlyGrow}
use Rattle.log_listing.specs.Firsts.{Knows}
use Rattle.log_listing.specs.Listed.{Lists}
use Rattle.log_listing.proofs.names.names_of.Given as goal

-- the logs of the texts so far are listed
abbrev pub invariant-loop-text : goal.invariant-loop-text
invariant-loop-text g l = record {
  grows : OnlyGrow (g.L.Logs.folder l.initial.logs) (g.L.Logs.folder l.logs);
  given : g.L.Logs.given l.logs ≡ g.L.Logs.given l.initial.logs;
  later : g.L.Logs.faults l.initial.logs ≤ g.L.Logs.faults l.logs;
  items : l.text-items ≡ l.texts;
  lists : Lists (g.L.Logs.folder l.logs) (take l.text-index l.text-items) l.listing.names;
  knows : Knows l.listing.seen l.listing.names;
  few : length l.listing.names ≤ 100000;
}
