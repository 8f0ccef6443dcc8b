use Rattle.std.proofs.Common.{◌≡◌, ◌≤◌, length, take}
use Rattle.log_listing.specs.Firsts.{with_names, Knows}
use Rattle.log_listing.proofs.listing.Listing.add_all.Given as goal

-- the names so far are added
abbrev pub invariant-loop-name : goal.invariant-loop-name
invariant-loop-name l = record {
  names : l.self.names ≡ with_names l.initial.self.names (take l.name-index l.name-items);
  items : l.name-items ≡ l.names;
  knows : Knows l.self.seen l.self.names;
  few : length l.self.names ≤ 100000;
}
