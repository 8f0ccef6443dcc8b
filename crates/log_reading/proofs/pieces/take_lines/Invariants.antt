use Rattle.std.proofs.Common.{◌≡◌, ◌≤◌, ◌+◌, length, Bool, []}
use Rattle.log_reading.specs.Page.{Advances, Spends, IsWithin}
use Rattle.log_reading.proofs.pieces.take_lines.Given as goal

-- Some of the lines to come at first were taken.
abbrev pub invariant-loop-more : goal.invariant-loop-more
invariant-loop-more g l = record {
  advances : (waits : Bool) → Advances g.T.Taker.takes (g.R.LineReader.format l.reader) l.identity waits [] l.initial.page l.page l.initial.out l.out;
  spends : Spends g.T.Taker.count l.initial.page l.page 0;
  end : l.page.splitter.place + length l.page.splitter.left ≡ l.initial.page.splitter.place + length l.initial.page.splitter.left;
  within : IsWithin l.page.most_bad l.page.bad;
  most : l.page.most_bad ≡ l.initial.page.most_bad;
  goes : g.T.Taker.goes l.initial.out l.out;
  later : g.T.Taker.faults l.initial.out ≤ g.T.Taker.faults l.out;
}

abbrev pub decreases-loop-more : goal.decreases-loop-more
decreases-loop-more g l = length l.page.splitter.left
