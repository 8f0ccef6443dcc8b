use Rattle.std.proofs.Common.{◌≡◌, ℕ, ◌<◌, ◌≤◌, ◌-◌, ◌≢◌, get_or}
use Rattle.command_words.proofs.formats.last_part.Given as goal

abbrev pub invariant-loop-place : goal.invariant-loop-place
invariant-loop-place l = record {
  within : l.start ≤ l.place;
  none_behind : (k : ℕ) → l.start ≤ k → k < l.place → get_or l.name k 0 ≢ 47;
  slash : 0 < l.start → get_or l.name (l.start - 1) 0 ≡ 47;
}
