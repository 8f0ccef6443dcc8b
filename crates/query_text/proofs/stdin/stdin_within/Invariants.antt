use Rattle.std.proofs.Common.{◌≡◌, drop}
use Rattle.query_text.proofs.Placing.{within}
use Rattle.query_text.proofs.stdin.stdin_within.Given as goal

-- The queries so far were passed.
abbrev pub invariant-loop-query : goal.invariant-loop-query
invariant-loop-query l = within l.query-items ≡ within (drop l.query-index l.query-items)
