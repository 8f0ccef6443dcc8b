use Rattle.std.proofs.Common.{◌≡◌, drop, map}
use Rattle.query_tree.specs.Views.{placed_of}
use Rattle.query_text.specs.Stdin.{stdin_among}
use Rattle.query_text.proofs.stdin.stdin_among.Given as goal

-- The names so far were passed.
abbrev pub invariant-loop-name : goal.invariant-loop-name
invariant-loop-name l = stdin_among (map placed_of l.name-items) ≡ stdin_among (map placed_of (drop l.name-index l.name-items))
