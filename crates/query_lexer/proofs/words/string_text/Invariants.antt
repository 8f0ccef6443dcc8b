use Rattle.std.proofs.Common.{◌≡◌, ◌-◌, length, drop, ◌∷◌, ◌++◌}
use Rattle.std.specs.Str.{IsCharBoundary}
use Rattle.std.specs.String.{string_bytes}
use Rattle.query_lexer.specs.Standing.{doubled}
use Rattle.query_lexer.proofs.words.string_text.Given as goal

abbrev pub invariant-loop-length : goal.invariant-loop-length
invariant-loop-length l = record {
  split : l.rest ≡ 39 ∷ doubled (string_bytes l.text) ++ drop l.at l.rest;
  cut : IsCharBoundary l.rest l.at;
}

abbrev pub decreases-loop-length : goal.decreases-loop-length
decreases-loop-length l = length l.rest - l.at
