use Rattle.std.proofs.Common.{◌≡◌, ◌-◌, length}
use Rattle.std.specs.Str.{IsCharBoundary}
use Rattle.query_lexer.specs.Reading.{Reads}
use Rattle.query_lexer.specs.declared.piece.Mode.TheVariants as m
use Rattle.query_lexer.proofs.lexer.lex.Given as goal

abbrev pub invariant-loop-at : goal.invariant-loop-at
invariant-loop-at l = record {
  reads : Reads l.text m.Ordinary 0 l.tokens.items l.mode l.at;
  length : l.tokens.text_length ≡ length l.text;
  cut : IsCharBoundary l.text l.at;
}

abbrev pub decreases-loop-at : goal.decreases-loop-at
decreases-loop-at l = length l.text - l.at
