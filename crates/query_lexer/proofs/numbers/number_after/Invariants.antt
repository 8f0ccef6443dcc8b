use Rattle.std.proofs.Common.{◌≡◌, ◌<◌, ◌^◌, drop}
use Rattle.query_lexer.specs.Numbers.{number_after}
use Rattle.query_lexer.proofs.numbers.number_after.Given as goal

abbrev pub invariant-loop-digit : goal.invariant-loop-digit
invariant-loop-digit l = record {
  same : number_after l.so_far (drop l.digit-index l.digits) ≡ number_after l.number l.digits;
  small : l.so_far < 2 ^ 64;
}
