use Rattle.std.proofs.Common.{length}
use denote.Shadow.{shadow}
use denote.Text.{Utf8}
use Rattle.text_functions.proofs.PrefixLemmas.{IsBehind}
use Rattle.text_functions.proofs.tokens.before_occurrence.Given as goal

-- The rest follows what was passed, and the answer is that followed by the rest's.
abbrev pub invariant-loop-before : goal.invariant-loop-before
invariant-loop-before l = record { behind : IsBehind l.separator l.text l.index l.rest l.left; text : shadow (Utf8 l.rest) }

abbrev pub decreases-loop-before : goal.decreases-loop-before
decreases-loop-before l = length l.rest
