use Rattle.std.proofs.Common.{length, reverse}
use denote.Shadow.{shadow}
use denote.Text.{Utf8}
use Rattle.text_functions.proofs.PrefixLemmas.{IsBehind}
use Rattle.text_functions.proofs.tokens.behind_occurrence.Given as goal

-- The same, read backwards.
abbrev pub invariant-loop-before : goal.invariant-loop-before
invariant-loop-before l = record { behind : IsBehind (reverse l.separator) (reverse l.text) l.index (reverse l.rest) l.left; text : shadow (Utf8 l.rest) }

abbrev pub decreases-loop-before : goal.decreases-loop-before
decreases-loop-before l = length l.rest
