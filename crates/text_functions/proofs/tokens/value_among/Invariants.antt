use Rattle.std.proofs.Common.{◌≡◌, ◌++◌, length, find, nat_eq}
use Rattle.std.specs.Prelude.{codes}
use Rattle.std.specs.List.{starts_with}
use denote.Shadow.{shadow}
use denote.Text.{Utf8}
use Rattle.text_functions.specs.Pieces.{pieces}
use Rattle.text_functions.proofs.tokens.value_among.Given as goal

-- The first token is one of the rest.
abbrev pub invariant-loop-token : goal.invariant-loop-token
invariant-loop-token l = record { same : find (λ t. starts_with nat_eq t (l.name ++ codes "=")) (pieces l.separator l.text) ≡ find (λ t. starts_with nat_eq t (l.name ++ codes "=")) (pieces l.separator l.rest); text : shadow (Utf8 l.rest) }

abbrev pub decreases-loop-token : goal.decreases-loop-token
decreases-loop-token l = length l.rest
