use denote.Shadow.{shadow}
use denote.Text.{Utf8}
use Rattle.std.proofs.Common.{◌≡◌, ◌==◌, length}
use Rattle.std.specs.List.{list_any}
use Rattle.std.specs.Str.{chars}
use Rattle.text_functions.proofs.characters.has_character.Given as goal

-- The character is one of the text where it is one of the rest.
abbrev pub invariant-loop-first : goal.invariant-loop-first
invariant-loop-first l = record { same : list_any (λ c. c == l.wanted) (chars l.text) ≡ list_any (λ c. c == l.wanted) (chars l.rest); text : shadow (Utf8 l.rest) }

abbrev pub decreases-loop-first : goal.decreases-loop-first
decreases-loop-first l = length l.rest
