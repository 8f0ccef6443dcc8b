use Rattle.std.proofs.Common.{◌≡◌, length}
use Rattle.std.specs.List.{slice_get}
use denote.Shadow.{shadow}
use denote.Text.{Utf8}
use Rattle.text_functions.specs.Pieces.{pieces}
use Rattle.text_functions.proofs.tokens.piece_at.Given as goal

-- The piece is one of the rest.
abbrev pub invariant-loop-before : goal.invariant-loop-before
invariant-loop-before l = record { same : slice_get (pieces l.separator l.text) l.index ≡ slice_get (pieces l.separator l.rest) l.left; text : shadow (Utf8 l.rest) }

abbrev pub decreases-loop-before : goal.decreases-loop-before
decreases-loop-before l = length l.rest
