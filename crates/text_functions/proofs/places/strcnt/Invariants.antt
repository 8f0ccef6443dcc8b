use Rattle.std.proofs.Common.{◌≡◌, ◌+◌, ◌≤◌, length}
use denote.Shadow.{shadow}
use denote.Text.{Utf8}
use Rattle.text_functions.specs.Pieces.{pieces}
use Rattle.text_functions.proofs.places.strcnt.Given as goal

-- What was counted, and the pieces of the rest; each occurrence has a byte.
abbrev pub invariant-loop-next : goal.invariant-loop-next
invariant-loop-next l = record { counted : l.count + length (pieces l.part l.rest) ≡ length (pieces l.part l.text); room : l.count + length l.rest ≤ length l.text; text : shadow (Utf8 l.rest) }

abbrev pub decreases-loop-next : goal.decreases-loop-next
decreases-loop-next l = length l.rest
