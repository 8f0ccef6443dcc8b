use Rattle.std.proofs.Common.{◌≡◌, ◌≤◌, ◌++◌, length}
use Rattle.std.specs.String.{string_bytes}
use denote.Shadow.{shadow}
use denote.Text.{Utf8}
use Rattle.text_functions.specs.Pieces.{pieces, joined}
use Rattle.text_functions.proofs.replacing.replace_part.Given as goal

-- What was made, and then what the rest makes.
abbrev pub invariant-loop-before : goal.invariant-loop-before
invariant-loop-before l = record { made : joined l.by (pieces l.part l.text) ≡ string_bytes l.made ++ joined l.by (pieces l.part l.rest); room : length (string_bytes l.made) ≤ l.most; text : shadow (Utf8 l.rest) }

abbrev pub decreases-loop-before : goal.decreases-loop-before
decreases-loop-before l = length l.rest
