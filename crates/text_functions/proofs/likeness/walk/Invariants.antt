use denote.Shadow.{shadow}
use denote.Text.{Utf8}
use Rattle.std.proofs.Common.{◌↔◌, ◌≤◌, ◌∷◌, length}
use Rattle.std.specs.Str.{chars}
use Rattle.text_functions.specs.Likes.{Likes}
use Rattle.text_functions.proofs.likeness.walk.Given as goal

-- What is left of the text answers for the whole.
abbrev pub invariant-loop-next : goal.invariant-loop-next
invariant-loop-next l = record {
  same : Likes (37 ∷ chars l.pattern) (chars l.text) ↔ Likes (37 ∷ chars l.pattern) (chars l.rest);
  less : length l.rest ≤ length l.text;
  text : shadow (Utf8 l.rest);
}

abbrev pub decreases-loop-next : goal.decreases-loop-next
decreases-loop-next l = length l.rest
