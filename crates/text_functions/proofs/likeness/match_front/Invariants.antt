use denote.Shadow.{shadow}
use denote.Text.{Utf8}
use Rattle.std.proofs.Common.{◌≤◌, ◌↔◌, ◌∷◌, length}
use Rattle.std.specs.Str.{chars}
use Rattle.text_functions.specs.Likes.{Likes}
use Rattle.text_functions.proofs.likeness.match_front.Given as goal

-- What is left answers for the whole.
abbrev pub invariant-loop-wanted : goal.invariant-loop-wanted
invariant-loop-wanted l = record {
  same : Likes (chars l.pattern) (chars l.text) ↔ Likes (chars l.left) (chars l.rest);
  later : Likes (37 ∷ chars l.pattern) (chars l.text) → Likes (37 ∷ chars l.left) (chars l.rest);
  less_pattern : length l.left ≤ length l.pattern;
  less_text : length l.rest ≤ length l.text;
  pattern_text : shadow (Utf8 l.left);
  text : shadow (Utf8 l.rest);
}

abbrev pub decreases-loop-wanted : goal.decreases-loop-wanted
decreases-loop-wanted l = length l.left
