use denote.Shadow.{shadow}
use denote.Text.{Utf8}
use Rattle.std.proofs.Common.{◌↔◌, ◌∷◌, length}
use Rattle.std.specs.Str.{chars}
use Rattle.text_functions.specs.Likes.{Likes}
use Rattle.text_functions.proofs.likeness.like_behind_percent.Given as goal

-- What is left answers for the whole.
abbrev pub invariant-loop-is_like : goal.invariant-loop-is_like
invariant-loop-is_like l = record {
  same : Likes (37 ∷ chars l.pattern) (chars l.text) ↔ Likes (37 ∷ chars l.left) (chars l.rest);
  pattern_text : shadow (Utf8 l.left);
  text : shadow (Utf8 l.rest);
}

abbrev pub decreases-loop-is_like : goal.decreases-loop-is_like
decreases-loop-is_like l = length l.left
