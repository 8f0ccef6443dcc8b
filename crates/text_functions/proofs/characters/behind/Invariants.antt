use Rattle.std.proofs.Common.{◌≡◌, drop}
use Rattle.std.specs.Str.{chars, IsUtf8}
use Rattle.text_functions.proofs.characters.behind.Given as goal

-- What is still to be passed lies in the rest.
abbrev pub invariant-loop-left : goal.invariant-loop-left
invariant-loop-left l = record { same : drop l.count (chars l.text) ≡ drop l.left (chars l.rest); utf8 : IsUtf8 l.rest }

abbrev pub decreases-loop-left : goal.decreases-loop-left
decreases-loop-left l = l.left
