use denote.Shadow.{shadow}
use denote.Text.{Utf8}
use Rattle.std.proofs.Common.{◌≡◌, ◌≤◌, ◌++◌, length}
use Rattle.std.specs.List.{flat_map}
use Rattle.std.specs.Str.{chars}
use Rattle.std.specs.String.{string_bytes}
use Rattle.text_functions.specs.Replacing.{replaced_character}
use Rattle.text_functions.proofs.replacing.replace_chr.Given as goal

-- What was made, and then what the rest makes.
abbrev pub invariant-loop-first : goal.invariant-loop-first
invariant-loop-first l = record { made : flat_map (replaced_character l.some l.by) (chars l.text) ≡ string_bytes l.made ++ flat_map (replaced_character l.some l.by) (chars l.rest); room : length (string_bytes l.made) ≤ l.most; text : shadow (Utf8 l.rest) }

abbrev pub decreases-loop-first : goal.decreases-loop-first
decreases-loop-first l = length l.rest
