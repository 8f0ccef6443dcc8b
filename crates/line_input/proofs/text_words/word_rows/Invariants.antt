use Rattle.std.proofs.Common.{◌≡◌, ◌≤◌, ◌-◌, ◌++◌, ◌∷◌, [], Some, map, length, drop}
use Rattle.line_input.specs.declared.gap.Gap.TheVariants.{Words}
use Rattle.line_input.specs.Parts.{is_gap, parts_by}
use Rattle.line_input.specs.Taken.{slots_of}
use Rattle.line_input.proofs.text_words.word_rows.Given as goal

abbrev pub invariant-loop-word : goal.invariant-loop-word
invariant-loop-word l = record {
  within : l.at ≤ length l.line;
  rows : map (slots_of l.line) l.rows ++ map (λ word. Some word ∷ []) (parts_by (is_gap Words) (drop l.at l.line)) ≡ map (λ word. Some word ∷ []) (parts_by (is_gap Words) l.line);
}

abbrev pub decreases-loop-word : goal.decreases-loop-word
decreases-loop-word l = length l.initial.line - l.at
