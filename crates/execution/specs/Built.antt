-- Whether standard input is read, and of what runs over whole logs `execute` speaks.
use Rattle.std.specs.Prelude.{Bool, false, ◌&&◌, List, [], ◌∷◌, is_none}
use Rattle.grammar.specs.Trees.{Placed, Query}
use Rattle.command_words.specs.declared.spec.Spec.{Spec}
use Rattle.query_text.specs.Stdin.{is_stdin}
use Rattle.execution.specs.Texts.{has_text, output_of}

-- STDIN is the only name: standard input is read
abbrev pub reads_stdin : List Placed → Bool
reads_stdin [] = false
reads_stdin (name ∷ []) = is_stdin name.text
reads_stdin (name ∷ next ∷ names) = false

-- a run without a checkpoint whose output has a text
abbrev pub all_built : Spec → Query → Bool
all_built spec q = is_none spec.checkpoint && has_text spec (output_of spec q)
