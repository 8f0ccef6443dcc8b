use Rattle.std.proofs.Common.{◌≡◌, filter, take}
use Rattle.command_words.specs.Words.{is_option}
use Rattle.command_words.proofs.word.options_in.Given as goal

abbrev pub invariant-loop-word : goal.invariant-loop-word
invariant-loop-word l = l.options ≡ filter is_option (take l.word-index l.words)
