use Rattle.std.proofs.Common.{All, take}
use Rattle.checkpointed_run.specs.Staged.{IsWord}
use Rattle.checkpointed_run.proofs.fitting.are_words.Given as goal

abbrev pub invariant-loop-word : goal.invariant-loop-word
invariant-loop-word l = All IsWord (take l.word-index l.words)
