use Rattle.std.proofs.Common.{◌^◌, length, sym, subst}
use Rattle.std.specs.Prelude.{All}
use Rattle.std.proofs.lemmas.Bool.{lt-ltb, ltb-true, true≢false}
use Rattle.std.proofs.lemmas.List.{take_all}
use Rattle.std.proofs.lemmas.List.Elements.{All-more}
use Rattle.checkpointed_run.specs.Staged.{IsWord}
use Rattle.checkpointed_run.proofs.Tested.{one_fails}
use Rattle.checkpointed_run.proofs.fitting.are_words.Goals as goal

pub loop-word-preserved : goal.loop-word-preserved
loop-word-preserved c = All-more IsWord c.args.words.now c.loop-word.word-index c.word-item.result c.loop-word-test.true c.loop-word.invariant (subst IsWord c.word-item.is (c.is_word.ensures.0 c.if-not-is_word.false))

pub returns-then-not-is_word : goal.returns-then-not-is_word
returns-then-not-is_word c = (λ h. absurd (true≢false (sym h)), λ all. absurd (one_fails IsWord c.args.words.now c.loop-word.word-index c.word-item.result c.is_word.result c.loop-word-test.true c.word-item.is c.is_word.ensures c.if-not-is_word.true all.1))

pub returns : goal.returns
returns c = (λ h. (ltb-true (length c.args.words.now) (2 ^ 32) h, subst (All IsWord) (take_all c.loop-word.word-index c.args.words.now c.loop-word-test.false) c.loop-word.invariant), λ all. lt-ltb (length c.args.words.now) (2 ^ 32) all.0)
