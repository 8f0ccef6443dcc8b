use Rattle.std.proofs.Common.{◌^◌, length, sym, subst}
use Rattle.std.specs.Prelude.{All}
use Rattle.std.proofs.lemmas.Bool.{lt-ltb, ltb-true, true≢false}
use Rattle.std.proofs.lemmas.List.{take_all}
use Rattle.std.proofs.lemmas.List.Elements.{All-more}
use Rattle.run_entry.specs.Forms.{IsKeptList}
use Rattle.checkpointed_run.proofs.Tested.{one_fails}
use Rattle.checkpointed_run.proofs.fitting.are_lists.Goals as goal

pub loop-list-preserved : goal.loop-list-preserved
loop-list-preserved c = All-more IsKeptList c.args.lists.now c.loop-list.list-index c.list-item.result c.loop-list-test.true c.loop-list.invariant (subst IsKeptList c.list-item.is (c.is_list.ensures.0 c.if-not-is_list.false))

pub returns-then-not-is_list : goal.returns-then-not-is_list
returns-then-not-is_list c = (λ h. absurd (true≢false (sym h)), λ all. absurd (one_fails IsKeptList c.args.lists.now c.loop-list.list-index c.list-item.result c.is_list.result c.loop-list-test.true c.list-item.is c.is_list.ensures c.if-not-is_list.true all.each))

pub returns : goal.returns
returns c = (λ h. record { few = ltb-true (length c.args.lists.now) (2 ^ 32) h; each = subst (All IsKeptList) (take_all c.loop-list.list-index c.args.lists.now c.loop-list-test.false) c.loop-list.invariant }, λ all. lt-ltb (length c.args.lists.now) (2 ^ 32) all.few)
