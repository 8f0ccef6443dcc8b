use Rattle.std.proofs.Common.{◌≡◌, [], Err, sym, subst}
use Rattle.column_kinds.specs.Past.{Past}
use Rattle.column_kinds.specs.Sampling.{Holds}
use Rattle.column_kinds.specs.Sampling.{Rules as SampleRules}
use Rattle.query_types.specs.declared.fault.TypeFault.{TypeFault}
use Rattle.list_run.specs.declared.keep.Keep.{Keep}
use Rattle.list_run.specs.declared.list_maker.ListMaker.{ListMaker}
use Rattle.list_run.specs.Faults.{IsOfEnd, OnUnplanned}
use Rattle.list_run.specs.Gathering.{Remembered, remembered_of}
use Rattle.list_run.specs.Made.{Fits, list_kind, list_rules}
use Rattle.list_run.specs.Rules.{plan_at}
use Rattle.list_run.proofs.Sampled.{given_is, stop_end, stop_is, unplanned_stop}
use Rattle.list_run.proofs.ending.end_sample.Goals as goal

pub returns-in-Ok-end_list-clause-given : goal.returns-in-Ok-end_list-clause-given
returns-in-Ok-end_list-clause-given c = λ keep rules past fits holds.
    given_is keep rules past c.in-Ok.collector c.finish.new.out _ c.in-Ok-end_list.ensures.values c.in-Ok-end_list.ensures.kept fits c.kind_first-kind.ensures (c.in-Ok.ensures.begun rules (remembered_of keep []) past holds)

pub returns-in-Err-clause-unplanned : goal.returns-in-Err-clause-unplanned
returns-in-Err-clause-unplanned c =
    let Is : TypeFault → Type 0 = λ why. (keep : Keep) (rules : SampleRules (ListMaker Remembered)) (past : Past) → Fits rules → Holds list_kind rules (remembered_of keep []) past c.args.sampled c.args.gathered → plan_at (list_rules rules) past ≡ Err why in
    subst (OnUnplanned Is) (sym c.fault_of.ensures)
    (unplanned_stop Is c.in-Err.stop (λ why is keep rules past fits holds. stop_is keep rules past c.in-Err.stop why c.finish.new.out (c.in-Err.ensures.stopped rules (remembered_of keep []) past holds) is))

pub returns-in-Err-clause-ended : goal.returns-in-Err-clause-ended
returns-in-Err-clause-ended c = subst IsOfEnd (sym c.fault_of.ensures) (stop_end c.in-Err.stop)
