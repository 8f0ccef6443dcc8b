use Rattle.std.proofs.Common.{◌≡◌, ◌+◌, ◌<◌, drop, get_or, length, refl, ap, subst, arith}
use Rattle.std.proofs.lemmas.List.{take_all}
use Rattle.log_reading.proofs.Faults.{handed_on}
use Rattle.text_output.specs.Output.{kind_of}
use Rattle.row_output.specs.declared.fault.OutputFault.{OutputFault}
use Rattle.row_steps.specs.Grouped.{group_output}
use Rattle.row_steps.specs.Rows.{Rows, PutsRows, StopsBy}
use Rattle.row_steps.proofs.Moves.{taken_at, left_behind, left_size}
use Rattle.row_steps.proofs.Handed.{output_more, output_split}
use Rattle.row_steps.proofs.Puts.{rows_none, rows_more, stops_here, stops_later}
use Rattle.row_steps.proofs.handing.put_groups.Goals as goal

pub returns-then-len-gt-MOST_ROWS-clause-stops : goal.returns-then-len-gt-MOST_ROWS-clause-stops
returns-then-len-gt-MOST_ROWS-clause-stops g c = stops_here (kind_of g.G.Stage.state g.G.Stage.ended) _ c.args.output.now c.args.stage.now

pub loop-index-init : goal.loop-index-init
loop-index-init g c = record {
  puts = rows_none (kind_of g.G.Stage.state g.G.Stage.ended) c.args.output.now c.args.stage.now;
  behind = refl;
  size = refl;
  count = omega (arith, c.requires);
  goes = g.met.G.Stage.goes_nowhere _;
  later = omega arith;
}

pub loop-index-preserved : goal.loop-index-preserved
loop-index-preserved g c =
    let kind = kind_of g.G.Stage.state g.G.Stage.ended in
    let so_far = c.loop-index.invariant in
    let i = c.loop-index.index in
    let all = c.args.groups.now in
    let now = c.loop-index.groups in
    let plan = c.args.plan.now.plan in
    let first = c.args.output.now in
    let after = c.put_group.new.output in
    let here = c.in_ok-put_group.ensures in
    let group = c.replace-group.result in
    let none = c.no_group.result in
    let within : i < length all = omega (arith, c.len-index-end.ensures, so_far.size) in
    let is : group ≡ get_or all i none = taken_at now all i group none c.replace-group.ensures.result so_far.behind in
    let later_before = so_far.later in
    let later_here = here.later in
    let count_before = so_far.count in
    let count_here = here.count in
    let Of : Rows → Type 0 = λ rows. PutsRows kind rows first c.args.stage.now after c.put_group.new.stage in
    record {
      puts = subst Of (output_more plan all i group none within is) (rows_more kind _ _ first c.loop-index.output after c.args.stage.now c.loop-index.stage c.put_group.new.stage so_far.puts here.puts);
      behind = left_behind now all c.replace-group.new.self i none c.replace-group.ensures.list so_far.behind;
      size = left_size now all c.replace-group.new.self i none c.replace-group.ensures.list so_far.size;
      count = omega arith;
      goes = g.met.G.Stage.goes_on _ _ _ so_far.goes here.goes;
      later = omega arith;
    }

pub returns-in_err-put_group-clause-stops : goal.returns-in_err-put_group-clause-stops
returns-in_err-put_group-clause-stops g c =
    let kind = kind_of g.G.Stage.state g.G.Stage.ended in
    let so_far = c.loop-index.invariant in
    let i = c.loop-index.index in
    let all = c.args.groups.now in
    let now = c.loop-index.groups in
    let plan = c.args.plan.now.plan in
    let first = c.args.output.now in
    let group = c.replace-group.result in
    let none = c.no_group.result in
    let within : i < length all = omega (arith, c.len-index-end.ensures, so_far.size) in
    let is : group ≡ get_or all i none = taken_at now all i group none c.replace-group.ensures.result so_far.behind in
    let fault : OutputFault = c.in_err-put_group.field-0.0 in
    let Of : Rows → OutputFault → Type 0 = λ rows fault. StopsBy kind rows first c.args.stage.now fault c.put_group.new.stage in
    handed_on c.from_residual.result fault (Of (group_output plan all)) c.from_residual.ensures.1
    (subst (λ (rows : Rows). Of rows fault) (output_split plan all i group none within is)
    (stops_later kind _ _ (group_output plan (drop (i + 1) all)) first c.loop-index.output c.args.stage.now c.loop-index.stage fault c.put_group.new.stage so_far.puts c.in_err-put_group.ensures.stops))

pub returns-clause-puts : goal.returns-clause-puts
returns-clause-puts g c =
    let kind = kind_of g.G.Stage.state g.G.Stage.ended in
    let all = c.args.groups.now in
    let i = c.loop-index.index in
    let size = c.loop-index.invariant.size in
    let Of : Rows → Type 0 = λ rows. PutsRows kind rows c.args.output.now c.args.stage.now c.loop-index.output c.loop-index.stage in
    subst Of (ap (group_output c.args.plan.now.plan) (take_all i all (omega (arith, c.len-index-end.ensures)))) c.loop-index.invariant.puts
