use Rattle.std.proofs.Common.{◌≡◌, ◌+◌, ◌<◌, ◌++◌, List, drop, get_or, length, refl, ap, sym, ◌∙◌, subst, arith}
use Rattle.std.proofs.lemmas.List.{drop_all}
use Rattle.lp_model.proofs.Results.{on_err}
use Rattle.text_output.specs.Output.{kind_of}
use Rattle.text_output.specs.declared.target.Output.{Output}
use Rattle.row_output.specs.declared.file_output.FileOutput.{FileOutput}
use Rattle.row_output.specs.declared.file_output.FileOutput.TheVariants as O
use Rattle.row_output.specs.FileTexts.{AreEnding}
use Rattle.row_output.proofs.Moves.{taken_at, left_behind, left_size}
use Rattle.row_output.proofs.Ending.{ending_none, ending_turn, turn_stops}
use Rattle.row_output.proofs.file_output.end_all.Goals as goal

pub loop-index-init : goal.loop-index-init
loop-index-init g c = record {
  ending = λ asked making start rows_of names texts mode differ way.
      subst (λ (l : List Output). AreEnding (kind_of g.G.Stage.state g.G.Stage.ended) asked making start rows_of names c.args.files.now.items c.args.files.now.items l c.args.stage.now) (sym c.new-outputs.ensures)
      (ending_none (kind_of g.G.Stage.state g.G.Stage.ended) asked making rows_of names start c.args.stage.now c.args.files.now.items texts way);
  behind = refl;
  size = refl;
  goes = g.met.G.Stage.goes_nowhere _;
  later = omega arith;
}

pub loop-index-preserved : goal.loop-index-preserved
loop-index-preserved g c =
    let so_far = c.loop-index.invariant in
    let i = c.loop-index.index in
    let all = c.args.files.now.items in
    let now = c.loop-index.files.items in
    let file = c.take_file-file.result in
    let here = c.in_ok-end_next.ensures in
    let within : i < length all = omega (arith, c.len-index-end.ensures, so_far.size) in
    let is : file ≡ get_or all i O.LeftAlone = taken_at now all i file O.LeftAlone c.take_file-file.ensures.result so_far.behind in
    let later_before = so_far.later in
    let later_here = here.later in
    record {
      ending = λ asked making start rows_of names texts mode differ way.
          ending_turn (kind_of g.G.Stage.state g.G.Stage.ended) asked making start c.loop-index.stage c.end_next.new.stage rows_of names all i file O.LeftAlone c.loop-index.outputs c.end_next.new.outputs here.ends.0 within is here.ends.1 mode differ here.ends.2
          (so_far.ending asked making start rows_of names texts mode differ way);
      behind = left_behind now all c.take_file-file.new.files.items i O.LeftAlone c.take_file-file.ensures.list so_far.behind;
      size = left_size now all c.take_file-file.new.files.items i O.LeftAlone c.take_file-file.ensures.list so_far.size;
      goes = g.met.G.Stage.goes_on _ _ _ so_far.goes here.goes;
      later = omega arith;
    }

pub returns-in_err-end_next-clause-stop : goal.returns-in_err-end_next-clause-stop
returns-in_err-end_next-clause-stop g c =
    let so_far = c.loop-index.invariant in
    let i = c.loop-index.index in
    let all = c.args.files.now.items in
    let now = c.loop-index.files.items in
    let file = c.take_file-file.result in
    let within : i < length all = omega (arith, c.len-index-end.ensures, so_far.size) in
    let is : file ≡ get_or all i O.LeftAlone = taken_at now all i file O.LeftAlone c.take_file-file.ensures.result so_far.behind in
    on_err _ c.from_residual.result (λ asked making start rows_of names texts mode differ way.
    turn_stops (kind_of g.G.Stage.state g.G.Stage.ended) asked making start c.args.stage.now c.loop-index.stage c.end_next.new.stage rows_of names all texts i file O.LeftAlone c.loop-index.outputs within is differ c.in_err-end_next.ensures.spares way
    (so_far.ending asked making start rows_of names texts mode differ way))

pub returns-in_err-end_next-clause-size : goal.returns-in_err-end_next-clause-size
returns-in_err-end_next-clause-size g c =
    left_size c.loop-index.files.items c.args.files.now.items c.take_file-file.new.files.items c.loop-index.index O.LeftAlone c.take_file-file.ensures.list c.loop-index.invariant.size

pub returns-clause-put : goal.returns-clause-put
returns-clause-put g c = λ asked making start rows_of names texts mode differ way.
    let all = c.args.files.now.items in
    let i = c.loop-index.index in
    let none = drop_all i all (omega (arith, c.len-index-end.ensures)) in
    subst (λ (l : List FileOutput). AreEnding (kind_of g.G.Stage.state g.G.Stage.ended) asked making start rows_of names all l c.loop-index.outputs c.loop-index.stage) none (c.loop-index.invariant.ending asked making start rows_of names texts mode differ way)
