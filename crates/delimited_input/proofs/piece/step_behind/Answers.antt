use Rattle.std.proofs.Common.{List, ℕ, subst, arith}
use Rattle.delimited_input.specs.Fields.{quoted_field}
use Rattle.delimited_input.specs.Pieces.{IsBehind}
use Rattle.delimited_input.specs.declared.piece.Step.TheVariants.{Last}
use Rattle.delimited_input.proofs.PieceLemmas.{closed_last, closed_next}
use Rattle.delimited_input.proofs.piece.step_behind.Goals as goal

pub returns-in-34 : goal.returns-in-34
returns-in-34 c =
    subst (λ (ys : List ℕ). IsBehind (quoted_field c.args.separator ys) c.args.line.now Last) c.bytes_from.ensures (closed_last c.args.separator c.args.line.now c.bytes_from.result.now (omega arith) (omega arith))

pub returns-in-34-3 : goal.returns-in-34-3
returns-in-34-3 c =
    closed_next c.args.separator c.args.line.now c.args.at c.bytes_from.result.now c.bytes_from.ensures (omega arith) (omega arith) (omega arith) (λ quote. omega arith)
