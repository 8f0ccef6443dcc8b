use Rattle.std.proofs.Common.{ap, sym, ◌∙◌, None, Some, subst}
use Rattle.ncsa_input.specs.declared.shape.Shape.TheVariants.{Bracketed}
use Rattle.ncsa_input.specs.declared.pieces.Piece.{Piece}
use Rattle.ncsa_input.specs.Pieces.{IsPiece}
use Rattle.ncsa_input.specs.Shapes.{taken}
use Rattle.ncsa_input.proofs.Taking.{enclosed_piece, bracket_taken, bracket_none}
use Rattle.ncsa_input.proofs.pieces.bracketed.Goals as goal

pub returns : goal.returns
returns c =
    subst (λ (piece : Piece). IsPiece Bracketed c.args.line.now c.args.at piece) (sym c.inside.ensures)
    (enclosed_piece Bracketed c.args.line.now c.args.at c.in_ok-size.size 91 c.bytes_from.result.now c.in_ok-inner.inner.now c.bytes_from.ensures c.in_ok-inner.ensures
    (bracket_taken c.bytes_from.result.now c.in_ok-inner.inner.now (Some c.in_ok-size.size) c.in_ok-inner.ensures c.in_ok-size.ensures.place) c.requires c.in_ok-size.ensures.within)

pub returns-in_err-inner : goal.returns-in_err-inner
returns-in_err-inner c = rw c.from_residual.ensures (ap (taken Bracketed) (sym c.bytes_from.ensures) ∙ bracket_none c.bytes_from.result.now c.in_err-inner.ensures)

pub returns-in_err-size : goal.returns-in_err-size
returns-in_err-size c =
    rw c.from_residual-in_err-size.ensures (ap (taken Bracketed) (sym c.bytes_from.ensures) ∙ bracket_taken c.bytes_from.result.now c.in_ok-inner.inner.now None c.in_ok-inner.ensures c.in_err-size.ensures.place)
