use Rattle.std.proofs.Common.{ap, sym, ◌∙◌, None, Some, subst}
use Rattle.ncsa_input.specs.declared.shape.Shape.TheVariants.{Quoted}
use Rattle.ncsa_input.specs.declared.pieces.Piece.{Piece}
use Rattle.ncsa_input.specs.Pieces.{IsPiece}
use Rattle.ncsa_input.specs.Shapes.{taken}
use Rattle.ncsa_input.proofs.Taking.{enclosed_piece, quote_taken, quote_none}
use Rattle.ncsa_input.proofs.pieces.quoted.Goals as goal

pub returns : goal.returns
returns c =
    subst (λ (piece : Piece). IsPiece Quoted c.args.line.now c.args.at piece) (sym c.inside.ensures)
    (enclosed_piece Quoted c.args.line.now c.args.at c.in_ok-size.size 34 c.bytes_from.result.now c.in_ok-inner.inner.now c.bytes_from.ensures c.in_ok-inner.ensures
    (quote_taken c.bytes_from.result.now c.in_ok-inner.inner.now (Some c.in_ok-size.size) c.in_ok-inner.ensures c.in_ok-size.ensures.place) c.requires c.in_ok-size.ensures.within)

pub returns-in_err-inner : goal.returns-in_err-inner
returns-in_err-inner c = rw c.from_residual.ensures (ap (taken Quoted) (sym c.bytes_from.ensures) ∙ quote_none c.bytes_from.result.now c.in_err-inner.ensures)

pub returns-in_err-size : goal.returns-in_err-size
returns-in_err-size c =
    rw c.from_residual-in_err-size.ensures (ap (taken Quoted) (sym c.bytes_from.ensures) ∙ quote_taken c.bytes_from.result.now c.in_ok-inner.inner.now None c.in_ok-inner.ensures c.in_err-size.ensures.place)
