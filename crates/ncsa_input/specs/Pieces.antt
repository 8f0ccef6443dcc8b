-- Where a part of a line stands.
use Rattle.std.specs.Prelude.{◌≡◌, ◌≤◌, ◌<◌, ℕ, ◌+◌, List, length, drop, Some}
use Rattle.line_input.specs.Taken.{part_of}
use Rattle.ncsa_input.specs.declared.pieces.Piece.{Piece}
use Rattle.ncsa_input.specs.declared.shape.Shape.{Shape}
use Rattle.ncsa_input.specs.Shapes.{taken}

-- the part that a shape takes at a place of a line
pub record IsPiece (shape : Shape) (line : List ℕ) (at : ℕ) (piece : Piece) : Type 0 where
  pub ahead : at < piece.end
  pub within : piece.end ≤ length line
  pub takes : taken shape (drop at line) ≡ Some (part_of line piece.bytes.from piece.bytes.to, drop piece.end line)

-- so many bytes behind one that opens them, with one that closes them
abbrev pub enclosed : ℕ → ℕ → Piece
enclosed at size = record { bytes = record { from = at + 1; to = at + 1 + size }; end = at + 1 + size + 1 }
