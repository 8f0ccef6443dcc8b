-- What is noted of cells stays true while texts are appended.
use Rattle.std.proofs.Common.{◌≡◌, ◌+◌, ◌-◌, ◌≤◌, ℕ, List, [], ◌∷◌, ◌++◌, length, take, drop, ap, sym, ◌∙◌, arith, length-append, length-drop}
use Rattle.std.proofs.lemmas.List.{drop-append-le, take-append-le}
use Rattle.std.proofs.Math.Seq.{drop-append_seam, take-length}
use Rattle.text_formats.specs.declared.line.Cell.{Cell}
use Rattle.text_formats.specs.Tables.{scalars}
use Rattle.text_formats.specs.Noted.{cell_text, texts_in, IsNoted, AreNoted}

cell_text-more : (texts more : List ℕ) (cell : Cell) → cell.start + cell.size ≤ length texts → cell_text (texts ++ more) cell ≡ cell_text texts cell
cell_text-more texts more cell fits =
    let n = length-drop cell.start texts in
    ap (take cell.size) (drop-append-le cell.start texts more (omega arith)) ∙ take-append-le cell.size (drop cell.start texts) more (omega arith)

noted_more : (texts more : List ℕ) (cell : Cell) → IsNoted texts cell → IsNoted (texts ++ more) cell
noted_more texts more cell (fits, is) =
    let n = length-append texts more in
    (omega arith, is ∙ ap scalars (sym (cell_text-more texts more cell fits)))

-- the new cell's text is the last one
cell_text-last : (texts text : List ℕ) (cell : Cell) → cell.start ≡ length texts → cell.size ≡ length text → cell_text (texts ++ text) cell ≡ text
cell_text-last texts text cell start size =
    ap (λ n. take cell.size (drop n (texts ++ text))) start ∙ (ap (take cell.size) (drop-append_seam texts text) ∙ (ap (λ n. take n text) size ∙ take-length text))

noted_last : (texts text : List ℕ) (cell : Cell) → cell.start ≡ length texts → cell.size ≡ length text → cell.width ≡ scalars text → IsNoted (texts ++ text) cell
noted_last texts text cell start size width =
    let n = length-append texts text in
    (omega arith, width ∙ ap scalars (sym (cell_text-last texts text cell start size)))

are_noted_next : (texts text : List ℕ) (cells : List Cell) (cell : Cell) → AreNoted texts cells → IsNoted (texts ++ text) cell → AreNoted (texts ++ text) (cells ++ cell ∷ [])
are_noted_next texts text [] cell are is = (is, tt)
are_noted_next texts text (other ∷ cells) cell are is = (noted_more texts text other are.0, are_noted_next texts text cells cell are.1 is)

texts_in-next : (texts text : List ℕ) (cells : List Cell) (cell : Cell) → AreNoted texts cells → cell_text (texts ++ text) cell ≡ text → texts_in (texts ++ text) (cells ++ cell ∷ []) ≡ texts_in texts cells ++ text ∷ []
texts_in-next texts text [] cell are is = ap (λ t. t ∷ []) is
texts_in-next texts text (other ∷ cells) cell are is =
    ap (λ t. t ∷ texts_in (texts ++ text) (cells ++ cell ∷ [])) (cell_text-more texts text other are.0.0) ∙ ap (λ t. cell_text texts other ∷ t) (texts_in-next texts text cells cell are.1 is)

-- one cell more
pub noted_next : (texts text new : List ℕ) (cells after : List Cell) (cell : Cell) → AreNoted texts cells → new ≡ texts ++ text → cell.start ≡ length texts → cell.size ≡ length new - length texts → cell.width ≡ scalars text
    → after ≡ cells ++ cell ∷ [] → AreNoted new after × (texts_in new after ≡ texts_in texts cells ++ text ∷ [])
noted_next texts text new cells after cell are added start size width one =
    let n = ap length added ∙ length-append texts text in
    let fits : cell.size ≡ length text = omega arith in
    rw (added, one)
    (are_noted_next texts text cells cell are (noted_last texts text cell start fits width), texts_in-next texts text cells cell are (cell_text-last texts text cell start fits))
