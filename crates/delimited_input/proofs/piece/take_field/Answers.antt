use Rattle.std.proofs.Common.{◌≡◌, ◌&&◌, false, drop, refl, sym, ◌∙◌}
use Rattle.std.proofs.lemmas.Result.{IfOk-weaker}
use Rattle.delimited_input.specs.Pieces.{is_opened}
use Rattle.delimited_input.proofs.PieceLemmas.{first_quoted, first_plain}
use Rattle.delimited_input.proofs.piece.take_field.Goals.{else-quotes-via-then-quotes+else-is_opened, else-quotes-via-else-quotes}
use Rattle.delimited_input.proofs.piece.take_field.Goals as goal

pub returns-then-is_opened : goal.returns-then-is_opened
returns-then-is_opened c =
    IfOk-weaker c.take_quoted.result _ _ (λ step took. first_quoted c.args.separator c.args.quotes c.args.line.now c.args.at c.args.row.now c.take_quoted.new.row step c.if-quotes.true (sym c.is_opened.ensures ∙ c.if-is_opened.true) took) c.take_quoted.ensures

pub returns-else-quotes : goal.returns-else-quotes
returns-else-quotes c =
    let other : (c.args.quotes && is_opened (drop c.args.at c.args.line.now)) ≡ false = elim c.else-quotes.branch [
      | else-quotes-via-then-quotes+else-is_opened w ↦ let unopened : is_opened (drop c.args.at c.args.line.now) ≡ false = sym w.is_opened.ensures ∙ w.if-is_opened.false in rw (w.if-quotes.true, unopened) refl
      | else-quotes-via-else-quotes w ↦ rw w.if-quotes.false refl
    ] in
    IfOk-weaker c.take_plain.result _ _ (λ step took. first_plain c.args.separator c.args.quotes c.args.line.now c.args.at c.args.row.now c.take_plain.new.row step other took) c.take_plain.ensures
