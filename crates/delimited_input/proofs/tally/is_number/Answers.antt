use Rattle.std.proofs.Common.{◌≡◌, true, false, is_some, sym, ap, ◌∙◌}
use Rattle.delimited_input.specs.Kinds.{is_integer, is_number}
use Rattle.delimited_input.proofs.tally.is_number.Goals as goal

pub returns-then-is_integer : goal.returns-then-is_integer
unfolding is_number
returns-then-is_integer c =
    let whole : is_integer c.args.text.now ≡ true = sym c.is_integer.ensures ∙ c.if-is_integer.true in
    rw whole c.if-is_integer.true

pub returns-else-is_integer : goal.returns-else-is_integer
unfolding is_number
returns-else-is_integer c =
    let other : is_integer c.args.text.now ≡ false = sym c.is_integer.ensures ∙ c.if-is_integer.false in
    rw other (c.is_some.ensures ∙ ap is_some c.read_real.ensures)
