use Rattle.std.proofs.Common.{◌∙◌, refl, sym, ap}
use Rattle.query_text.specs.Stdin.{is_stdin}
use Rattle.query_text.proofs.Placing.{passes}
use Rattle.query_text.proofs.stdin.stdin_among.Goals as goal

pub loop-name-init : goal.loop-name-init
loop-name-init c = refl

pub loop-name-preserved : goal.loop-name-preserved
loop-name-preserved c = c.loop-name.invariant
    ∙ passes c.deref-name-items.result.now c.loop-name.name-index c.name-item.result c.loop-name-test.true c.name-item.is
    (sym (c.if-is_stdin.ensures ∙ ap is_stdin c.as_str.ensures))
