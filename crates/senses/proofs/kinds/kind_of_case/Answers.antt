use Rattle.std.proofs.Common.{◌∙◌, ◌-◌, map, take, drop, length, ap, sym}
use Rattle.lp_values.specs.declared.kind.Kind.{Kind}
use Rattle.query_types.specs.Meanings.{sharper}
use Rattle.senses.specs.Senses.{kind_of_case, sense_of}
use Rattle.senses.proofs.Forms.{kind_step}
use Rattle.senses.proofs.kinds.kind_of_case.Goals as goal

pub loop-rest-preserved : goal.loop-rest-preserved
loop-rest-preserved c =
    let columns = c.args.table.now.columns in
    let rest = c.loop-rest.rest.now in
    let kind = c.loop-rest.kind in
    c.loop-rest.invariant ∙ kind_step columns kind rest c.value-item.result c.in-len2-up.len_at_least c.value-item.is
    ∙ ap (λ (k : Kind). kind_of_case columns k (map sense_of (take (length rest - 2) (drop 2 rest)))) (sym (c.sharper-kind.ensures ∙ ap (sharper kind) c.kind_of_sense.ensures))
