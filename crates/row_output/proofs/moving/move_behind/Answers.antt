use Rattle.std.proofs.Common.{◌+◌, ◌<◌, ◌∙◌, ◌++◌, ◌∷◌, [], drop, length, ap, refl, arith}
use Rattle.std.proofs.lemmas.List.{length-set}
use Rattle.lp_values.specs.declared.value.Value.{Value}
use Rattle.lp_values.specs.declared.value.Value.TheVariants.{Null}
use Rattle.row_output.proofs.Moves.{same_at, taken_none, taken_more, behind_set}
use Rattle.row_output.proofs.moving.move_behind.Goals as goal

pub loop-index-init : goal.loop-index-init
loop-index-init c = record { low = omega arith; moved = c.clear.ensures ∙ taken_none c.args.row.now c.args.start; behind = refl; size = refl }

pub loop-index-preserved : goal.loop-index-preserved
loop-index-preserved c =
    let so_far = c.loop-index.invariant in
    let i = c.loop-index.index in
    let all = c.args.row.now in
    let now = c.loop-index.row in
    let into = c.loop-index.into in
    let low = so_far.low in
    let within : i < length all = omega arith in
    record {
      low = omega (arith, low);
      moved = c.in_ok-push.ensures.ok ∙ (ap (λ (v : Value). into ++ v ∷ []) (c.replace.ensures.result ∙ same_at now all i Null so_far.behind) ∙ taken_more all into c.args.start i Null low within so_far.moved);
      behind = ap (drop (i + 1)) c.replace.ensures.list ∙ behind_set now all i Null so_far.behind;
      size = ap length c.replace.ensures.list ∙ (length-set now i Null ∙ so_far.size);
    }
