use Rattle.std.proofs.Common.{◌+◌, ◌<◌, ◌∙◌, ◌++◌, ◌∷◌, [], drop, length, sym, ap, refl, arith}
use Rattle.std.proofs.lemmas.List.{length-set, append-nil}
use Rattle.lp_values.specs.declared.value.Value.{Value}
use Rattle.lp_values.specs.declared.value.Value.TheVariants.{Null}
use Rattle.row_steps.proofs.Moves.{moved_more, behind_more}
use Rattle.row_steps.proofs.cutting.move_values.Goals as goal

pub loop-offset-init : goal.loop-offset-init
loop-offset-init c = record { moved = sym (append-nil c.args.into.now); behind = refl; size = refl }

pub loop-offset-preserved : goal.loop-offset-preserved
loop-offset-preserved c =
    let so_far = c.loop-offset.invariant in
    let i = c.loop-offset.offset in
    let start = c.args.start in
    let all = c.args.from.now in
    let now = c.loop-offset.from in
    let into = c.loop-offset.into in
    let low = c.requires.within in
    let within : start + i < length all = omega arith in
    record {
      moved = c.in_ok-push.ensures.ok ∙ (ap (λ (v : Value). into ++ v ∷ []) c.replace.ensures.result ∙ moved_more now all into c.args.into.now start i Null within so_far.behind so_far.moved);
      behind = ap (drop (start + (i + 1))) c.replace.ensures.list ∙ behind_more now all start i Null so_far.behind;
      size = ap length c.replace.ensures.list ∙ (length-set now (start + i) Null ∙ so_far.size);
    }

pub overflow_add-start : goal.overflow_add-start
overflow_add-start c = let fits = c.requires.fits in omega arith
