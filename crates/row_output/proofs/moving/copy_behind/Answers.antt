use Rattle.std.proofs.Common.{◌≡◌, ℕ, ◌<◌, ◌∙◌, ◌++◌, ◌∷◌, List, [], length, get_or, ap, arith}
use Rattle.row_output.proofs.Moves.{taken_more}
use Rattle.row_output.proofs.moving.copy_behind.Goals as goal

pub loop-index-preserved : goal.loop-index-preserved
loop-index-preserved c =
    let so_far = c.loop-index.invariant in
    let i = c.loop-index.index in
    let all = c.args.names.now in
    let copy = c.loop-index.copy in
    let text = c.index-as_slice-index.result in
    let low = so_far.low in
    let within : i < length all = omega arith in
    let is : text ≡ get_or all i text = c.index-as_slice-index.is ∙ ap (λ (l : List (List ℕ)). get_or l i text) c.as_slice.ensures in
    record {
      low = omega (arith, low);
      copied = c.in_ok-push.ensures.ok ∙ (ap (λ (t : List ℕ). copy ++ t ∷ []) (c.in_ok-copy.ensures ∙ is) ∙ taken_more all copy c.args.start i text low within so_far.copied);
    }
