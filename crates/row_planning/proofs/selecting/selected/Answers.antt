use Rattle.std.proofs.Common.{◌≡◌, ◌∙◌, ◌≤◌, ◌+◌, ◌++◌, ◌∷◌, ℕ, List, [], Ok, length, map, take, drop, ap, sym, subst}
use Rattle.query_tree.specs.Views.{tree_of, item_of}
use Rattle.query_types.specs.declared.alias.Alias.{Alias}
use Rattle.query_types.specs.Meanings.{joined, meant}
use Rattle.query_types.specs.Planned.{selected, with_aliases}
use Rattle.query_types.proofs.Steps.{selected_step}
use Rattle.row_planning.proofs.selecting.selected.Goals as goal

pub loop-item-preserved : goal.loop-item-preserved
loop-item-preserved c =
    let table = c.args.table.now in
    let moment = c.args.moment.now in
    let all = c.args.all.now in
    let items = c.deref-item-items.result.now in
    let i = c.loop-item.item-index in
    let item = c.item-item.result in
    let rest = map item_of (drop (i + 1) items) in
    let found = subst (λ (l : List Alias). meant table moment l (tree_of item.value) ≡ Ok c.in_ok-meaning.meaning) c.in_force.ensures c.in_ok-meaning.ensures in
    let step = selected_step table moment all c.loop-item.meanings c.loop-item.before items i item c.in_ok-meaning.meaning c.loop-item-test.true c.item-item.is c.loop-item.invariant.before c.loop-item.invariant.all found in
    let size = sym c.behind-before.ensures in
    record {
      before = subst (λ (n : ℕ). n ≤ length all) size step.fits;
      all = subst (λ (n : ℕ). all ≡ with_aliases table moment (take n all) rest) size step.behind;
      found = c.loop-item.invariant.found ∙ step.found
          ∙ ap (λ n. joined (c.loop-item.meanings ++ c.in_ok-meaning.meaning ∷ []) (selected table moment (take n all) all rest)) size
          ∙ ap (λ front. joined front (selected table moment (take c.behind-before.result all) all rest)) (sym c.in_ok-push.ensures.ok);
    }
