use Rattle.std.proofs.Common.{◌≡◌, ◌∙◌, ◌≤◌, ◌+◌, ◌++◌, ◌∷◌, ℕ, List, [], Ok, length, map, take, drop, ap, sym, subst}
use Rattle.std.proofs.lemmas.List.{length-map, map_push}
use Rattle.query_tree.specs.Views.{tree_of, item_of}
use Rattle.query_types.specs.Meanings.{joined}
use Rattle.query_types.specs.Planned.{count_alias}
use Rattle.senses.specs.declared.sense.SenseForm.{SenseForm}
use Rattle.senses.specs.Senses.{sense_of}
use Rattle.sensing.specs.Sensing.{Named, named_of, sensed}
use Rattle.group_planning.specs.Clauses.{items_sensed, with_all_named}
use Rattle.group_planning.proofs.Steps.{items_step}
use Rattle.group_planning.proofs.selecting.items_sensed.Goals as goal

pub loop-item-preserved : goal.loop-item-preserved
loop-item-preserved c =
    let wide = c.args.wide in
    let table = c.args.table.now in
    let moment = c.args.moment.now in
    let all = map named_of c.args.all.now in
    let items = c.deref-item-items.result.now in
    let i = c.loop-item.item-index in
    let item = c.item-item.result in
    let rest = map item_of (drop (i + 1) items) in
    let front = map sense_of c.loop-item.senses.items in
    let sense = sense_of c.in_ok-sense.sense in
    let found = subst (λ (l : List Named). sensed wide table moment l (tree_of item.value) ≡ Ok sense) c.names_in_force-names.ensures c.in_ok-sense.ensures in
    let fits = subst (λ (n : ℕ). c.loop-item.before ≤ n) (sym (length-map c.args.all.now named_of)) c.loop-item.invariant.before in
    let step = items_step wide table moment all front c.loop-item.before items i item sense c.loop-item-test.true c.item-item.is fits c.loop-item.invariant.all found in
    let size = sym c.behind-before.ensures in
    let more : map sense_of c.push.new.self.items ≡ front ++ sense ∷ [] =
    ap (λ (l : List SenseForm). map sense_of l) c.in_ok-push.ensures.items ∙ map_push sense_of c.loop-item.senses.items c.in_ok-sense.sense in
    record {
      before = subst (λ (n : ℕ). n ≤ length c.args.all.now) size (subst (λ (n : ℕ). c.loop-item.before + count_alias item.alias ≤ n) (length-map c.args.all.now named_of) step.fits);
      all = subst (λ (n : ℕ). all ≡ with_all_named table moment (take n all) rest) size step.behind;
      found = c.loop-item.invariant.found ∙ step.found
          ∙ ap (λ n. joined (front ++ sense ∷ []) (items_sensed wide table moment (take n all) all rest)) size
          ∙ ap (λ front. joined front (items_sensed wide table moment (take c.behind-before.result all) all rest)) (sym more);
    }
