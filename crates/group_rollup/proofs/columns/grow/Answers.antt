use Rattle.std.proofs.Common.{◌≡◌, ◌+◌, ◌<◌, ℕ, suc, List, ◌++◌, take, drop, get_or, ◌∙◌, ap, length, map, arith, Ok, Err}
use Rattle.std.proofs.Math.ListN.{set}
use Rattle.std.proofs.lemmas.List.{set-get_or, length-set}
use Rattle.std.specs.Result.{OnErr}
use Rattle.std.specs.declared.result.Result.{Result}
use Rattle.group_rollup.specs.declared.column.AggregateColumn.{AggregateColumn}
use Rattle.group_rollup.specs.Columns.{cut, begun}
use Rattle.group_rollup.proofs.ColumnLemmas.{cut_grown, grown_more, grown_at}
use Rattle.group_rollup.proofs.columns.grow.Goals as goal

err_of : {A E P : Type 0} (r : Result A E) → P → OnErr r P
err_of (Ok a) p = tt
err_of (Err e) p = p

up : (i : ℕ) → suc i ≡ i + 1
up i = omega arith

pub returns-in_err-begin-clause-err : goal.returns-in_err-begin-clause-err
returns-in_err-begin-clause-err c =
    let xs = c.loop-index.columns.items in
    let i = c.loop-index.index in
    let d = c.index_mut.result.now in
    err_of c.from_residual.result (λ n all.
    ap (λ (x : AggregateColumn). map (cut n) (set xs i x)) (c.in_err-begin.ensures.err ∙ c.index_mut.ensures.value)
    ∙ (ap (map (cut n)) (set-get_or xs i d) ∙ (ap (map (cut n)) c.loop-index.invariant.grown ∙ cut_grown n i c.args.columns.now.items all)))

pub loop-index-preserved : goal.loop-index-preserved
loop-index-preserved c =
    let xs = c.loop-index.columns.items in
    let old = c.args.columns.now.items in
    let i = c.loop-index.index in
    let d = c.index_mut.result.now in
    let low : i < length old = omega (arith, c.len-index-end.ensures) in
    record {
      same = length-set xs i c.begin.new.self ∙ c.loop-index.invariant.same;
      grown = ap (set xs i) (c.in_ok-begin.ensures.ok ∙ ap begun c.index_mut.ensures.value)
          ∙ (ap (λ (zs : List AggregateColumn). set zs i (begun (get_or zs i d))) c.loop-index.invariant.grown
          ∙ (ap (λ (x : AggregateColumn). set (map begun (take i old) ++ drop i old) i (begun x)) (grown_at i old d)
          ∙ (grown_more i old d low ∙ ap (λ (k : ℕ). map begun (take k old) ++ drop k old) (up i))));
    }
