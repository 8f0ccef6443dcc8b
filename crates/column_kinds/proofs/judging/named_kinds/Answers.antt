use Rattle.std.proofs.Common.{◌∙◌, ◌+◌, ◌++◌, ap, ap₂, sym, drop, get_or, ℕ, List}
use Rattle.lp_values.specs.declared.kind.Kind.{Kind}
use Rattle.lp_values.specs.declared.kind.Kind.TheVariants as K
use Rattle.query_types.specs.declared.table.NamedKind.{NamedKind}
use Rattle.column_kinds.specs.Fields.{indexed}
use Rattle.column_kinds.proofs.Steps.{indexed_step}
use Rattle.column_kinds.proofs.judging.named_kinds.Goals as goal

abbrev named : List ℕ → Kind → NamedKind
named name kind = record { name = name; kind = kind }

pub loop-column-preserved : goal.loop-column-preserved
loop-column-preserved c =
    let kinds = c.args.kinds.now in
    let make : ℕ → List ℕ → NamedKind = λ at name. named name (get_or kinds at K.Any) in
    let items = c.as_slice-column-items.result.now in
    let i = c.loop-column.column-index in
    let name = c.column-item.result in
    let same = c.loop-column.invariant.at in
    let made = ap₂ named (c.in_ok-name.ensures ∙ c.name.ensures) (c.kind_at-kind.ensures ∙ ap (λ n. get_or kinds n K.Any) same) in
    record {
      at = ap (λ n. n + 1) same;
      columns = c.loop-column.invariant.columns
          ∙ (indexed_step make items i name c.loop-column.columns (named c.in_ok-name.name c.kind_at-kind.result) c.loop-column-test.true c.column-item.is made
          ∙ ap (λ front. front ++ indexed make (i + 1) (drop (i + 1) items)) (sym c.in_ok-push.ensures.ok));
    }
