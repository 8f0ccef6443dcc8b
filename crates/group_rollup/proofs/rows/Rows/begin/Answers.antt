use Rattle.std.proofs.Common.{◌∙◌, ap, map, Bool, ℕ, List, length}
use Rattle.std.specs.List.{list_any}
use Rattle.lp_values.specs.declared.value.Value.{Value}
use Rattle.group_rollup.specs.Columns.{begun, cut}
use Rattle.group_rollup.proofs.ColumnLemmas.{cut_begun_all}
use Rattle.group_rollup.proofs.FirstsLemmas.{same_as}
use Rattle.group_rollup.proofs.rows.Rows.begin.Goals as goal

pub insert_new-requires : goal.insert_new-requires
insert_new-requires c = record { absent = ap (λ (e : List Value → List Value → Bool). list_any (e c.args.keys) c.args.self.now.keys.keys) same_as ∙ c.requires.absent }

pub returns-in-Err-clause-err : goal.returns-in-Err-clause-err
returns-in-Err-clause-err c = (
  c.in-Err.ensures.err,
  c.cut_all.ensures ∙ (ap (map (cut c.len-count.result)) c.in_ok-begin_all.ensures.ok
      ∙ (ap (λ (n : ℕ). map (cut n) (map begun c.args.self.now.columns.items)) c.len-count.ensures.len ∙ cut_begun_all (length c.args.self.now.keys.keys) c.args.self.now.columns.items c.requires.wide)),
)
