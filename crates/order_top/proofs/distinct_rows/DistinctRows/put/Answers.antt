use Rattle.std.proofs.Common.{◌∙◌, ap, sym, refl, Bool}
use Rattle.indexmap.specs.IndexSet.{insert_key}
use Rattle.order_top.specs.Finish.{Row}
use Rattle.order_top.proofs.Mirroring.{any_same}
use Rattle.order_top.proofs.Standing.{distinct_put, distinct_put_stands, distinct_stays, not_known}
use Rattle.order_top.proofs.Values.{same_is}
use Rattle.order_top.proofs.distinct_rows.DistinctRows.put.Goals as goal

pub returns-clause-ok : goal.returns-clause-ok
returns-clause-ok c = distinct_put c.self.inside.columns.items c.self.inside.descending c.self.inside.rows.keys c.args.self.now c.self.view_is c.args.row c.insert.new.self.keys (c.in_ok-insert.ensures.keys ∙ ap (λ (E : Row → Row → Bool). insert_key E c.self.inside.rows.keys c.args.row) same_is)

pub returns-clause-stands : goal.returns-clause-stands
returns-clause-stands c = λ rows stands. distinct_put_stands c.self.inside.columns.items c.self.inside.descending c.self.inside.rows.keys c.args.self.now c.self.view_is c.args.row c.insert.new.self.keys (c.in_ok-insert.ensures.keys ∙ ap (λ (E : Row → Row → Bool). insert_key E c.self.inside.rows.keys c.args.row) same_is) rows stands

pub returns-in_err-insert-clause-known : goal.returns-in_err-insert-clause-known
returns-in_err-insert-clause-known c = λ known.
    absurd (not_known _ c.args.self.now c.self.view_is c.args.row (sym (any_same c.args.row c.self.inside.rows.keys) ∙ c.in_err-insert.ensures.absent) known)

pub returns-clause-known : goal.returns-clause-known
returns-clause-known c = λ known.
    (refl, distinct_stays c.self.inside.columns.items c.self.inside.descending c.self.inside.rows.keys c.args.self.now c.self.view_is c.args.row c.insert.new.self.keys (c.in_ok-insert.ensures.keys ∙ ap (λ (E : Row → Row → Bool). insert_key E c.self.inside.rows.keys c.args.row) same_is) known)
