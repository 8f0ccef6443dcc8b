use Rattle.std.proofs.Common.{◌∙◌, ap, option_map}
use Rattle.std.specs.List.{list_all}
use Rattle.query_types.specs.Conditions.{filter_of}
use Rattle.row_engine.specs.Rows.{keeps, selected_in}
use Rattle.row_engine.specs.Settled.{is_settled, is_settled_where}
use Rattle.row_engine.proofs.SettledLemmas.{items_done, keeps_settled, selected_settled, where_done}
use Rattle.row_engine.proofs.settling.settled.Goals as goal

pub returns-clause-keeps : goal.returns-clause-keeps
returns-clause-keeps c = λ row. ap (λ o. keeps o row) c.in_ok-condition.ensures ∙ keeps_settled row (option_map filter_of c.args.plan.now.condition)

pub returns-clause-selects : goal.returns-clause-selects
returns-clause-selects c = λ row. ap (selected_in row) c.in_ok-items.ensures ∙ selected_settled row c.args.plan.now.items

pub returns-clause-settled_items : goal.returns-clause-settled_items
returns-clause-settled_items c = ap (list_all is_settled) c.in_ok-items.ensures ∙ items_done c.args.plan.now.items

pub returns-clause-settled_where : goal.returns-clause-settled_where
returns-clause-settled_where c = ap is_settled_where c.in_ok-condition.ensures ∙ where_done (option_map filter_of c.args.plan.now.condition)
