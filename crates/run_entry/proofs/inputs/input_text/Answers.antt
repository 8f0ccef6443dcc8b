use Rattle.std.proofs.Common.{sym, ◌∙◌, subst}
use Rattle.ledger_model.specs.Inputs.{IsInput}
use Rattle.query_tree.specs.Views.{query_of}
use Rattle.run_entry.proofs.Telling.{is_input}
use Rattle.run_entry.proofs.inputs.input_text.Goals as goal

pub unreachable-requires : goal.unreachable-requires
unreachable-requires c = c.in-None.ensures (subst IsInput (sym (c.from_string.ensures ∙ c.in_ok-text.ensures)) (is_input c.args.spec.now (query_of c.args.query.now) c.requires.range))
