use Rattle.std.proofs.Common.{◌≡◌, Err, Result, ap, refl, sym, ◌∙◌}
use Rattle.reports.specs.declared.status.Status.{Status}
use Rattle.checkpointed_command.specs.Texts.{sections_in}
use Rattle.query_tree.specs.Views.{query_of}
use Rattle.logparser_cli.proofs.Templating.{logs_untemplated, template_of, without_template}
use Rattle.logparser_cli.proofs.template.find_template.Goals as goal

pub returns-in-Ok-clause-found : goal.returns-in-Ok-clause-found
returns-in-Ok-clause-found g c = template_of (g.L.Logs.folder c.args.logs.now) (g.L.Logs.folder c.find_template.new.logs) c.args.spec.now (query_of c.args.query.now) _ (sections_in (λ t. t.value) c.in-Ok.field-0.shared) c.in-Ok.ensures.found

pub returns-clause-refused : goal.returns-clause-refused
returns-clause-refused g c = without_template (g.L.Logs.folder c.args.logs.now) (g.L.Logs.folder c.find_template.new.logs) c.args.spec.now (query_of c.args.query.now) c.in-Err.fault c.untemplated.result c.untemplated.ensures c.in-Err.ensures.refused

same : {T : Type 0} (a b : Status) (r : Result T Status) → r ≡ Err a → r ≡ Err b → a ≡ b
same a b r e f = cc

pub returns-clause-failed : goal.returns-clause-failed
returns-clause-failed g c = λ e. c.in-Err.ensures.failed (ap Err (logs_untemplated c.in-Err.fault (sym c.untemplated.ensures ∙ same _ _ _ refl e)))
