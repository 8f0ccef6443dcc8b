use Rattle.std.proofs.Common.{◌≡◌, Err, sym, subst, List, ℕ, ap, ◌∙◌}
use Rattle.query_tree.specs.Views.{query_of}
use Rattle.log_listing.specs.Listed.{Lists, IsListFault}
use Rattle.log_listing.specs.Lengths.{names_in}
use Rattle.lp_model.proofs.Growing.{OnlyGrow-refl}
use Rattle.reports.specs.declared.status.Status.{Status}
use Rattle.reports.specs.declared.status.Status.TheVariants.{LogsFault}
use Rattle.logparser_cli.specs.Logs.{IsUnlisted}
use Rattle.logparser_cli.proofs.Wholes.{from_listed, spans_of, there_of, is_unlisted, logs_failed}
use Rattle.checkpointed_command.proofs.Naming.{names_behind}
use Rattle.logparser_cli.proofs.listing.find_spans.Goals as goal

pub returns-in_default-clause-grows : goal.returns-in_default-clause-grows
returns-in_default-clause-grows g c = OnlyGrow-refl _

pub returns-in-Ok-whole_spans-clause-found : goal.returns-in-Ok-whole_spans-clause-found
returns-in-Ok-whole_spans-clause-found g c = record {
  logs = c.in-Ok-list_logs.list;
  are_logs = from_listed (g.L.Logs.folder c.args.logs.now) (g.L.Logs.folder c.list_logs.new.logs) (query_of c.args.query.now) c.in-Ok-list_logs.list c.requires.files (record {
    listed = subst (λ (texts : List (List ℕ)). Lists (g.L.Logs.folder c.list_logs.new.logs) texts (names_in c.in-Ok-list_logs.list)) (c.in-Ok.ensures ∙ names_behind c.args.query.now) c.in-Ok-list_logs.ensures.listed;
    lengths = c.in-Ok-list_logs.ensures.lengths;
    few = c.in-Ok-list_logs.ensures.few;
  });
  wholes = c.in-Ok-whole_spans.ensures;
}

pub returns-in-Ok-whole_spans-clause-spans : goal.returns-in-Ok-whole_spans-clause-spans
returns-in-Ok-whole_spans-clause-spans g c = spans_of _ _ c.in-Ok-list_logs.list _ c.in-Ok-whole_spans.ensures c.in-Ok-list_logs.ensures.lengths

pub returns-in-Ok-whole_spans-clause-there : goal.returns-in-Ok-whole_spans-clause-there
returns-in-Ok-whole_spans-clause-there g c = there_of _ _ c.in-Ok-list_logs.list _ c.in-Ok-whole_spans.ensures c.in-Ok-list_logs.ensures.lengths

pub returns-in-Err-clause-refused : goal.returns-in-Err-clause-refused
returns-in-Err-clause-refused g c =
    let now = g.L.Logs.folder c.list_logs.new.logs in
    let q = query_of c.args.query.now in
    let refused = subst (λ (texts : List (List ℕ)). IsListFault now texts c.in-Err.fault) (c.in-Ok.ensures ∙ names_behind c.args.query.now) c.in-Err.ensures.refused in
    subst (λ (status : Status). IsUnlisted now q status) (sym c.unlisted.ensures) (is_unlisted now q c.in-Err.fault refused)

pub returns-in-Err-clause-failed : goal.returns-in-Err-clause-failed
returns-in-Err-clause-failed g c = λ is.
    let e : c.unlisted.result ≡ LogsFault = cc in
    c.in-Err.ensures.failed (ap Err (logs_failed c.in-Err.fault (sym c.unlisted.ensures ∙ e)))
