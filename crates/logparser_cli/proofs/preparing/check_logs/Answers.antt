use Rattle.std.proofs.Common.{◌∙◌, sym}
use Rattle.checkpointed_command.specs.Giving.{subqueries_of}
use Rattle.query_tree.specs.Views.{query_of}
use Rattle.logparser_cli.proofs.Prepared.{listed_first, none_first, without_subqueries}
use Rattle.logparser_cli.proofs.preparing.check_logs.Goals as goal

pub returns-in-Ok-clause-found : goal.returns-in-Ok-clause-found
returns-in-Ok-clause-found g c =
    let q = query_of c.args.query.now in
    listed_first (subqueries_of q) (g.L.Logs.folder c.args.logs.now) (g.L.Logs.folder c.find_spans.new.logs) q c.in-Ok.spans c.in-Ok.ensures.found

pub returns-then-is_empty-clause-found : goal.returns-then-is_empty-clause-found
returns-then-is_empty-clause-found g c =
    let q = query_of c.args.query.now in
    none_first (g.L.Logs.folder c.args.logs.now) (g.L.Logs.folder c.args.logs.now) q (without_subqueries c.args.query.now (sym c.is_empty.ensures ∙ c.if-is_empty.true))
