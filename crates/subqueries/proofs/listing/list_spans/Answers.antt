use Rattle.std.proofs.Common.{List, ℕ, subst, ◌∙◌}
use Rattle.log_listing.specs.Listed.{Lists, IsListFault}
use Rattle.log_listing.specs.Lengths.{names_in}
use Rattle.lp_model.proofs.Growing.{OnlyGrow-refl}
use Rattle.subqueries.proofs.Wholes.{names_behind, spans_of, there_of}
use Rattle.subqueries.proofs.listing.list_spans.Goals as goal

pub returns-in_default-clause-grows : goal.returns-in_default-clause-grows
returns-in_default-clause-grows g c = OnlyGrow-refl _

pub returns-in-Ok-whole_spans-clause-found : goal.returns-in-Ok-whole_spans-clause-found
returns-in-Ok-whole_spans-clause-found g c = record {
  logs = c.in-Ok-list_logs.list;
  are_listed = record {
    listed = subst (λ (texts : List (List ℕ)). Lists (g.L.Logs.folder c.list_logs.new.logs) texts (names_in c.in-Ok-list_logs.list)) (c.in-Ok.ensures ∙ names_behind c.args.query.now) c.in-Ok-list_logs.ensures.listed;
    lengths = c.in-Ok-list_logs.ensures.lengths;
    few = c.in-Ok-list_logs.ensures.few;
  };
  wholes = c.in-Ok-whole_spans.ensures;
}

pub returns-in-Ok-whole_spans-clause-spans : goal.returns-in-Ok-whole_spans-clause-spans
returns-in-Ok-whole_spans-clause-spans g c = spans_of _ _ c.in-Ok-list_logs.list _ c.in-Ok-whole_spans.ensures c.in-Ok-list_logs.ensures.lengths

pub returns-in-Ok-whole_spans-clause-there : goal.returns-in-Ok-whole_spans-clause-there
returns-in-Ok-whole_spans-clause-there g c = there_of _ _ c.in-Ok-list_logs.list _ c.in-Ok-whole_spans.ensures c.in-Ok-list_logs.ensures.lengths

pub returns-in-Err-clause-refused : goal.returns-in-Err-clause-refused
returns-in-Err-clause-refused g c =
    subst (λ (texts : List (List ℕ)). IsListFault (g.L.Logs.folder c.list_logs.new.logs) texts c.in-Err.fault) (c.in-Ok.ensures ∙ names_behind c.args.query.now) c.in-Err.ensures.refused
