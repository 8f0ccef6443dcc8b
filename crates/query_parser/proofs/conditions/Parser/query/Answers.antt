use Rattle.std.proofs.Common.{◌≡◌, length, List, refl, sym, ◌∙◌, ap}
use Rattle.std.proofs.lemmas.Result.{err_from_is_err_and}
use Rattle.grammar.specs.Forms.{Rule as r}
use Rattle.grammar.proofs.Answering.{reads_map, reads_seq, reads_ref}
use Rattle.query_parser.proofs.Stopping.{stop_map, stop_first, stop_second, stop_ref, given_err, given_as}
use Rattle.query_parser.proofs.Querying.{query_joined, numbers_joined}
use Rattle.query_parser.specs.Queries.{query_with}
use Rattle.query_parser.specs.Conditions.{count_from}
use Rattle.query_tree.specs.declared.query.Query.{Query}
use Rattle.query_parser.proofs.conditions.Parser.query.Goals as goal

pub returns-in_err-selected-clause-exact : goal.returns-in_err-selected-clause-exact
returns-in_err-selected-clause-exact c =
    let p = err_from_is_err_and c.from_residual.result c.from_residual.ensures.1 in
    rw (p.1, p.2) (given_err (stop_ref {m = r.query_rule} (stop_map (stop_first refl refl c.in_err-selected.ensures.is))))

pub returns-in_err-sourced-clause-exact : goal.returns-in_err-sourced-clause-exact
returns-in_err-sourced-clause-exact c =
    let p = err_from_is_err_and c.from_residual-in_err-sourced.result c.from_residual-in_err-sourced.ensures.1 in
    rw (p.1, p.2) (given_err (stop_ref {m = r.query_rule} (stop_map (stop_second refl c.in_ok-selected.ensures.is (stop_first refl refl c.in_err-sourced.ensures.is)))))

pub returns-in-Err-clause-exact : goal.returns-in-Err-clause-exact
returns-in-Err-clause-exact c =
    given_err (stop_ref {m = r.query_rule} (stop_map (stop_second refl c.in_ok-selected.ensures.is (stop_second refl c.in_ok-sourced.ensures.is.0 c.in-Err.ensures.is))))

pub returns-in-Ok-clause-exact : goal.returns-in-Ok-clause-exact
returns-in-Ok-clause-exact c =
    let same : c.replace-subqueries.result.items ≡ c.ended.new.self.subqueries.items = ap (λ (x : _). x.items) c.replace-subqueries.ensures.value in
    given_as (c.query_of_parts.ensures.query ∙ ap (λ (l : List Query). query_with c.in_ok-selected.selected c.in_ok-sourced.sourced c.in-Ok.ended l) same ∙ query_joined c.in_ok-selected.selected c.in_ok-sourced.sourced c.in-Ok.ended _ _ _ c.requires c.in_ok-sourced.ensures.is.1 c.in-Ok.ensures.is.1) (reads_ref {m = r.query_rule} (reads_map (reads_seq refl c.in_ok-selected.ensures.is (reads_seq refl c.in_ok-sourced.ensures.is.0 c.in-Ok.ensures.is.0))))

pub returns-in-Ok-clause-numbered : goal.returns-in-Ok-clause-numbered
returns-in-Ok-clause-numbered c =
    let same : c.replace-subqueries.result.items ≡ c.ended.new.self.subqueries.items = ap (λ (x : _). x.items) c.replace-subqueries.ensures.value in
    c.query_of_parts.ensures.condition ∙ numbers_joined _ _ _ _ _ c.requires c.in_ok-sourced.ensures.is.1 c.in-Ok.ensures.is.1 ∙ ap (λ (l : List Query). count_from 0 (length l)) (sym same) ∙ ap (λ k. count_from 0 k) (sym c.query_of_parts.ensures.count)
