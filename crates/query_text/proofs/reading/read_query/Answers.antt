use Rattle.std.proofs.Common.{ℕ, List, subst}
use Rattle.std.proofs.lemmas.Result.{err_from_is_err_and, IfErr-weaker}
use Rattle.query_tree.specs.Views.{query_of}
use Rattle.query_text.specs.Texts.{Parses, IsOnlyQuery, IsReadFault, HasNone}
use Rattle.query_text.specs.Refusals.{IsPlaceRefusal}
use Rattle.query_text.proofs.Refusing.{place_refused, place_refused_none, query_so, only_so}
use Rattle.query_text.proofs.reading.read_query.Goals as goal

pub returns-in_err-text-clause-fault : goal.returns-in_err-text-clause-fault
returns-in_err-text-clause-fault c =
    let p = err_from_is_err_and c.from_residual.result c.from_residual.ensures.1 in
    rw (p.1, p.2) c.in_err-text.ensures.fault

pub returns-in_err-text-clause-none : goal.returns-in_err-text-clause-none
returns-in_err-text-clause-none c =
    let p = err_from_is_err_and c.from_residual.result c.from_residual.ensures.1 in
    rw (p.1, p.2) c.in_err-text.ensures.none

pub returns-in_err-query-clause-fault : goal.returns-in_err-query-clause-fault
returns-in_err-query-clause-fault c =
    let p = err_from_is_err_and c.from_residual-in_err-query.result c.from_residual-in_err-query.ensures.1 in
    rw (p.1, p.2) (subst (λ (t : List ℕ). IsReadFault t c.in_err-query.field-0.0) c.in_ok-text.ensures.text c.in_err-query.ensures.fault)

pub returns-in_err-query-clause-none : goal.returns-in_err-query-clause-none
returns-in_err-query-clause-none c =
    let p = err_from_is_err_and c.from_residual-in_err-query.result c.from_residual-in_err-query.ensures.1 in
    rw (p.1, p.2) (subst (λ (t : List ℕ). HasNone t c.in_err-query.field-0.0) c.in_ok-text.ensures.text c.in_err-query.ensures.none)

pub returns-clause-query : goal.returns-clause-query
returns-clause-query c =
    query_so c.args.text.now c.in_ok-query.query c.check_stdin.result
    (subst (λ (t : List ℕ). Parses t (query_of c.in_ok-query.query)) c.in_ok-text.ensures.text c.in_ok-query.ensures.query)
    c.check_stdin.ensures.same c.check_stdin.ensures.placed

pub returns-clause-only : goal.returns-clause-only
returns-clause-only c =
    only_so c.args.text.now c.in_ok-query.query c.check_stdin.result
    (subst (λ (t : List ℕ). IsOnlyQuery t (query_of c.in_ok-query.query)) c.in_ok-text.ensures.text c.in_ok-query.ensures.only)
    c.check_stdin.ensures.same

pub returns-clause-fault : goal.returns-clause-fault
returns-clause-fault c =
    IfErr-weaker c.check_stdin.result (IsPlaceRefusal (query_of c.in_ok-query.query)) (IsReadFault c.args.text.now)
    (λ given refused. place_refused c.args.text.now (query_of c.in_ok-query.query) given
    (subst (λ (t : List ℕ). Parses t (query_of c.in_ok-query.query)) c.in_ok-text.ensures.text c.in_ok-query.ensures.query) refused)
    c.check_stdin.ensures.fault

pub returns-clause-none : goal.returns-clause-none
returns-clause-none c =
    IfErr-weaker c.check_stdin.result (IsPlaceRefusal (query_of c.in_ok-query.query)) (HasNone c.args.text.now)
    (λ given refused. place_refused_none c.args.text.now (query_of c.in_ok-query.query) given
    (subst (λ (t : List ℕ). IsOnlyQuery t (query_of c.in_ok-query.query)) c.in_ok-text.ensures.text c.in_ok-query.ensures.only) refused)
    c.check_stdin.ensures.fault
