use Rattle.std.proofs.Common.{ℕ, ◌-◌, length, true, false, [], ◌∷◌, option_map, refl, sym, ◌∙◌, ap}
use Rattle.std.proofs.lemmas.Result.{err_from_is_err_and}
use Rattle.grammar.specs.declared.Class.TheVariants as class
use Rattle.grammar.specs.Classes.{is_a}
use Rattle.grammar.specs.Trees.{and_of, or_of}
use Rattle.grammar.specs.Forms.{Rule as r}
use Rattle.grammar.specs.Rules.{a, behind, conj, neg}
use Rattle.grammar.proofs.Answering.{reads_map, reads_seq, reads_behind, reads_before, reads_left, reads_right, reads_absent, reads_present, reads_nest, reads_ref, so_far_start, so_far_as, so_far_more, so_far_end, so_far_ref, reads_alt_left, reads_alt_right}
use Rattle.query_tree.specs.Views.{tree_of, test_of}
use Rattle.query_tree.specs.Views as views
use Rattle.query_parser.specs.Conditions.{tail_of, range_of, set_of, items_with, subquery_with}
use Rattle.query_parser.specs.declared.tail.Values.TheVariants as v
use Rattle.query_parser.proofs.Stopping.{stop_map, stop_first, stop_second, stop_left, stop_right, stop_alt_left, stop_alt_right, stop_present, stop_nest, stop_ref, stop_more}
use Rattle.query_parser.proofs.Steps.{seen_shorter}
use Rattle.query_parser.proofs.Conditioning.{between_none, grown_none, grown_as, grown_both, and_made, or_made, test_made, asks_test, grown_one, between_one, plain_same, pushed_to, tested_by, asks_err, asks_ok, asks_as, asks_same, asks_set, plain_numbers, set_apart}
use Rattle.query_parser.proofs.conditions.Parser.+conditions.Goals as goal

pub conj-returns-in_err-test : goal.conj-returns-in_err-test
conj-returns-in_err-test measure c =
    let p = err_from_is_err_and c.from_residual.result c.from_residual.ensures.1 in
    rw (p.1, p.2) (asks_err (stop_ref {m = r.conj_rule c.args.asks} (stop_map (stop_first refl refl c.in_err-test.ensures.is))))

pub conj-loop-self-init : goal.conj-loop-self-init
conj-loop-self-init measure c =
    record { so_far = so_far_ref {m = r.conj_rule c.args.asks} (so_far_start refl c.in_ok-test.ensures.is.0); grown = c.in_ok-test.ensures.is.1 }

pub conj-returns-in-Err : goal.conj-returns-in-Err
conj-returns-in-Err measure c =
    asks_err (stop_more (is_a class.And) refl refl (sym c.loop-self-test.ensures) c.loop-self.invariant.so_far c.in-Err.ensures.is)

pub conj-loop-self-preserved : goal.conj-loop-self-preserved
conj-loop-self-preserved measure c =
    record {
      so_far = so_far_as (λ vs. ap (λ x. and_of x vs) (and_made c.loop-self.test c.in-Ok.right c.in_ok-test-in-Ok.test c.loop-self.invariant.grown c.in-Ok.ensures.is.1 c.in_ok-test-in-Ok.ensures.test)) (so_far_more (is_a class.And) refl refl (sym c.loop-self-test.ensures) c.in-Ok.ensures.is.0 c.loop-self.invariant.so_far);
      grown = grown_as c.in_ok-test-in-Ok.ensures.numbers (grown_both c.loop-self.invariant.grown c.in-Ok.ensures.is.1);
    }

pub conj-loop-self-smaller : goal.conj-loop-self-smaller
conj-loop-self-smaller measure c =
    seen_shorter {f = behind (a class.And) (neg c.args.asks)} _ _ refl c.in-Ok.ensures.is.0

pub conj-returns : goal.conj-returns
conj-returns measure c =
    asks_ok (so_far_end (is_a class.And) refl refl (sym c.loop-self-test.ensures) c.loop-self.invariant.so_far) c.loop-self.invariant.grown

pub cond-returns-in_err-test : goal.cond-returns-in_err-test
cond-returns-in_err-test measure c =
    let p = err_from_is_err_and c.from_residual.result c.from_residual.ensures.1 in
    rw (p.1, p.2) (asks_err (stop_ref {m = r.cond_rule c.args.asks} (stop_map (stop_first refl refl c.in_err-test.ensures.is))))

pub cond-loop-self-init : goal.cond-loop-self-init
cond-loop-self-init measure c =
    record { so_far = so_far_ref {m = r.cond_rule c.args.asks} (so_far_start refl c.in_ok-test.ensures.is.0); grown = c.in_ok-test.ensures.is.1 }

pub cond-returns-in-Err : goal.cond-returns-in-Err
cond-returns-in-Err measure c =
    asks_err (stop_more (is_a class.Or) refl refl (sym c.loop-self-test.ensures) c.loop-self.invariant.so_far c.in-Err.ensures.is)

pub cond-loop-self-preserved : goal.cond-loop-self-preserved
cond-loop-self-preserved measure c =
    record {
      so_far = so_far_as (λ vs. ap (λ x. or_of x vs) (or_made c.loop-self.test c.in-Ok.right c.in_ok-test-in-Ok.test c.loop-self.invariant.grown c.in-Ok.ensures.is.1 c.in_ok-test-in-Ok.ensures.test)) (so_far_more (is_a class.Or) refl refl (sym c.loop-self-test.ensures) c.in-Ok.ensures.is.0 c.loop-self.invariant.so_far);
      grown = grown_as c.in_ok-test-in-Ok.ensures.numbers (grown_both c.loop-self.invariant.grown c.in-Ok.ensures.is.1);
    }

pub cond-loop-self-smaller : goal.cond-loop-self-smaller
cond-loop-self-smaller measure c =
    seen_shorter {f = behind (a class.Or) (conj c.args.asks)} _ _ refl c.in-Ok.ensures.is.0

pub cond-returns : goal.cond-returns
cond-returns measure c =
    asks_ok (so_far_end (is_a class.Or) refl refl (sym c.loop-self-test.ensures) c.loop-self.invariant.so_far) c.loop-self.invariant.grown

pub or_conj-returns-in_err-_or : goal.or_conj-returns-in_err-_or
or_conj-returns-in_err-_or measure c =
    let p = err_from_is_err_and c.from_residual.result c.from_residual.ensures.1 in
    rw (p.1, p.2) (asks_err (stop_map (stop_first refl refl (c.in_err-_or.ensures.exact c.args.left).is)))

pub or_conj-returns-in_err-right : goal.or_conj-returns-in_err-right
or_conj-returns-in_err-right measure c =
    let p = err_from_is_err_and c.from_residual-in_err-right.result c.from_residual-in_err-right.ensures.1 in
    rw (p.1, p.2) (asks_err (stop_map (stop_second refl (c.in_ok-_or.ensures.exact c.args.left).is c.in_err-right.ensures.is)))

pub or_conj-returns : goal.or_conj-returns
or_conj-returns measure c =
    asks_ok (reads_behind refl (c.in_ok-_or.ensures.exact c.args.left).is c.in_ok-right.ensures.is.0) c.in_ok-right.ensures.is.1

pub and_neg-returns-in_err-_and : goal.and_neg-returns-in_err-_and
and_neg-returns-in_err-_and measure c =
    let p = err_from_is_err_and c.from_residual.result c.from_residual.ensures.1 in
    rw (p.1, p.2) (asks_err (stop_map (stop_first refl refl (c.in_err-_and.ensures.exact c.args.left).is)))

pub and_neg-returns-in_err-right : goal.and_neg-returns-in_err-right
and_neg-returns-in_err-right measure c =
    let p = err_from_is_err_and c.from_residual-in_err-right.result c.from_residual-in_err-right.ensures.1 in
    rw (p.1, p.2) (asks_err (stop_map (stop_second refl (c.in_ok-_and.ensures.exact c.args.left).is c.in_err-right.ensures.is)))

pub and_neg-returns : goal.and_neg-returns
and_neg-returns measure c =
    asks_ok (reads_behind refl (c.in_ok-_and.ensures.exact c.args.left).is c.in_ok-right.ensures.is.0) c.in_ok-right.ensures.is.1

pub neg-returns-then-next_is : goal.neg-returns-then-next_is
neg-returns-then-next_is measure c =
    asks_same (λ v x. reads_ref {m = r.neg_rule c.args.asks} (reads_left (is_a class.Not) refl refl (sym c.if-next_is.ensures) x)) (λ e x. stop_ref {m = r.neg_rule c.args.asks} (stop_left (is_a class.Not) refl refl (sym c.if-next_is.ensures) x)) c.negated.ensures

pub neg-returns-then-next_is-2 : goal.neg-returns-then-next_is-2
neg-returns-then-next_is-2 measure c =
    asks_same (λ v x. reads_ref {m = r.neg_rule c.args.asks} (reads_right (is_a class.Not) refl refl (sym c.if-next_is.ensures) (reads_left (is_a class.Open) refl refl (sym c.if-next_is-2.ensures) x))) (λ e x. stop_ref {m = r.neg_rule c.args.asks} (stop_right (is_a class.Not) refl refl (sym c.if-next_is.ensures) (stop_left (is_a class.Open) refl refl (sym c.if-next_is-2.ensures) x))) c.nested.ensures

pub neg-returns : goal.neg-returns
neg-returns measure c =
    asks_same (λ v x. reads_ref {m = r.neg_rule c.args.asks} (reads_right (is_a class.Not) refl refl (sym c.if-next_is.ensures) (reads_right (is_a class.Open) refl refl (sym c.if-next_is-2.ensures) x))) (λ e x. stop_ref {m = r.neg_rule c.args.asks} (stop_right (is_a class.Not) refl refl (sym c.if-next_is.ensures) (stop_right (is_a class.Open) refl refl (sym c.if-next_is-2.ensures) x))) c.test.ensures

pub negated-returns-in_err-token : goal.negated-returns-in_err-token
negated-returns-in_err-token measure c =
    let p = err_from_is_err_and c.from_residual.result c.from_residual.ensures.1 in
    rw (p.1, p.2) (asks_err (stop_map (c.in_err-token.ensures.err _ _ refl)))

pub negated-returns-in_err-inner : goal.negated-returns-in_err-inner
negated-returns-in_err-inner measure c =
    let p = err_from_is_err_and c.from_residual-in_err-inner.result c.from_residual-in_err-inner.ensures.1 in
    rw (p.1, p.2) (asks_err (stop_map (stop_nest c.in_ok-token.ensures.ok.some c.in_ok-token.ensures.ok.reads c.in_err-inner.ensures.is)))

pub negated-returns : goal.negated-returns
negated-returns measure c =
    asks_test c.in_ok-test.ensures.test (reads_map (reads_nest c.in_ok-token.ensures.ok.some c.in_ok-token.ensures.ok.reads c.in_ok-inner.ensures.is.0)) (grown_as c.in_ok-test.ensures.numbers c.in_ok-inner.ensures.is.1)

pub nested-returns-in_err-token : goal.nested-returns-in_err-token
nested-returns-in_err-token measure c =
    let p = err_from_is_err_and c.from_residual.result c.from_residual.ensures.1 in
    rw (p.1, p.2) (asks_err (stop_map (c.in_err-token.ensures.err _ _ refl)))

pub nested-returns-in_err-inner : goal.nested-returns-in_err-inner
nested-returns-in_err-inner measure c =
    let p = err_from_is_err_and c.from_residual-in_err-inner.result c.from_residual-in_err-inner.ensures.1 in
    rw (p.1, p.2) (asks_err (stop_map (stop_nest c.in_ok-token.ensures.ok.some c.in_ok-token.ensures.ok.reads (stop_map (stop_first refl refl c.in_err-inner.ensures.is)))))

pub nested-returns-in-Err : goal.nested-returns-in-Err
nested-returns-in-Err measure c =
    asks_err (stop_map (stop_nest c.in_ok-token.ensures.ok.some c.in_ok-token.ensures.ok.reads (stop_map (stop_second refl c.in_ok-inner.ensures.is.0 (c.in-Err.ensures.exact (c.args.left - 1)).is))))

pub nested-returns-in-Ok : goal.nested-returns-in-Ok
nested-returns-in-Ok measure c =
    asks_test c.moved.ensures.test (reads_map (reads_nest c.in_ok-token.ensures.ok.some c.in_ok-token.ensures.ok.reads (reads_before refl c.in_ok-inner.ensures.is.0 (c.in-Ok.ensures.exact (c.args.left - 1)).is))) (grown_as c.moved.ensures.numbers c.in_ok-inner.ensures.is.1)

pub test-returns-in_err-value : goal.test-returns-in_err-value
test-returns-in_err-value measure c =
    let p = err_from_is_err_and c.from_residual.result c.from_residual.ensures.1 in
    rw (p.1, p.2) (asks_err (stop_ref {m = r.test_rule c.args.asks} (stop_map (stop_first refl refl c.in_err-value.ensures.is))))

pub test-returns-in_err-tail : goal.test-returns-in_err-tail
test-returns-in_err-tail measure c =
    let p = err_from_is_err_and c.from_residual-in_err-tail.result c.from_residual-in_err-tail.ensures.1 in
    rw (p.1, p.2) (asks_err (stop_ref {m = r.test_rule c.args.asks} (stop_map (stop_second refl c.in_ok-value.ensures.is c.in_err-tail.ensures.is))))

pub test-returns : goal.test-returns
test-returns measure c =
    asks_as (test_made c.test.result (tree_of c.in_ok-value.value) c.in_ok-tail.tail c.test.ensures.test c.in_ok-tail.ensures.is.1) (reads_ref {m = r.test_rule c.args.asks} (reads_map (reads_seq refl c.in_ok-value.ensures.is c.in_ok-tail.ensures.is.0))) (grown_as c.test.ensures.numbers c.in_ok-tail.ensures.is.1)

pub tail-returns-in_err-tail : goal.tail-returns-in_err-tail
tail-returns-in_err-tail measure c =
    let p = err_from_is_err_and c.from_residual.result c.from_residual.ensures.1 in
    rw (p.1, p.2) (asks_err (stop_ref {m = r.tail_rule c.args.asks} (stop_left (is_a class.Compares) refl refl (sym c.if-next_is.ensures) c.in_err-tail.ensures.exact.is)))

pub tail-returns-then-next_is : goal.tail-returns-then-next_is
tail-returns-then-next_is measure c =
    asks_as (ap (λ qs. tail_of c.in_ok-tail.tail qs) (between_none c.args.self.now.subqueries.items)) (reads_ref {m = r.tail_rule c.args.asks} (reads_left (is_a class.Compares) refl refl (sym c.if-next_is.ensures) c.in_ok-tail.ensures.exact.is)) (grown_as c.in_ok-tail.ensures.plain (grown_none c.args.asks _))

pub tail-returns-in_err-tail-2 : goal.tail-returns-in_err-tail-2
tail-returns-in_err-tail-2 measure c =
    let p = err_from_is_err_and c.from_residual-in_err-tail-2.result c.from_residual-in_err-tail-2.ensures.1 in
    rw (p.1, p.2) (asks_err (stop_ref {m = r.tail_rule c.args.asks} (stop_right (is_a class.Compares) refl refl (sym c.if-next_is.ensures) (stop_left (is_a class.Is) refl refl (sym c.if-next_is-2.ensures) ((c.in_err-tail-2.ensures.exact c.args.left).is)))))

pub tail-returns-then-next_is-2 : goal.tail-returns-then-next_is-2
tail-returns-then-next_is-2 measure c =
    asks_as (ap (λ qs. tail_of c.in_ok-tail-2.tail qs) (between_none c.args.self.now.subqueries.items)) (reads_ref {m = r.tail_rule c.args.asks} (reads_right (is_a class.Compares) refl refl (sym c.if-next_is.ensures) (reads_left (is_a class.Is) refl refl (sym c.if-next_is-2.ensures) ((c.in_ok-tail-2.ensures.exact c.args.left).is)))) (grown_as c.in_ok-tail-2.ensures.plain (grown_none c.args.asks _))

pub tail-returns-in_err-range : goal.tail-returns-in_err-range
tail-returns-in_err-range measure c =
    let p = err_from_is_err_and c.from_residual-in_err-range.result c.from_residual-in_err-range.ensures.1 in
    rw (p.1, p.2) (asks_err (stop_ref {m = r.tail_rule c.args.asks} (stop_right (is_a class.Compares) refl refl (sym c.if-next_is.ensures) (stop_right (is_a class.Is) refl refl (sym c.if-next_is-2.ensures) (stop_map (stop_second refl (c.skip-negated.ensures c.args.left) c.in_err-range.ensures.is))))))

pub tail-returns : goal.tail-returns
tail-returns measure c =
    asks_ok (reads_ref {m = r.tail_rule c.args.asks} (reads_right (is_a class.Compares) refl refl (sym c.if-next_is.ensures) (reads_right (is_a class.Is) refl refl (sym c.if-next_is-2.ensures) (reads_map (reads_seq refl (c.skip-negated.ensures c.args.left) c.in_ok-range.ensures.is.0))))) c.in_ok-range.ensures.is.1

pub range-returns-in_err-range : goal.range-returns-in_err-range
range-returns-in_err-range measure c =
    let p = err_from_is_err_and c.from_residual.result c.from_residual.ensures.1 in
    rw (p.1, p.2) (asks_err (stop_ref {m = r.range_rule c.args.asks} (stop_left (is_a class.Like) refl refl (sym c.if-next_is.ensures) ((c.in_err-range.ensures.exact c.args.left).is))))

pub range-returns-then-next_is : goal.range-returns-then-next_is
range-returns-then-next_is measure c =
    asks_as (ap (λ qs. range_of c.in_ok-range.range qs) (between_none c.args.self.now.subqueries.items)) (reads_ref {m = r.range_rule c.args.asks} (reads_left (is_a class.Like) refl refl (sym c.if-next_is.ensures) ((c.in_ok-range.ensures.exact c.args.left).is))) (grown_as c.in_ok-range.ensures.plain (grown_none c.args.asks _))

pub range-returns-in_err-range-2 : goal.range-returns-in_err-range-2
range-returns-in_err-range-2 measure c =
    let p = err_from_is_err_and c.from_residual-in_err-range-2.result c.from_residual-in_err-range-2.ensures.1 in
    rw (p.1, p.2) (asks_err (stop_ref {m = r.range_rule c.args.asks} (stop_right (is_a class.Like) refl refl (sym c.if-next_is.ensures) (stop_left (is_a class.Between) refl refl (sym c.if-next_is-2.ensures) c.in_err-range-2.ensures.exact.is))))

pub range-returns-then-next_is-2 : goal.range-returns-then-next_is-2
range-returns-then-next_is-2 measure c =
    asks_as (ap (λ qs. range_of c.in_ok-range-2.range qs) (between_none c.args.self.now.subqueries.items)) (reads_ref {m = r.range_rule c.args.asks} (reads_right (is_a class.Like) refl refl (sym c.if-next_is.ensures) (reads_left (is_a class.Between) refl refl (sym c.if-next_is-2.ensures) c.in_ok-range-2.ensures.exact.is))) (grown_as c.in_ok-range-2.ensures.plain (grown_none c.args.asks _))

pub range-returns-in_err-range-3 : goal.range-returns-in_err-range-3
range-returns-in_err-range-3 measure c =
    let p = err_from_is_err_and c.from_residual-in_err-range-3.result c.from_residual-in_err-range-3.ensures.1 in
    rw (p.1, p.2) (asks_err (stop_ref {m = r.range_rule c.args.asks} (stop_right (is_a class.Like) refl refl (sym c.if-next_is.ensures) (stop_right (is_a class.Between) refl refl (sym c.if-next_is-2.ensures) c.in_err-range-3.ensures.is))))

pub range-returns : goal.range-returns
range-returns measure c =
    asks_ok (reads_ref {m = r.range_rule c.args.asks} (reads_right (is_a class.Like) refl refl (sym c.if-next_is.ensures) (reads_right (is_a class.Between) refl refl (sym c.if-next_is-2.ensures) c.in_ok-range-3.ensures.is.0))) c.in_ok-range-3.ensures.is.1

pub within-returns-in_err-_in : goal.within-returns-in_err-_in
within-returns-in_err-_in measure c =
    let p = err_from_is_err_and c.from_residual.result c.from_residual.ensures.1 in
    rw (p.1, p.2) (asks_err (stop_map (stop_map (stop_first refl refl (c.in_err-_in.ensures.exact c.args.left).is))))

pub within-returns-in_err-_open : goal.within-returns-in_err-_open
within-returns-in_err-_open measure c =
    let p = err_from_is_err_and c.from_residual-in_err-_open.result c.from_residual-in_err-_open.ensures.1 in
    rw (p.1, p.2) (asks_err (stop_map (stop_map (stop_second refl (c.in_ok-_in.ensures.exact c.args.left).is (stop_map (c.in_err-_open.ensures.err _ _ refl))))))

pub within-returns-in_err-values : goal.within-returns-in_err-values
within-returns-in_err-values measure c =
    let p = err_from_is_err_and c.from_residual-in_err-values.result c.from_residual-in_err-values.ensures.1 in
    rw (p.1, p.2) (asks_err (stop_map (stop_map (stop_second refl (c.in_ok-_in.ensures.exact c.args.left).is (stop_map (stop_nest c.in_ok-_open.ensures.ok.some c.in_ok-_open.ensures.ok.reads (stop_map (stop_first (set_apart c.args.asks) refl c.in_err-values.ensures.is))))))))

pub within-returns-in_err-_close : goal.within-returns-in_err-_close
within-returns-in_err-_close measure c =
    let p = err_from_is_err_and c.from_residual-in_err-_close.result c.from_residual-in_err-_close.ensures.1 in
    rw (p.1, p.2) (asks_err (stop_map (stop_map (stop_second refl (c.in_ok-_in.ensures.exact c.args.left).is (stop_map (stop_nest c.in_ok-_open.ensures.ok.some c.in_ok-_open.ensures.ok.reads (stop_map (stop_second (set_apart c.args.asks) c.in_ok-values.ensures.is.0 (c.in_err-_close.ensures.exact (c.args.left - 1)).is))))))))

pub within-returns : goal.within-returns
within-returns measure c =
    asks_ok (reads_map (reads_behind refl (c.in_ok-_in.ensures.exact c.args.left).is (reads_map (reads_nest c.in_ok-_open.ensures.ok.some c.in_ok-_open.ensures.ok.reads (reads_before (set_apart c.args.asks) c.in_ok-values.ensures.is.0 (c.in_ok-_close.ensures.exact (c.args.left - 1)).is))))) c.in_ok-values.ensures.is.1

pub set-returns-then-asks : goal.set-returns-then-asks
set-returns-then-asks measure c =
    asks_set true c.if-asks.true c.any_set.ensures

pub set-returns-in_err-items : goal.set-returns-in_err-items
set-returns-in_err-items measure c =
    let p = err_from_is_err_and c.from_residual.result c.from_residual.ensures.1 in
    rw (p.1, p.2) (asks_set false c.if-asks.false (asks_err (stop_ref {m = r.set_rule false} c.in_err-items.ensures.is)))

pub set-returns : goal.set-returns
set-returns measure c =
    asks_set false c.if-asks.false (asks_ok (reads_ref {m = r.set_rule false} c.in_ok-items.ensures.is) (grown_none false _))

pub any_set-returns-in_err-items : goal.any_set-returns-in_err-items
any_set-returns-in_err-items measure c =
    let p = err_from_is_err_and c.from_residual.result c.from_residual.ensures.1 in
    rw (p.1, p.2) (asks_err (stop_ref {m = r.set_rule true} (stop_alt_left (is_a class.Select) refl refl (sym c.if-not-next_is.ensures) c.in_err-items.ensures.is)))

pub any_set-returns-then-not-next_is : goal.any_set-returns-then-not-next_is
any_set-returns-then-not-next_is measure c =
    asks_ok (reads_ref {m = r.set_rule true} (reads_alt_left (is_a class.Select) refl refl (sym c.if-not-next_is.ensures) c.in_ok-items.ensures.is)) (grown_none true _)

pub any_set-returns-in_err-query : goal.any_set-returns-in_err-query
any_set-returns-in_err-query measure c =
    let p = err_from_is_err_and c.from_residual-in_err-query.result c.from_residual-in_err-query.ensures.1 in
    rw (p.1, p.2) (asks_err (stop_ref {m = r.set_rule true} (stop_alt_right (is_a class.Select) refl refl (sym c.if-not-next_is.ensures) (stop_map c.in_err-query.ensures.is))))

pub any_set-returns : goal.any_set-returns
any_set-returns measure c =
    let same = plain_same c.in_ok-query.ensures.is.1 in
    let pushed_is = pushed_to _ _ _ c.in_ok-query.query same c.in_ok-push.ensures.items in
    asks_as (ap (λ qs. set_of (v.Asked c.asked-number.result) qs) (between_one _ _ c.in_ok-query.query pushed_is)) (reads_ref {m = r.set_rule true} (reads_alt_right (is_a class.Select) refl refl (sym c.if-not-next_is.ensures) (reads_map c.in_ok-query.ensures.is.0))) (grown_as (ap (λ (k : ℕ). k ∷ []) (c.asked-number.ensures ∙ ap (λ l. length l) same)) (grown_one _ _ c.in_ok-query.query pushed_is))

pub subquery-returns-in_err-_select : goal.subquery-returns-in_err-_select
subquery-returns-in_err-_select measure c =
    let p = err_from_is_err_and c.from_residual.result c.from_residual.ensures.1 in
    rw (p.1, p.2) (asks_err (stop_ref {m = r.asked_rule} (stop_map (stop_first refl refl (stop_map (stop_first refl refl (c.in_err-_select.ensures.exact c.args.left).is))))))

pub subquery-returns-in_err-value : goal.subquery-returns-in_err-value
subquery-returns-in_err-value measure c =
    let p = err_from_is_err_and c.from_residual-in_err-value.result c.from_residual-in_err-value.ensures.1 in
    rw (p.1, p.2) (asks_err (stop_ref {m = r.asked_rule} (stop_map (stop_second refl (reads_behind refl (c.in_ok-_select.ensures.exact c.args.left).is (c.skip-distinct.ensures c.args.left)) (stop_first refl refl c.in_err-value.ensures.is)))))

pub subquery-returns-in_err-names : goal.subquery-returns-in_err-names
subquery-returns-in_err-names measure c =
    let p = err_from_is_err_and c.from_residual-in_err-names.result c.from_residual-in_err-names.ensures.1 in
    rw (p.1, p.2) (asks_err (stop_ref {m = r.asked_rule} (stop_map (stop_second refl (reads_behind refl (c.in_ok-_select.ensures.exact c.args.left).is (c.skip-distinct.ensures c.args.left)) (stop_second refl c.in_ok-value.ensures.is (stop_first refl refl (c.in_err-names.ensures c.args.left).is))))))

pub subquery-returns-in_err-condition : goal.subquery-returns-in_err-condition
subquery-returns-in_err-condition measure c =
    let p = err_from_is_err_and c.from_residual-in_err-condition.result c.from_residual-in_err-condition.ensures.1 in
    rw (p.1, p.2) (asks_err (stop_ref {m = r.asked_rule} (stop_map (stop_second refl (reads_behind refl (c.in_ok-_select.ensures.exact c.args.left).is (c.skip-distinct.ensures c.args.left)) (stop_second refl c.in_ok-value.ensures.is (stop_second refl (c.in_ok-names.ensures c.args.left).is c.in_err-condition.ensures.is))))))

pub subquery-returns : goal.subquery-returns
subquery-returns measure c =
    asks_as (c.subquery_of.ensures ∙ ap (λ is. subquery_with c.skip-distinct.result is (views.placed_all c.in_ok-names.names) (option_map test_of c.in_ok-condition.condition)) c.in_ok-items.ensures ∙ ap (λ o. subquery_with c.skip-distinct.result (items_with (tree_of c.in_ok-value.value)) (views.placed_all c.in_ok-names.names) o) (sym (tested_by c.in_ok-condition.condition c.in_ok-condition.ensures.is.1))) (reads_ref {m = r.asked_rule} (reads_map (reads_seq refl (reads_behind refl (c.in_ok-_select.ensures.exact c.args.left).is (c.skip-distinct.ensures c.args.left)) (reads_seq refl c.in_ok-value.ensures.is (reads_seq refl (c.in_ok-names.ensures c.args.left).is c.in_ok-condition.ensures.is.0))))) (grown_as (sym (plain_numbers c.in_ok-condition.ensures.is.1)) c.in_ok-condition.ensures.is.1)

pub where_part-returns-then-not-next_is : goal.where_part-returns-then-not-next_is
where_part-returns-then-not-next_is measure c =
    asks_ok (reads_absent (is_a class.Where) refl refl (sym c.if-not-next_is.ensures)) (grown_none c.args.asks _)

pub where_part-returns-in_err-_where : goal.where_part-returns-in_err-_where
where_part-returns-in_err-_where measure c =
    let p = err_from_is_err_and c.from_residual.result c.from_residual.ensures.1 in
    rw (p.1, p.2) (asks_err (stop_present (is_a class.Where) refl (sym c.if-not-next_is.ensures) (stop_map (stop_first refl refl (c.in_err-_where.ensures.exact c.args.left).is))))

pub where_part-returns-in_err-test : goal.where_part-returns-in_err-test
where_part-returns-in_err-test measure c =
    let p = err_from_is_err_and c.from_residual-in_err-test.result c.from_residual-in_err-test.ensures.1 in
    rw (p.1, p.2) (asks_err (stop_present (is_a class.Where) refl (sym c.if-not-next_is.ensures) (stop_map (stop_second refl (c.in_ok-_where.ensures.exact c.args.left).is c.in_err-test.ensures.is))))

pub where_part-returns : goal.where_part-returns
where_part-returns measure c =
    asks_ok (reads_present (is_a class.Where) refl (sym c.if-not-next_is.ensures) (reads_behind refl (c.in_ok-_where.ensures.exact c.args.left).is c.in_ok-test.ensures.is.0)) c.in_ok-test.ensures.is.1
