use Rattle.std.proofs.Common.{◌≡◌, ℕ, ◌-◌, map, List, [], ◌∷◌, ◌++◌, refl, sym, ◌∙◌, ap, append-nil}
use Rattle.std.proofs.lemmas.List.{map_push}
use Rattle.std.proofs.lemmas.Result.{err_from_is_err_and}
use Rattle.grammar.specs.declared.Class.TheVariants as class
use Rattle.grammar.specs.Classes.{is_a}
use Rattle.grammar.specs.Trees.{Tree, trees_of, listed}
use Rattle.grammar.specs.Trees.{Tree as tree}
use Rattle.grammar.specs.Forms.{Rule as r}
use Rattle.grammar.specs.Rules.{a, behind, is_plain, is_counting, begins_literal, begins_expr, expr, when}
use Rattle.grammar.proofs.Answering.{reads_map, reads_seq, reads_behind, reads_before, reads_left, reads_right, reads_absent, reads_present, reads_nest, reads_ref, so_far_start, so_far_as, so_far_more, so_far_end}
use Rattle.query_tree.specs.Views.{tree_of, when_of}
use Rattle.query_tree.specs.Views as views
use Rattle.query_parser.proofs.Stopping.{stop_map, stop_first, stop_second, stop_left, stop_right, stop_present, stop_nest, stop_ref, stop_more, given_ok, given_err, given_as, given_same}
use Rattle.query_parser.proofs.Steps.{reads_as, pushed, seen_shorter, reads_neither, counting_call}
use Rattle.query_parser.proofs.cursor.Cursor.+expressions.Goals as goal

pub arguments-returns-in_err-_open : goal.arguments-returns-in_err-_open
arguments-returns-in_err-_open measure c =
    let p = err_from_is_err_and c.from_residual.result c.from_residual.ensures.1 in
    rw (p.1, p.2) (given_err (stop_map (stop_map (c.in_err-_open.ensures.err _ _ refl))))

pub arguments-returns-in_err-_close : goal.arguments-returns-in_err-_close
arguments-returns-in_err-_close measure c =
    let p = err_from_is_err_and c.from_residual-in_err-_close.result c.from_residual-in_err-_close.ensures.1 in
    rw (p.1, p.2) (given_err (stop_map (stop_map (stop_nest c.in_ok-_open.ensures.ok.some c.in_ok-_open.ensures.ok.reads (stop_map (stop_second refl (reads_absent begins_expr refl refl (sym c.if-not-next_in.ensures)) (c.in_err-_close.ensures.exact (c.args.left - 1)).is))))))

pub arguments-returns-then-not-next_in : goal.arguments-returns-then-not-next_in
arguments-returns-then-not-next_in measure c =
    given_as (ap (λ es. listed (map tree_of es)) c.new.ensures) (reads_map (reads_map (reads_nest c.in_ok-_open.ensures.ok.some c.in_ok-_open.ensures.ok.reads (reads_before refl (reads_absent begins_expr refl refl (sym c.if-not-next_in.ensures)) (c.in_ok-_close.ensures.exact (c.args.left - 1)).is))))

pub arguments-returns-in_err-items : goal.arguments-returns-in_err-items
arguments-returns-in_err-items measure c =
    let p = err_from_is_err_and c.from_residual-in_err-items.result c.from_residual-in_err-items.ensures.1 in
    rw (p.1, p.2) (given_err (stop_map (stop_map (stop_nest c.in_ok-_open.ensures.ok.some c.in_ok-_open.ensures.ok.reads (stop_map (stop_first refl refl (stop_present begins_expr refl (sym c.if-not-next_in.ensures) c.in_err-items.ensures.is)))))))

pub arguments-returns-in_err-_close-2 : goal.arguments-returns-in_err-_close-2
arguments-returns-in_err-_close-2 measure c =
    let p = err_from_is_err_and c.from_residual-in_err-_close-2.result c.from_residual-in_err-_close-2.ensures.1 in
    rw (p.1, p.2) (given_err (stop_map (stop_map (stop_nest c.in_ok-_open.ensures.ok.some c.in_ok-_open.ensures.ok.reads (stop_map (stop_second refl (reads_present begins_expr refl (sym c.if-not-next_in.ensures) c.in_ok-items.ensures.is) (c.in_err-_close-2.ensures.exact (c.args.left - 1)).is))))))

pub arguments-returns : goal.arguments-returns
arguments-returns measure c =
    given_ok (reads_map (reads_map (reads_nest c.in_ok-_open.ensures.ok.some c.in_ok-_open.ensures.ok.reads (reads_before refl (reads_present begins_expr refl (sym c.if-not-next_in.ensures) c.in_ok-items.ensures.is) (c.in_ok-_close-2.ensures.exact (c.args.left - 1)).is))))

pub count_arguments-returns-in_err-_open : goal.count_arguments-returns-in_err-_open
count_arguments-returns-in_err-_open measure c =
    let p = err_from_is_err_and c.from_residual.result c.from_residual.ensures.1 in
    rw (p.1, p.2) (given_err (stop_map (stop_map (c.in_err-_open.ensures.err _ _ refl))))

pub count_arguments-returns-in_err-_star : goal.count_arguments-returns-in_err-_star
count_arguments-returns-in_err-_star measure c =
    let p = err_from_is_err_and c.from_residual-in_err-_star.result c.from_residual-in_err-_star.ensures.1 in
    rw (p.1, p.2) (given_err (stop_map (stop_map (stop_nest c.in_ok-_open.ensures.ok.some c.in_ok-_open.ensures.ok.reads (stop_map (stop_first refl refl (stop_present (is_a class.Star) refl (sym c.if-next_is.ensures) (stop_left (is_a class.Star) refl refl (sym c.if-next_is.ensures) (stop_map (c.in_err-_star.ensures.exact (c.args.left - 1)).is)))))))))

pub count_arguments-returns-in_err-_close : goal.count_arguments-returns-in_err-_close
count_arguments-returns-in_err-_close measure c =
    let p = err_from_is_err_and c.from_residual-in_err-_close.result c.from_residual-in_err-_close.ensures.1 in
    rw (p.1, p.2) (given_err (stop_map (stop_map (stop_nest c.in_ok-_open.ensures.ok.some c.in_ok-_open.ensures.ok.reads (stop_map (stop_second refl (reads_present (is_a class.Star) refl (sym c.if-next_is.ensures) (reads_left (is_a class.Star) refl refl (sym c.if-next_is.ensures) (reads_map (c.in_ok-_star.ensures.exact (c.args.left - 1)).is))) (c.in_err-_close.ensures.exact (c.args.left - 1)).is))))))

pub count_arguments-returns-then-next_is : goal.count_arguments-returns-then-next_is
count_arguments-returns-then-next_is measure c =
    given_ok (reads_map (reads_map (reads_nest c.in_ok-_open.ensures.ok.some c.in_ok-_open.ensures.ok.reads (reads_before refl (reads_present (is_a class.Star) refl (sym c.if-next_is.ensures) (reads_left (is_a class.Star) refl refl (sym c.if-next_is.ensures) (reads_map (c.in_ok-_star.ensures.exact (c.args.left - 1)).is))) (c.in_ok-_close.ensures.exact (c.args.left - 1)).is))))

pub count_arguments-returns-in_err-_close-2 : goal.count_arguments-returns-in_err-_close-2
count_arguments-returns-in_err-_close-2 measure c =
    let p = err_from_is_err_and c.from_residual-in_err-_close-2.result c.from_residual-in_err-_close-2.ensures.1 in
    rw (p.1, p.2) (given_err (stop_map (stop_map (stop_nest c.in_ok-_open.ensures.ok.some c.in_ok-_open.ensures.ok.reads (stop_map (stop_second refl (reads_neither (is_a class.Star) begins_expr refl refl (sym c.if-next_is.ensures) (sym c.if-not-next_in.ensures)) (c.in_err-_close-2.ensures.exact (c.args.left - 1)).is))))))

pub count_arguments-returns-then-not-next_in : goal.count_arguments-returns-then-not-next_in
count_arguments-returns-then-not-next_in measure c =
    given_as (ap (λ es. listed (map tree_of es)) c.new.ensures) (reads_map (reads_map (reads_nest c.in_ok-_open.ensures.ok.some c.in_ok-_open.ensures.ok.reads (reads_before refl (reads_neither (is_a class.Star) begins_expr refl refl (sym c.if-next_is.ensures) (sym c.if-not-next_in.ensures)) (c.in_ok-_close-2.ensures.exact (c.args.left - 1)).is))))

pub count_arguments-returns-in_err-items : goal.count_arguments-returns-in_err-items
count_arguments-returns-in_err-items measure c =
    let p = err_from_is_err_and c.from_residual-in_err-items.result c.from_residual-in_err-items.ensures.1 in
    rw (p.1, p.2) (given_err (stop_map (stop_map (stop_nest c.in_ok-_open.ensures.ok.some c.in_ok-_open.ensures.ok.reads (stop_map (stop_first refl refl (stop_present begins_expr refl (sym c.if-not-next_in.ensures) (stop_right (is_a class.Star) refl refl (sym c.if-next_is.ensures) (stop_map c.in_err-items.ensures.is)))))))))

pub count_arguments-returns-in_err-_close-3 : goal.count_arguments-returns-in_err-_close-3
count_arguments-returns-in_err-_close-3 measure c =
    let p = err_from_is_err_and c.from_residual-in_err-_close-3.result c.from_residual-in_err-_close-3.ensures.1 in
    rw (p.1, p.2) (given_err (stop_map (stop_map (stop_nest c.in_ok-_open.ensures.ok.some c.in_ok-_open.ensures.ok.reads (stop_map (stop_second refl (reads_present begins_expr refl (sym c.if-not-next_in.ensures) (reads_right (is_a class.Star) refl refl (sym c.if-next_is.ensures) (reads_map c.in_ok-items.ensures.is))) (c.in_err-_close-3.ensures.exact (c.args.left - 1)).is))))))

pub count_arguments-returns : goal.count_arguments-returns
count_arguments-returns measure c =
    given_ok (reads_map (reads_map (reads_nest c.in_ok-_open.ensures.ok.some c.in_ok-_open.ensures.ok.reads (reads_before refl (reads_present begins_expr refl (sym c.if-not-next_in.ensures) (reads_right (is_a class.Star) refl refl (sym c.if-next_is.ensures) (reads_map c.in_ok-items.ensures.is))) (c.in_ok-_close-3.ensures.exact (c.args.left - 1)).is))))

pub plain_word-returns-in_err-token : goal.plain_word-returns-in_err-token
plain_word-returns-in_err-token measure c =
    let p = err_from_is_err_and c.from_residual.result c.from_residual.ensures.1 in
    rw (p.1, p.2) (given_err (stop_map (stop_first refl refl (c.in_err-token.ensures.exact c.args.left).is)))

pub plain_word-returns-then-not-next_is : goal.plain_word-returns-then-not-next_is
plain_word-returns-then-not-next_is measure c =
    rw c.in_ok-name.ensures (given_ok (reads_map (reads_seq refl (c.in_ok-token.ensures.exact c.args.left).is (reads_absent (is_a class.Open) refl refl (sym c.if-not-next_is.ensures)))))

pub plain_word-returns-in_err-arguments : goal.plain_word-returns-in_err-arguments
plain_word-returns-in_err-arguments measure c =
    let p = err_from_is_err_and c.from_residual-in_err-arguments.result c.from_residual-in_err-arguments.ensures.1 in
    rw (p.1, p.2) (given_err (stop_map (stop_second refl (c.in_ok-token.ensures.exact c.args.left).is (stop_present (is_a class.Open) refl (sym c.if-not-next_is.ensures) c.in_err-arguments.ensures.is))))

pub plain_word-returns : goal.plain_word-returns
plain_word-returns measure c =
    given_as c.in_ok-value.ensures (reads_map (reads_seq refl (c.in_ok-token.ensures.exact c.args.left).is (reads_present (is_a class.Open) refl (sym c.if-not-next_is.ensures) c.in_ok-arguments.ensures.is)))

pub counting_word-returns-in_err-token : goal.counting_word-returns-in_err-token
counting_word-returns-in_err-token measure c =
    let p = err_from_is_err_and c.from_residual.result c.from_residual.ensures.1 in
    rw (p.1, p.2) (given_err (stop_map (stop_first refl refl (c.in_err-token.ensures.exact c.args.left).is)))

pub counting_word-returns-then-not-next_is : goal.counting_word-returns-then-not-next_is
counting_word-returns-then-not-next_is measure c =
    rw c.in_ok-name.ensures (given_ok (reads_map (reads_seq refl (c.in_ok-token.ensures.exact c.args.left).is (reads_absent (is_a class.Open) refl refl (sym c.if-not-next_is.ensures)))))

pub counting_word-returns-in_err-counted : goal.counting_word-returns-in_err-counted
counting_word-returns-in_err-counted measure c =
    let p = err_from_is_err_and c.from_residual-in_err-counted.result c.from_residual-in_err-counted.ensures.1 in
    rw (p.1, p.2) (given_err (stop_map (stop_second refl (c.in_ok-token.ensures.exact c.args.left).is (stop_present (is_a class.Open) refl (sym c.if-not-next_is.ensures) c.in_err-counted.ensures.is))))

pub counting_word-returns-in-None : goal.counting_word-returns-in-None
counting_word-returns-in-None measure c =
    let one = c.in_ok-counted.ensures.is in
    let two = rw c.in-None.is at one in
    given_as c.count_all.ensures ((reads_map (reads_seq refl (c.in_ok-token.ensures.exact c.args.left).is (reads_present (is_a class.Open) refl (sym c.if-not-next_is.ensures) two))))

pub counting_word-returns-in-Some : goal.counting_word-returns-in-Some
counting_word-returns-in-Some measure c =
    let one = c.in_ok-counted.ensures.is in
    let two = rw c.in-Some.is at one in
    given_as (c.call.ensures ∙ ap (λ (x : List ℕ). tree.Call c.in_ok-token.token.now.at x (trees_of (views.trees_of c.in-Some.arguments))) c.in_ok-name.ensures) ((reads_as (counting_call _ _ c.in_ok-token.ensures.found) (reads_map (reads_seq refl (c.in_ok-token.ensures.exact c.args.left).is (reads_present (is_a class.Open) refl (sym c.if-not-next_is.ensures) two)))))

pub expr-returns-then-next_in : goal.expr-returns-then-next_in
expr-returns-then-next_in measure c =
    given_same (λ v x. reads_ref {m = r.expr_rule} (reads_left begins_literal refl refl (sym c.if-next_in.ensures) x)) (λ e x. stop_ref {m = r.expr_rule} (stop_left begins_literal refl refl (sym c.if-next_in.ensures) x)) (c.literal.ensures c.args.left)

pub expr-returns-then-next_in-2 : goal.expr-returns-then-next_in-2
expr-returns-then-next_in-2 measure c =
    given_same (λ v x. reads_ref {m = r.expr_rule} (reads_right begins_literal refl refl (sym c.if-next_in.ensures) (reads_left is_plain refl refl (sym c.if-next_in-2.ensures) x))) (λ e x. stop_ref {m = r.expr_rule} (stop_right begins_literal refl refl (sym c.if-next_in.ensures) (stop_left is_plain refl refl (sym c.if-next_in-2.ensures) x))) c.plain_word.ensures

pub expr-returns-then-next_in-3 : goal.expr-returns-then-next_in-3
expr-returns-then-next_in-3 measure c =
    given_same (λ v x. reads_ref {m = r.expr_rule} (reads_right begins_literal refl refl (sym c.if-next_in.ensures) (reads_right is_plain refl refl (sym c.if-next_in-2.ensures) (reads_left is_counting refl refl (sym c.if-next_in-3.ensures) x)))) (λ e x. stop_ref {m = r.expr_rule} (stop_right begins_literal refl refl (sym c.if-next_in.ensures) (stop_right is_plain refl refl (sym c.if-next_in-2.ensures) (stop_left is_counting refl refl (sym c.if-next_in-3.ensures) x)))) c.counting_word.ensures

pub expr-returns : goal.expr-returns
expr-returns measure c =
    given_same (λ v x. reads_ref {m = r.expr_rule} (reads_right begins_literal refl refl (sym c.if-next_in.ensures) (reads_right is_plain refl refl (sym c.if-next_in-2.ensures) (reads_right is_counting refl refl (sym c.if-next_in-3.ensures) x)))) (λ e x. stop_ref {m = r.expr_rule} (stop_right begins_literal refl refl (sym c.if-next_in.ensures) (stop_right is_plain refl refl (sym c.if-next_in-2.ensures) (stop_right is_counting refl refl (sym c.if-next_in-3.ensures) x)))) c.case.ensures

pub exprs-returns-in_err-first : goal.exprs-returns-in_err-first
exprs-returns-in_err-first measure c =
    let p = err_from_is_err_and c.from_residual.result c.from_residual.ensures.1 in
    rw (p.1, p.2) (given_err (stop_map (stop_first refl refl c.in_err-first.ensures.is)))

pub exprs-loop-self-init : goal.exprs-loop-self-init
exprs-loop-self-init measure c =
    let made : views.trees_of c.push.new.self ≡ tree_of c.in_ok-first.first ∷ [] = rw (c.in_ok-push.ensures.ok, c.new-items.ensures) refl in
    so_far_as (λ vs. ap (λ (l : List Tree). l ++ vs) (sym made)) (so_far_start refl c.in_ok-first.ensures.is)

pub exprs-returns-in_err-_comma : goal.exprs-returns-in_err-_comma
exprs-returns-in_err-_comma measure c =
    let p = err_from_is_err_and c.from_residual-in_err-_comma.result c.from_residual-in_err-_comma.ensures.1 in
    rw (p.1, p.2) (given_err (stop_more (is_a class.Comma) refl refl (sym c.loop-self-test.ensures) c.loop-self.invariant (stop_map (stop_first refl refl (c.in_err-_comma.ensures.exact c.args.left).is))))

pub exprs-returns-in_err-item : goal.exprs-returns-in_err-item
exprs-returns-in_err-item measure c =
    let p = err_from_is_err_and c.from_residual-in_err-item.result c.from_residual-in_err-item.ensures.1 in
    rw (p.1, p.2) (given_err (stop_more (is_a class.Comma) refl refl (sym c.loop-self-test.ensures) c.loop-self.invariant (stop_map (stop_second refl (c.in_ok-_comma.ensures.exact c.args.left).is c.in_err-item.ensures.is))))

pub exprs-loop-self-preserved : goal.exprs-loop-self-preserved
exprs-loop-self-preserved measure c =
    let made : views.trees_of c.push-in-loop-self.new.self ≡ views.trees_of c.loop-self.items ++ (tree_of c.in_ok-item.item ∷ []) = rw c.in_ok-push-2.ensures.ok (map_push tree_of c.loop-self.items.items.items c.in_ok-item.item) in
    so_far_as (pushed _ _ _ made) (so_far_more (is_a class.Comma) refl refl (sym c.loop-self-test.ensures) (reads_behind refl (c.in_ok-_comma.ensures.exact c.args.left).is c.in_ok-item.ensures.is) c.loop-self.invariant)

pub exprs-loop-self-smaller : goal.exprs-loop-self-smaller
exprs-loop-self-smaller measure c =
    seen_shorter {f = behind (a class.Comma) expr} _ _ refl (reads_behind refl (c.in_ok-_comma.ensures.exact c.args.left).is c.in_ok-item.ensures.is)

pub exprs-returns : goal.exprs-returns
exprs-returns measure c =
    given_ok (reads_as (append-nil _) (so_far_end (is_a class.Comma) refl refl (sym c.loop-self-test.ensures) c.loop-self.invariant))

pub whens-returns-in_err-first : goal.whens-returns-in_err-first
whens-returns-in_err-first measure c =
    let p = err_from_is_err_and c.from_residual.result c.from_residual.ensures.1 in
    rw (p.1, p.2) (given_err (stop_map (stop_first refl refl c.in_err-first.ensures.is)))

pub whens-loop-self-init : goal.whens-loop-self-init
whens-loop-self-init measure c =
    let made : views.whens_of c.push.new.self ≡ when_of c.in_ok-first.first ∷ [] = rw (c.in_ok-push.ensures.ok, c.new-items.ensures) refl in
    so_far_as (λ vs. ap (λ (l : List (Tree × Tree)). l ++ vs) (sym made)) (so_far_start refl c.in_ok-first.ensures.is)

pub whens-returns-in_err-item : goal.whens-returns-in_err-item
whens-returns-in_err-item measure c =
    let p = err_from_is_err_and c.from_residual-in_err-item.result c.from_residual-in_err-item.ensures.1 in
    rw (p.1, p.2) (given_err (stop_more (is_a class.When) refl refl (sym c.loop-self-test.ensures) c.loop-self.invariant c.in_err-item.ensures.is))

pub whens-loop-self-preserved : goal.whens-loop-self-preserved
whens-loop-self-preserved measure c =
    let made : views.whens_of c.push-in-loop-self.new.self ≡ views.whens_of c.loop-self.items ++ (when_of c.in_ok-item.item ∷ []) = rw c.in_ok-push-2.ensures.ok (map_push when_of _ c.in_ok-item.item) in
    so_far_as (pushed _ _ _ made) (so_far_more (is_a class.When) refl refl (sym c.loop-self-test.ensures) c.in_ok-item.ensures.is c.loop-self.invariant)

pub whens-loop-self-smaller : goal.whens-loop-self-smaller
whens-loop-self-smaller measure c =
    seen_shorter {f = when} _ _ refl c.in_ok-item.ensures.is

pub whens-returns : goal.whens-returns
whens-returns measure c =
    given_ok (reads_as (append-nil _) (so_far_end (is_a class.When) refl refl (sym c.loop-self-test.ensures) c.loop-self.invariant))

pub when-returns-in_err-_when : goal.when-returns-in_err-_when
when-returns-in_err-_when measure c =
    let p = err_from_is_err_and c.from_residual.result c.from_residual.ensures.1 in
    rw (p.1, p.2) (given_err (stop_first refl refl (stop_map (stop_first refl refl (c.in_err-_when.ensures.exact c.args.left).is))))

pub when-returns-in_err-test : goal.when-returns-in_err-test
when-returns-in_err-test measure c =
    let p = err_from_is_err_and c.from_residual-in_err-test.result c.from_residual-in_err-test.ensures.1 in
    rw (p.1, p.2) (given_err (stop_first refl refl (stop_map (stop_second refl (c.in_ok-_when.ensures.exact c.args.left).is c.in_err-test.ensures.is))))

pub when-returns-in_err-_then : goal.when-returns-in_err-_then
when-returns-in_err-_then measure c =
    let p = err_from_is_err_and c.from_residual-in_err-_then.result c.from_residual-in_err-_then.ensures.1 in
    rw (p.1, p.2) (given_err (stop_second refl (reads_behind refl (c.in_ok-_when.ensures.exact c.args.left).is c.in_ok-test.ensures.is) (stop_map (stop_first refl refl (c.in_err-_then.ensures.exact c.args.left).is))))

pub when-returns-in_err-value : goal.when-returns-in_err-value
when-returns-in_err-value measure c =
    let p = err_from_is_err_and c.from_residual-in_err-value.result c.from_residual-in_err-value.ensures.1 in
    rw (p.1, p.2) (given_err (stop_second refl (reads_behind refl (c.in_ok-_when.ensures.exact c.args.left).is c.in_ok-test.ensures.is) (stop_map (stop_second refl (c.in_ok-_then.ensures.exact c.args.left).is c.in_err-value.ensures.is))))

pub when-returns : goal.when-returns
when-returns measure c =
    given_ok (reads_seq refl (reads_behind refl (c.in_ok-_when.ensures.exact c.args.left).is c.in_ok-test.ensures.is) (reads_behind refl (c.in_ok-_then.ensures.exact c.args.left).is c.in_ok-value.ensures.is))

pub case_end-returns-in_err-_end : goal.case_end-returns-in_err-_end
case_end-returns-in_err-_end measure c =
    let p = err_from_is_err_and c.from_residual.result c.from_residual.ensures.1 in
    rw (p.1, p.2) (given_err (stop_map (stop_second refl (reads_absent (is_a class.Else) refl refl (sym c.if-not-next_is.ensures)) (c.in_err-_end.ensures.exact c.args.left).is)))

pub case_end-returns-then-not-next_is : goal.case_end-returns-then-not-next_is
case_end-returns-then-not-next_is measure c =
    given_ok (reads_before refl (reads_absent (is_a class.Else) refl refl (sym c.if-not-next_is.ensures)) (c.in_ok-_end.ensures.exact c.args.left).is)

pub case_end-returns-in_err-_else : goal.case_end-returns-in_err-_else
case_end-returns-in_err-_else measure c =
    let p = err_from_is_err_and c.from_residual-in_err-_else.result c.from_residual-in_err-_else.ensures.1 in
    rw (p.1, p.2) (given_err (stop_map (stop_first refl refl (stop_present (is_a class.Else) refl (sym c.if-not-next_is.ensures) (stop_map (stop_first refl refl (c.in_err-_else.ensures.exact c.args.left).is))))))

pub case_end-returns-in_err-value : goal.case_end-returns-in_err-value
case_end-returns-in_err-value measure c =
    let p = err_from_is_err_and c.from_residual-in_err-value.result c.from_residual-in_err-value.ensures.1 in
    rw (p.1, p.2) (given_err (stop_map (stop_first refl refl (stop_present (is_a class.Else) refl (sym c.if-not-next_is.ensures) (stop_map (stop_second refl (c.in_ok-_else.ensures.exact c.args.left).is c.in_err-value.ensures.is))))))

pub case_end-returns-in_err-_end-2 : goal.case_end-returns-in_err-_end-2
case_end-returns-in_err-_end-2 measure c =
    let p = err_from_is_err_and c.from_residual-in_err-_end-2.result c.from_residual-in_err-_end-2.ensures.1 in
    rw (p.1, p.2) (given_err (stop_map (stop_second refl (reads_present (is_a class.Else) refl (sym c.if-not-next_is.ensures) (reads_behind refl (c.in_ok-_else.ensures.exact c.args.left).is c.in_ok-value.ensures.is)) (c.in_err-_end-2.ensures.exact c.args.left).is)))

pub case_end-returns : goal.case_end-returns
case_end-returns measure c =
    given_ok (reads_before refl (reads_present (is_a class.Else) refl (sym c.if-not-next_is.ensures) (reads_behind refl (c.in_ok-_else.ensures.exact c.args.left).is c.in_ok-value.ensures.is)) (c.in_ok-_end-2.ensures.exact c.args.left).is)

pub case-returns-in_err-token : goal.case-returns-in_err-token
case-returns-in_err-token measure c =
    let p = err_from_is_err_and c.from_residual.result c.from_residual.ensures.1 in
    rw (p.1, p.2) (given_err (stop_map (c.in_err-token.ensures.err _ _ refl)))

pub case-returns-in_err-subject : goal.case-returns-in_err-subject
case-returns-in_err-subject measure c =
    let p = err_from_is_err_and c.from_residual-in_err-subject.result c.from_residual-in_err-subject.ensures.1 in
    rw (p.1, p.2) (given_err (stop_map (stop_nest c.in_ok-token.ensures.ok.some c.in_ok-token.ensures.ok.reads (stop_first refl refl c.in_err-subject.ensures.is))))

pub case-returns-in_err-branches : goal.case-returns-in_err-branches
case-returns-in_err-branches measure c =
    let p = err_from_is_err_and c.from_residual-in_err-branches.result c.from_residual-in_err-branches.ensures.1 in
    rw (p.1, p.2) (given_err (stop_map (stop_nest c.in_ok-token.ensures.ok.some c.in_ok-token.ensures.ok.reads (stop_second refl c.in_ok-subject.ensures.is (stop_first refl refl c.in_err-branches.ensures.is)))))

pub case-returns-in_err-otherwise : goal.case-returns-in_err-otherwise
case-returns-in_err-otherwise measure c =
    let p = err_from_is_err_and c.from_residual-in_err-otherwise.result c.from_residual-in_err-otherwise.ensures.1 in
    rw (p.1, p.2) (given_err (stop_map (stop_nest c.in_ok-token.ensures.ok.some c.in_ok-token.ensures.ok.reads (stop_second refl c.in_ok-subject.ensures.is (stop_second refl c.in_ok-branches.ensures.is c.in_err-otherwise.ensures.is)))))

pub case-returns : goal.case-returns
case-returns measure c =
    given_as c.in_ok-value.ensures (reads_map (reads_nest c.in_ok-token.ensures.ok.some c.in_ok-token.ensures.ok.reads (reads_seq refl c.in_ok-subject.ensures.is (reads_seq refl c.in_ok-branches.ensures.is c.in_ok-otherwise.ensures.is))))
