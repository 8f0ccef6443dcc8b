use Rattle.std.proofs.Common.{◌≡◌, ◌∙◌, ◌+◌, ◌++◌, ◌∷◌, [], List, Result, Ok, Err, map, drop, refl, ap, sym, subst, arith, Vec}
use Rattle.std.proofs.lemmas.List.{append-nil, drop_all, map_push}
use Rattle.std.specs.declared.alloc.Global.{Global}
use Rattle.grammar.specs.Trees.{place_of}
use Rattle.grammar.specs.Trees.{trees_of as listed}
use Rattle.query_tree.specs.Views.{tree_of}
use Rattle.query_tree.specs.declared.expression.Expr.{Expr}
use Rattle.query_types.specs.declared.fault.TypeFault.{TypeFault}
use Rattle.query_types.specs.declared.form.Form.{Form}
use Rattle.query_types.specs.Calls.{callee}
use Rattle.query_types.specs.Meanings.{Answers, all_meant, case_ended, case_means, joined, meant}
use Rattle.query_types.specs.Terms.{Term, term_of}
use Rattle.query_types.proofs.Answering.{faulty, hands_on}
use Rattle.query_types.proofs.Lists.{called_tree}
use Rattle.query_types.proofs.ExpressionsMeant.{call_known, call_given, argument_step, argument_more, all_known, case_parts, case_last, ended}
use Rattle.query_types.proofs.expressions.+meanings.Goals as goal

pub call_meant-returns-in_err-callee : goal.call_meant-returns-in_err-callee
call_meant-returns-in_err-callee t c =
    let fault = c.in_err-callee.field-0.0 in
    faulty (λ m. m) c.from_residual.result fault _ c.from_residual.ensures.1
    (hands_on (λ m. m) (λ m. m) fault _ _ c.in_err-callee.ensures
    (λ e. call_known c.args.table.now c.args.moment.now c.args.aliases.now c.args.at c.args.name.now c.args.arguments.now.items.items c.len.result c.of.result (Err fault)
    c.len.ensures (c.of.ensures ∙ ap callee c.as_str.ensures) e))

pub call_meant-returns-in_err-meaning : goal.call_meant-returns-in_err-meaning
call_meant-returns-in_err-meaning t c =
    let table = c.args.table.now in
    let moment = c.args.moment.now in
    let aliases = c.args.aliases.now in
    let items = c.deref-argument-items.result.now in
    let fault = c.in_err-meaning.field-0.0 in
    faulty (λ m. m) c.from_residual-in_err-meaning.result fault _ c.from_residual-in_err-meaning.ensures.1
    (hands_on (λ m. m) (λ m. m) fault _ _ c.in_err-meaning.ensures
    (λ e. call_given table moment aliases c.args.at c.args.name.now c.args.arguments.now.items.items c.len.result c.of.result c.in_ok-callee.callee (Err fault)
    c.len.ensures (c.of.ensures ∙ ap callee c.as_str.ensures) c.in_ok-callee.ensures
    (ap (λ (l : List Expr). all_meant table moment aliases (listed (map tree_of l))) (sym c.deref-argument-items.ensures.value) ∙ c.loop-argument.invariant
    ∙ argument_step table moment aliases (map term_of c.loop-argument.forms.items) items c.loop-argument.argument-index c.argument-item.result (Err fault) c.loop-argument-test.true c.argument-item.is e)))

pub call_meant-loop-argument-preserved : goal.call_meant-loop-argument-preserved
call_meant-loop-argument-preserved t c =
    let table = c.args.table.now in
    let moment = c.args.moment.now in
    let aliases = c.args.aliases.now in
    let items = c.deref-argument-items.result.now in
    let i = c.loop-argument.argument-index in
    let front = map term_of c.loop-argument.forms.items in
    let more : map term_of c.push.new.self.items ≡ front ++ c.in_ok-meaning.meaning ∷ [] =
    ap (λ (l : List Form). map term_of l) c.in_ok-push.ensures.items ∙ map_push term_of c.loop-argument.forms.items c.into_form.result ∙ ap (λ m. front ++ m ∷ []) c.into_form.ensures in
    c.loop-argument.invariant ∙ argument_more table moment aliases front items i c.argument-item.result c.in_ok-meaning.meaning c.loop-argument-test.true c.argument-item.is c.in_ok-meaning.ensures
    ∙ ap (λ l. joined l (all_meant table moment aliases (listed (map tree_of (drop (i + 1) items))))) (sym more)

pub call_meant-returns : goal.call_meant-returns
call_meant-returns t c =
    let table = c.args.table.now in
    let moment = c.args.moment.now in
    let aliases = c.args.aliases.now in
    let items = c.deref-argument-items.result.now in
    let front = map term_of c.loop-argument.forms.items in
    subst (λ (r : Result Term TypeFault). Answers (λ (m : Term). m) c.call_means.result r)
    (sym (call_given table moment aliases c.args.at c.args.name.now c.args.arguments.now.items.items c.len.result c.of.result c.in_ok-callee.callee (Ok front)
    c.len.ensures (c.of.ensures ∙ ap callee c.as_str.ensures) c.in_ok-callee.ensures
    (ap (λ (l : List Expr). all_meant table moment aliases (listed (map tree_of l))) (sym c.deref-argument-items.ensures.value) ∙ c.loop-argument.invariant
    ∙ ap (λ (l : List Expr). joined front (all_meant table moment aliases (listed (map tree_of l)))) (drop_all c.loop-argument.argument-index items (omega arith)) ∙ all_known front)))
    c.call_means.ensures

pub meant-returns-in-Call : goal.meant-returns-in-Call
meant-returns-in-Call t c =
    let table = c.args.table.now in
    let moment = c.args.moment.now in
    let aliases = c.args.aliases.now in
    subst (λ (r : Result Term TypeFault). Answers (λ (m : Term). m) c.call_meant.result r)
    (sym (ap (λ (e : Expr). meant table moment aliases (tree_of e)) c.in-Call.is ∙ ap (meant table moment aliases) (called_tree c.in-Call.at c.in-Call.name c.in-Call.arguments)))
    c.call_meant.ensures

pub meant-returns-in_err-parts-in-Case : goal.meant-returns-in_err-parts-in-Case
meant-returns-in_err-parts-in-Case t c =
    let table = c.args.table.now in
    let moment = c.args.moment.now in
    let aliases = c.args.aliases.now in
    let fault = c.in_err-parts-in-Case.field-0.0 in
    faulty (λ m. m) c.from_residual-in_err-parts-in-Case.result fault _ c.from_residual-in_err-parts-in-Case.ensures.1
    (hands_on (λ (v : Vec Form Global). map term_of v.items) (λ m. m) fault _ _ c.in_err-parts-in-Case.ensures
    (λ e. ap (λ (x : Expr). meant table moment aliases (tree_of x)) c.in-Case.is
    ∙ case_parts table moment aliases c.in-Case.at c.in-Case.subject c.in-Case.branches c.in-Case.otherwise c.in-Case.otherwise c.in_ok-subject-in-Case.subject c.kind-kind.result (Err fault)
    (ap (λ (x : Expr). meant table moment aliases (tree_of x)) (sym c.deref.ensures) ∙ c.in_ok-subject-in-Case.ensures) c.kind-kind.ensures e refl))

pub meant-returns-in_err-last-in-Some : goal.meant-returns-in_err-last-in-Some
meant-returns-in_err-last-in-Some t c =
    let table = c.args.table.now in
    let moment = c.args.moment.now in
    let aliases = c.args.aliases.now in
    let fault = c.in_err-last-in-Some.field-0.0 in
    faulty (λ m. m) c.from_residual-in_err-last-in-Some.result fault _ c.from_residual-in_err-last-in-Some.ensures.1
    (hands_on (λ m. m) (λ m. m) fault _ _ c.in_err-last-in-Some.ensures
    (λ e. ap (λ (x : Expr). meant table moment aliases (tree_of x)) c.in-Case.is
    ∙ case_last table moment aliases c.in-Case.at c.in-Case.subject c.in-Case.branches c.in-Case.otherwise c.in-Some.value c.in_ok-subject-in-Case.subject c.kind-kind.result (map term_of c.in_ok-parts-in-Case.parts.items) (Err fault)
    (ap (λ (x : Expr). meant table moment aliases (tree_of x)) (sym c.deref.ensures) ∙ c.in_ok-subject-in-Case.ensures) c.kind-kind.ensures c.in_ok-parts-in-Case.ensures c.in-Some.is
    (ap (λ (x : Expr). meant table moment aliases (tree_of x)) (sym c.deref-in-Some.ensures) ∙ e)))

pub meant-returns-in_ok-case_means-in-None : goal.meant-returns-in_ok-case_means-in-None
meant-returns-in_ok-case_means-in-None t c =
    let table = c.args.table.now in
    let moment = c.args.moment.now in
    let aliases = c.args.aliases.now in
    let x = c.in_ok-subject-in-Case.subject in
    let parts = map term_of c.in_ok-parts-in-Case.parts.items in
    ap (λ (e : Expr). meant table moment aliases (tree_of e)) c.in-Case.is
    ∙ case_parts table moment aliases c.in-Case.at c.in-Case.subject c.in-Case.branches c.in-Case.otherwise _ x c.kind-kind.result (Ok parts)
    (ap (λ (e : Expr). meant table moment aliases (tree_of e)) (sym c.deref.ensures) ∙ c.in_ok-subject-in-Case.ensures) c.kind-kind.ensures c.in_ok-parts-in-Case.ensures c.in-None.is
    ∙ ap (λ (l : List Term). Ok (case_means table.columns x l)) (append-nil parts) ∙ ap Ok (sym c.in_ok-case_means-in-None.ensures)

pub meant-returns-in_ok-last-in-Some : goal.meant-returns-in_ok-last-in-Some
meant-returns-in_ok-last-in-Some t c =
    let table = c.args.table.now in
    let moment = c.args.moment.now in
    let aliases = c.args.aliases.now in
    let x = c.in_ok-subject-in-Case.subject in
    let parts = map term_of c.in_ok-parts-in-Case.parts.items in
    let last = c.in_ok-last-in-Some.last in
    subst (λ (r : Result Term TypeFault). Answers (λ (m : Term). m) c.case_ended.result r)
    (sym (ap (λ (e : Expr). meant table moment aliases (tree_of e)) c.in-Case.is
    ∙ case_last table moment aliases c.in-Case.at c.in-Case.subject c.in-Case.branches c.in-Case.otherwise c.in-Some.value x c.kind-kind.result parts (Ok last)
    (ap (λ (e : Expr). meant table moment aliases (tree_of e)) (sym c.deref.ensures) ∙ c.in_ok-subject-in-Case.ensures) c.kind-kind.ensures c.in_ok-parts-in-Case.ensures c.in-Some.is
    (ap (λ (e : Expr). meant table moment aliases (tree_of e)) (sym c.deref-in-Some.ensures) ∙ c.in_ok-last-in-Some.ensures)
    ∙ ended table.columns x parts _ last
    ∙ ap (λ at. case_ended table.columns x parts at last) (ap (λ (e : Expr). place_of (tree_of e)) (sym c.deref-in-Some-2.ensures) ∙ sym c.place.ensures)))
    c.case_ended.ensures
