use Rattle.std.proofs.Common.{◌≡◌, ◌∙◌, ◌+◌, ◌++◌, ◌∷◌, ◌&&◌, not, [], List, Result, Ok, Err, map, drop, refl, ap, sym, subst, arith, Vec}
use Rattle.std.proofs.lemmas.List.{append-nil, drop_all, map_push}
use Rattle.std.specs.declared.alloc.Global.{Global}
use Rattle.grammar.specs.Trees.{place_of}
use Rattle.grammar.specs.Trees.{trees_of as listed}
use Rattle.query_tree.specs.Views.{tree_of}
use Rattle.query_tree.specs.declared.expression.Expr.{Expr}
use Rattle.query_types.specs.declared.callee.Callee.{Callee}
use Rattle.query_types.specs.declared.fault.TypeFault.{TypeFault}
use Rattle.query_types.specs.Calls.{is_counting}
use Rattle.query_types.specs.Meanings.{Answers, joined}
use Rattle.query_types.proofs.Answering.{faulty, hands_on}
use Rattle.query_types.proofs.Lists.{called_tree}
use Rattle.senses.specs.declared.sense.SenseForm.{SenseForm}
use Rattle.senses.specs.Senses.{Sense, sense_of}
use Rattle.sensing.specs.Sensing.{all_sensed, case_closed, case_senses, named_of, sensed, standing}
use Rattle.sensing.proofs.Terms.{call_standing, call_given, argument_step, argument_more, all_known, case_parts, case_last, ended}
use Rattle.sensing.proofs.sensing.+sensed.Goals as goal

pub call_sensed-returns-in_err-callee : goal.call_sensed-returns-in_err-callee
call_sensed-returns-in_err-callee t c =
    let fault = c.in_err-callee.field-0.0 in
    faulty sense_of c.from_residual.result fault _ c.from_residual.ensures.1
    (hands_on (λ (m : Callee). m) sense_of fault _ _ c.in_err-callee.ensures
    (λ e. call_standing c.args.wide c.args.table.now c.args.moment.now (map named_of c.args.aliases.now) c.args.at c.args.name.now c.args.arguments.now.items.items c.len.result (Err fault)
    c.len.ensures (ap (λ n. standing c.args.wide c.args.at n c.len.result) (sym c.as_str.ensures) ∙ e)))

pub call_sensed-returns-in_err-sense : goal.call_sensed-returns-in_err-sense
call_sensed-returns-in_err-sense t c =
    let table = c.args.table.now in
    let moment = c.args.moment.now in
    let aliases = map named_of c.args.aliases.now in
    let wide = c.args.wide in
    let within = c.is_wide_within-within.result in
    let items = c.deref-argument-items.result.now in
    let fault = c.in_err-sense.field-0.0 in
    faulty sense_of c.from_residual-in_err-sense.result fault _ c.from_residual-in_err-sense.ensures.1
    (hands_on sense_of sense_of fault _ _ c.in_err-sense.ensures
    (λ e. call_given wide table moment aliases c.args.at c.args.name.now c.args.arguments.now.items.items c.len.result c.in_ok-callee.callee within (Err fault)
    c.len.ensures (ap (λ n. standing wide c.args.at n c.len.result) (sym c.as_str.ensures) ∙ c.in_ok-callee.ensures) (c.is_wide_within-within.ensures ∙ ap (λ n. wide && not (is_counting n)) c.as_str-2.ensures)
    (ap (λ (l : List Expr). all_sensed within table moment aliases (listed (map tree_of l))) (sym c.deref-argument-items.ensures.value) ∙ c.loop-argument.invariant
    ∙ argument_step within table moment aliases (map sense_of c.loop-argument.senses.items) items c.loop-argument.argument-index c.argument-item.result (Err fault) c.loop-argument-test.true c.argument-item.is e)))

pub call_sensed-loop-argument-preserved : goal.call_sensed-loop-argument-preserved
call_sensed-loop-argument-preserved t c =
    let table = c.args.table.now in
    let moment = c.args.moment.now in
    let aliases = map named_of c.args.aliases.now in
    let within = c.is_wide_within-within.result in
    let items = c.deref-argument-items.result.now in
    let i = c.loop-argument.argument-index in
    let front = map sense_of c.loop-argument.senses.items in
    let sense = sense_of c.in_ok-sense.sense in
    let more : map sense_of c.push.new.self.items ≡ front ++ sense ∷ [] =
    ap (λ (l : List SenseForm). map sense_of l) c.in_ok-push.ensures.items ∙ map_push sense_of c.loop-argument.senses.items c.in_ok-sense.sense in
    c.loop-argument.invariant ∙ argument_more within table moment aliases front items i c.argument-item.result sense c.loop-argument-test.true c.argument-item.is c.in_ok-sense.ensures
    ∙ ap (λ l. joined l (all_sensed within table moment aliases (listed (map tree_of (drop (i + 1) items))))) (sym more)

pub call_sensed-returns : goal.call_sensed-returns
call_sensed-returns t c =
    let table = c.args.table.now in
    let moment = c.args.moment.now in
    let aliases = map named_of c.args.aliases.now in
    let wide = c.args.wide in
    let within = c.is_wide_within-within.result in
    let items = c.deref-argument-items.result.now in
    let front = map sense_of c.loop-argument.senses.items in
    subst (λ (r : Result Sense TypeFault). Answers sense_of c.call_sense.result r)
    (sym (call_given wide table moment aliases c.args.at c.args.name.now c.args.arguments.now.items.items c.len.result c.in_ok-callee.callee within (Ok front)
    c.len.ensures (ap (λ n. standing wide c.args.at n c.len.result) (sym c.as_str.ensures) ∙ c.in_ok-callee.ensures) (c.is_wide_within-within.ensures ∙ ap (λ n. wide && not (is_counting n)) c.as_str-2.ensures)
    (ap (λ (l : List Expr). all_sensed within table moment aliases (listed (map tree_of l))) (sym c.deref-argument-items.ensures.value) ∙ c.loop-argument.invariant
    ∙ ap (λ (l : List Expr). joined front (all_sensed within table moment aliases (listed (map tree_of l)))) (drop_all c.loop-argument.argument-index items (omega arith)) ∙ all_known front)))
    c.call_sense.ensures

pub sensed-returns-in-Call : goal.sensed-returns-in-Call
sensed-returns-in-Call t c =
    let table = c.args.table.now in
    let moment = c.args.moment.now in
    let aliases = map named_of c.args.aliases.now in
    let wide = c.args.wide in
    subst (λ (r : Result Sense TypeFault). Answers sense_of c.call_sensed.result r)
    (sym (ap (λ (e : Expr). sensed wide table moment aliases (tree_of e)) c.in-Call.is ∙ ap (sensed wide table moment aliases) (called_tree c.in-Call.at c.in-Call.name c.in-Call.arguments)))
    c.call_sensed.ensures

pub sensed-returns-in_err-parts-in-Case : goal.sensed-returns-in_err-parts-in-Case
sensed-returns-in_err-parts-in-Case t c =
    let table = c.args.table.now in
    let moment = c.args.moment.now in
    let aliases = map named_of c.args.aliases.now in
    let wide = c.args.wide in
    let fault = c.in_err-parts-in-Case.field-0.0 in
    faulty sense_of c.from_residual-in_err-parts-in-Case.result fault _ c.from_residual-in_err-parts-in-Case.ensures.1
    (hands_on (λ (v : Vec SenseForm Global). map sense_of v.items) sense_of fault _ _ c.in_err-parts-in-Case.ensures
    (λ e. ap (λ (x : Expr). sensed wide table moment aliases (tree_of x)) c.in-Case.is
    ∙ case_parts wide table moment aliases c.in-Case.at c.in-Case.subject c.in-Case.branches c.in-Case.otherwise c.in-Case.otherwise (sense_of c.in_ok-subject-in-Case.subject) c.kind_of_sense-kind.result (Err fault)
    (ap (λ (x : Expr). sensed wide table moment aliases (tree_of x)) (sym c.deref.ensures) ∙ c.in_ok-subject-in-Case.ensures) c.kind_of_sense-kind.ensures e refl))

pub sensed-returns-in_err-last-in-Some : goal.sensed-returns-in_err-last-in-Some
sensed-returns-in_err-last-in-Some t c =
    let table = c.args.table.now in
    let moment = c.args.moment.now in
    let aliases = map named_of c.args.aliases.now in
    let wide = c.args.wide in
    let fault = c.in_err-last-in-Some.field-0.0 in
    faulty sense_of c.from_residual-in_err-last-in-Some.result fault _ c.from_residual-in_err-last-in-Some.ensures.1
    (hands_on sense_of sense_of fault _ _ c.in_err-last-in-Some.ensures
    (λ e. ap (λ (x : Expr). sensed wide table moment aliases (tree_of x)) c.in-Case.is
    ∙ case_last wide table moment aliases c.in-Case.at c.in-Case.subject c.in-Case.branches c.in-Case.otherwise c.in-Some.value (sense_of c.in_ok-subject-in-Case.subject) c.kind_of_sense-kind.result (map sense_of c.in_ok-parts-in-Case.parts.items) (Err fault)
    (ap (λ (x : Expr). sensed wide table moment aliases (tree_of x)) (sym c.deref.ensures) ∙ c.in_ok-subject-in-Case.ensures) c.kind_of_sense-kind.ensures c.in_ok-parts-in-Case.ensures c.in-Some.is
    (ap (λ (x : Expr). sensed wide table moment aliases (tree_of x)) (sym c.deref-in-Some.ensures) ∙ e)))

pub sensed-returns-in_ok-case_sense-in-None : goal.sensed-returns-in_ok-case_sense-in-None
sensed-returns-in_ok-case_sense-in-None t c =
    let table = c.args.table.now in
    let moment = c.args.moment.now in
    let aliases = map named_of c.args.aliases.now in
    let wide = c.args.wide in
    let x = sense_of c.in_ok-subject-in-Case.subject in
    let parts = map sense_of c.in_ok-parts-in-Case.parts.items in
    ap (λ (e : Expr). sensed wide table moment aliases (tree_of e)) c.in-Case.is
    ∙ case_parts wide table moment aliases c.in-Case.at c.in-Case.subject c.in-Case.branches c.in-Case.otherwise _ x c.kind_of_sense-kind.result (Ok parts)
    (ap (λ (e : Expr). sensed wide table moment aliases (tree_of e)) (sym c.deref.ensures) ∙ c.in_ok-subject-in-Case.ensures) c.kind_of_sense-kind.ensures c.in_ok-parts-in-Case.ensures c.in-None.is
    ∙ ap (λ (l : List Sense). Ok (case_senses table.columns x l)) (append-nil parts) ∙ ap Ok (sym c.in_ok-case_sense-in-None.ensures)

pub sensed-returns-in_ok-last-in-Some : goal.sensed-returns-in_ok-last-in-Some
sensed-returns-in_ok-last-in-Some t c =
    let table = c.args.table.now in
    let moment = c.args.moment.now in
    let aliases = map named_of c.args.aliases.now in
    let wide = c.args.wide in
    let x = sense_of c.in_ok-subject-in-Case.subject in
    let parts = map sense_of c.in_ok-parts-in-Case.parts.items in
    let last = sense_of c.in_ok-last-in-Some.last in
    subst (λ (r : Result Sense TypeFault). Answers sense_of c.case_closed.result r)
    (sym (ap (λ (e : Expr). sensed wide table moment aliases (tree_of e)) c.in-Case.is
    ∙ case_last wide table moment aliases c.in-Case.at c.in-Case.subject c.in-Case.branches c.in-Case.otherwise c.in-Some.value x c.kind_of_sense-kind.result parts (Ok last)
    (ap (λ (e : Expr). sensed wide table moment aliases (tree_of e)) (sym c.deref.ensures) ∙ c.in_ok-subject-in-Case.ensures) c.kind_of_sense-kind.ensures c.in_ok-parts-in-Case.ensures c.in-Some.is
    (ap (λ (e : Expr). sensed wide table moment aliases (tree_of e)) (sym c.deref-in-Some.ensures) ∙ c.in_ok-last-in-Some.ensures)
    ∙ ended table.columns x parts _ last
    ∙ ap (λ at. case_closed table.columns x parts at last) (ap (λ (e : Expr). place_of (tree_of e)) (sym c.deref-in-Some-2.ensures) ∙ sym c.place.ensures)))
    c.case_closed.ensures
