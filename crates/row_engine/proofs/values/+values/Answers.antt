use Rattle.std.proofs.Common.{◌≡◌, ◌∙◌, IfOk, List, drop, ap, ap₂, sym, subst, refl, unwrap_or, arith}
use Rattle.std.proofs.lemmas.Option.{unwrap_or-slice_get}
use Rattle.lp_functions.specs.Moments.{read_as}
use Rattle.lp_values.specs.declared.value.Value.{Value}
use Rattle.lp_values.specs.declared.value.Value.TheVariants.{Null}
use Rattle.query_types.specs.declared.form.Form.{Form}
use Rattle.query_types.specs.declared.form.Operation.{Operation}
use Rattle.query_types.specs.Terms.{maker_of, term_of}
use Rattle.row_engine.specs.Rows.{branch_of, forms_in, made_by, value_in}
use Rattle.row_engine.specs.Seen.{seen_value}
use Rattle.row_engine.proofs.Forms.{case_first, first_given, made_value, passed_over, taken}
use Rattle.row_engine.proofs.values.+values.Goals as goal

pub form_value-returns-in-Column : goal.form_value-returns-in-Column
form_value-returns-in-Column t c =
    let row = c.args.row.now in
    c.of.ensures ∙ ap (λ o. unwrap_or o Null) c.get.ensures ∙ unwrap_or-slice_get row c.in-Column.index Null ∙ sym (ap (λ (f : Form). value_in row (term_of f)) c.in-Column.is)

pub form_value-returns-in-Made : goal.form_value-returns-in-Made
form_value-returns-in-Made t c =
    let row = c.args.row.now in
    let by = c.in-Made.by in
    subst (λ (v : Value). IfOk c.made_value.result (λ seen. seen_value seen ≡ v))
    (ap (λ (l : List Form). made_by (maker_of by) (forms_in row l)) c.as_slice.ensures.value ∙ sym (ap (λ (f : Form). value_in row (term_of f)) c.in-Made.is ∙ made_value row c.in-Made.kind by c.in-Made.of))
    c.made_value.ensures

pub made_value-returns-in_ok-subject-in-Case : goal.made_value-returns-in_ok-subject-in-Case
made_value-returns-in_ok-subject-in-Case t c =
    let values = forms_in c.args.row.now c.args.of.now in
    subst (λ (v : Value). IfOk c.branched.result (λ seen. seen_value seen ≡ v))
    (ap (λ (s : Value). branch_of s (drop 1 values)) (c.get.ensures ∙ c.in_ok-subject-in-Case.ensures) ∙ sym (case_first values) ∙ sym (ap (λ (b : Operation). made_by (maker_of b) values) c.in-Case.is))
    c.branched.ensures

pub made_value-returns-in_ok-text-in-Read : goal.made_value-returns-in_ok-text-in-Read
made_value-returns-in_ok-text-in-Read t c =
    let values = forms_in c.args.row.now c.args.of.now in
    let pattern = c.in-Read.pattern.value in
    c.read_as.ensures.value ∙ ap₂ read_as c.deref-in-Read.ensures (c.get-in-Read.ensures ∙ c.in_ok-text-in-Read.ensures) ∙ first_given (read_as pattern) refl values ∙ sym (ap (λ (b : Operation). made_by (maker_of b) values) c.in-Read.is)

pub branched-returns-then-is_met : goal.branched-returns-then-is_met
branched-returns-then-is_met t c =
    subst (λ (v : Value). IfOk c.form_value.result (λ seen. seen_value seen ≡ v))
    (sym (c.loop-at.invariant.same ∙ taken c.args.row.now c.args.subject.now c.args.of.now c.loop-at.at c.index-of-at.result c.index-of-at-then-is_met.result c.in_ok-is_met.is_met c.loop-at-test.true c.index-of-at.is c.in_ok-is_met.ensures c.if-is_met.true
    c.index-of-at-then-is_met.is))
    c.form_value.ensures

pub branched-loop-at-preserved : goal.branched-loop-at-preserved
branched-loop-at-preserved t c = record {
  within = omega (arith, c.loop-at-test.true);
  same = c.loop-at.invariant.same
      ∙ passed_over c.args.row.now c.args.subject.now c.args.of.now c.loop-at.at c.index-of-at.result c.in_ok-is_met.is_met c.loop-at-test.true c.index-of-at.is c.in_ok-is_met.ensures c.if-is_met.false;
}
