use Rattle.std.proofs.Common.{◌≡◌, ℕ, Option, Err, sym, ◌∙◌, ap, subst, refl}
use Rattle.std.proofs.lemmas.Result.{IfErr-at_err, IfErr-weaker, IfOk-weaker}
use Rattle.lp_model.specs.Outside.{Told}
use Rattle.lp_model.proofs.Growing.{OnlyGrow-refl}
use Rattle.log_reading.specs.Page.{IsTooMany, IsWithin}
use Rattle.log_reading.specs.Spans.{AreKept, BadLine, spans_bad_lines}
use Rattle.log_reading.proofs.Faults.{bad_line_so}
use Rattle.log_reading.proofs.Sizes.{within_none}
use Rattle.query_run.proofs.WholeRun.{bad_taken}
use Rattle.list_run.specs.Faults.{OnBad, OnUnplanned}
use Rattle.list_run.specs.declared.fault.ListFault.{ListFault}
use Rattle.list_run.specs.declared.fault.ListFault.TheVariants as F
use Rattle.list_run.proofs.Spanning.{bad_of_memory, bad_read, facts_given, list_given, logs_read, none_of_memory, none_read, values_taken}
use Rattle.list_run.proofs.running.gather_spans.Goals as goal

pub take_spans-requires-clause-within : goal.take_spans-requires-clause-within
take_spans-requires-clause-within g c =
    let Of : Option ℕ → Type 0 = λ most. IsWithin most c.first_page-page.result.bad in
    subst Of (sym c.first_page-page.ensures.most) (subst (IsWithin c.args.most_bad) (sym c.first_page-page.ensures.bad) (within_none c.args.most_bad))

pub returns-in_default-clause-grows : goal.returns-in_default-clause-grows
returns-in_default-clause-grows g c = OnlyGrow-refl _

pub returns-in-Ok-take_spans-clause-values : goal.returns-in-Ok-take_spans-clause-values
returns-in-Ok-take_spans-clause-values g c =
    let format = g.R.LineReader.format c.args.reader.now in
    let told = g.L.LogSource.folder c.take_spans.new.logs in
    let taken = values_taken g.P.Picker.picks c.args.picker format c.args.waits told c.args.spans.now c.args.keep c.first_page-page.result c.take_spans.new.page c.new-gathered.result c.take_spans.new.out
    (ap (λ t. t.picker) c.first_page-page.ensures.taker ∙ c.new.ensures.picker) c.new-gathered.ensures c.in-Ok-take_spans.ensures.takes in
    IfOk-weaker c.end_list.result _ _ (λ given same. facts_given g.P.Picker.picks c.args.picker format c.args.waits told c.args.spans.now c.args.keep c.take_spans.new.out given same taken) c.end_list.ensures.values

pub returns-in-Ok-take_spans-clause-kept : goal.returns-in-Ok-take_spans-clause-kept
returns-in-Ok-take_spans-clause-kept g c =
    let format = g.R.LineReader.format c.args.reader.now in
    let told = g.L.LogSource.folder c.take_spans.new.logs in
    let taken = values_taken g.P.Picker.picks c.args.picker format c.args.waits told c.args.spans.now c.args.keep c.first_page-page.result c.take_spans.new.page c.new-gathered.result c.take_spans.new.out
    (ap (λ t. t.picker) c.first_page-page.ensures.taker ∙ c.new.ensures.picker) c.new-gathered.ensures c.in-Ok-take_spans.ensures.takes in
    IfOk-weaker c.end_list.result _ _ (λ given same. list_given g.P.Picker.picks c.args.picker format c.args.waits told c.args.spans.now c.args.keep c.take_spans.new.out given same taken) c.end_list.ensures.kept

pub returns-in-Ok-take_spans-clause-bad : goal.returns-in-Ok-take_spans-clause-bad
returns-in-Ok-take_spans-clause-bad g c =
    IfOk-weaker c.end_list.result _ _ (λ given same.
    bad_taken _ (g.R.LineReader.format c.args.reader.now) c.args.waits (g.L.LogSource.folder c.take_spans.new.logs) c.args.spans.now c.first_page-page.result c.take_spans.new.page c.new-gathered.result c.take_spans.new.out
    given.bad same c.first_page-page.ensures.bad c.in-Ok-take_spans.ensures.takes) c.end_list.ensures.bad

pub returns-clause-too_many : goal.returns-clause-too_many
returns-clause-too_many g c =
    let format = g.R.LineReader.format c.args.reader.now in
    let told = g.L.LogSource.folder c.take_spans.new.logs in
    let page = c.first_page-page.result in
    let Of : Option ℕ → ℕ → BadLine → Type 0 = λ most bad line. Told told (λ folder. AreKept format c.args.waits c.args.spans.now folder → IsTooMany most bad (spans_bad_lines format c.args.waits folder c.args.spans.now) line) in
    subst (OnBad (Of c.args.most_bad 0)) (sym c.read_fault.ensures) (bad_read c.in-Err.fault (Of c.args.most_bad 0)
    (bad_line_so c.in-Err.fault (Of page.most_bad page.bad) (Of c.args.most_bad 0)
    (λ line s. subst (λ (most : Option ℕ). Of most 0 line) c.first_page-page.ensures.most (subst (λ (bad : ℕ). Of page.most_bad bad line) c.first_page-page.ensures.bad s))
    c.in-Err.ensures.too_many))

pub returns-clause-unplanned : goal.returns-clause-unplanned
returns-clause-unplanned g c = subst (OnUnplanned (λ why. ⊥)) (sym c.read_fault.ensures) (none_read (λ why. ⊥) c.in-Err.fault)

pub returns-clause-logs : goal.returns-clause-logs
returns-clause-logs g c = λ e.
    let is : c.read_fault.result ≡ F.Logs = IfErr-at_err (λ (f : ListFault). c.read_fault.result ≡ f) e refl in
    c.in-Err.ensures.logs (ap (λ f. Err f) (logs_read c.in-Err.fault (sym c.read_fault.ensures ∙ is)))

pub returns-in-Ok-take_spans-clause-within : goal.returns-in-Ok-take_spans-clause-within
returns-in-Ok-take_spans-clause-within g c =
    IfOk-weaker c.end_list.result _ _ (λ given same.
    subst (λ (bad : ℕ). IsWithin c.args.most_bad bad) (sym same) (subst (λ (most : Option ℕ). IsWithin most c.take_spans.new.page.bad) (c.take_spans.ensures.most ∙ c.first_page-page.ensures.most) c.in-Ok-take_spans.ensures.within)) c.end_list.ensures.bad

pub returns-in-Ok-take_spans-clause-too_many : goal.returns-in-Ok-take_spans-clause-too_many
returns-in-Ok-take_spans-clause-too_many g c =
    let format = g.R.LineReader.format c.args.reader.now in
    let told = g.L.LogSource.folder c.take_spans.new.logs in
    let Of : BadLine → Type 0 = λ line. Told told (λ folder. AreKept format c.args.waits c.args.spans.now folder → IsTooMany c.args.most_bad 0 (spans_bad_lines format c.args.waits folder c.args.spans.now) line) in
    IfErr-weaker c.end_list.result _ _ (λ fault memory. bad_of_memory fault Of memory) c.end_list.ensures.fault

pub returns-in-Ok-take_spans-clause-unplanned : goal.returns-in-Ok-take_spans-clause-unplanned
returns-in-Ok-take_spans-clause-unplanned g c = IfErr-weaker c.end_list.result _ _ (λ fault memory. none_of_memory fault (λ why. ⊥) memory) c.end_list.ensures.fault

pub returns-in-Ok-take_spans-clause-logs : goal.returns-in-Ok-take_spans-clause-logs
returns-in-Ok-take_spans-clause-logs g c = λ e.
    let is : F.Logs ≡ F.Memory = IfErr-at_err (λ (f : ListFault). f ≡ F.Memory) e c.end_list.ensures.fault in
    absurd cc
