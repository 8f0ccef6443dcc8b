-- Queries that take rows as they come, whose text is there after each row.
use Rattle.std.proofs.Common.{◌≡◌, ℕ, ℤ, Bool, true, false, if◌then◌else◌, List, [], ◌++◌, Option, Some, None, refl, ap, ap₂, sym, subst, ◌∙◌}
use Rattle.std.specs.Prelude.{Result, Ok, Err, length, option_map, unsigned_abs}
use Rattle.grammar.specs.Trees as model
use Rattle.grammar.specs.Trees.{Query as query}
use Rattle.lp_model.specs.Outside.{Begins}
use Rattle.lp_values.specs.declared.value.Value.{Value}
use Rattle.command_words.specs.declared.formats.OutputFormat.{OutputFormat}
use Rattle.command_words.specs.declared.formats.OutputFormat.TheVariants as O
use Rattle.command_words.specs.declared.spec.Spec.{Spec}
use Rattle.group_planning.specs.Groups.{group_plan_of}
use Rattle.log_reading.specs.declared.span.Span.{Span}
use Rattle.order_top.specs.Finish.{Row}
use Rattle.output_formats.specs.Beginning.{csv_begins}
use Rattle.text_formats.specs.Lined.{lined_begins}
use Rattle.text_formats.specs.Tsv.{tsv_head, tsv_line}
use Rattle.text_formats.specs.W3c.{w3c_head, w3c_line}
use Rattle.tpl_output.specs.Sections.{Sections}
use Rattle.query_types.specs.Built.{is_built}
use Rattle.query_types.specs.Conditions.{Filter}
use Rattle.query_types.specs.Meanings.{followed}
use Rattle.query_types.specs.Planned.{Planned, filter_and_order, has_too_few, list_meant, place_in, plan_behind, plan_of, plan_of_parts, plan_with, selected, where_meant, with_aliases}
use Rattle.query_types.specs.Orders.{places_asked}
use Rattle.query_types.specs.Terms.{Term}
use Rattle.query_types.specs.declared.alias.Alias.{Alias}
use Rattle.query_types.specs.declared.fault.TypeFault.{TypeFault}
use Rattle.query_types.specs.declared.fault.TypeFault.TheVariants as F
use Rattle.query_types.specs.declared.table.TableColumns.{TableColumns}
use Rattle.row_output.specs.Asked.{Files, columns_for, asked_text}
use Rattle.row_output.specs.Orders.{IsPlain}
use Rattle.sampled_run.specs.Finishes.{finish_of}
use Rattle.execution.specs.Outputs.{asked_in, files_named, files_of, forbidden_by, is_standard, is_stdout, log_names}
use Rattle.execution.specs.Plans.{PlannedQuery, last_of, of_rows, query_plan}
use Rattle.execution.specs.Texts.{IsAtOnce, into_in, output_of, run_text, text_as}
use Rattle.execution.proofs.QueryPlans.{over_groups, over_rows}

-- such a text is by no template
same_text : (spec : Spec) (format : OutputFormat) (first second : Sections) (moment : ℤ) → IsAtOnce format → text_as spec format first moment ≡ text_as spec format second moment
same_text spec O.Nat first second moment once = absurd once
same_text spec O.Csv first second moment once = refl
same_text spec O.Tsv first second moment once = refl
same_text spec O.W3c first second moment once = refl
same_text spec O.Tpl first second moment once = absurd once

-- it is there after each row
at_once_as : (spec : Spec) (format : OutputFormat) (template : Sections) (moment : ℤ) → IsAtOnce format → (text_as spec format template moment).at_once ≡ true
at_once_as spec O.Nat template moment once = absurd once
at_once_as spec O.Csv template moment once = refl
at_once_as spec O.Tsv template moment once = refl
at_once_as spec O.W3c template moment once = refl
at_once_as spec O.Tpl template moment once = absurd once

pub at_once : (spec : Spec) (q : model.Query) (template : Sections) (moment : ℤ) → IsAtOnce (output_of spec q) → (run_text spec template moment q).at_once ≡ true
at_once spec q template moment once = at_once_as spec (output_of spec q) template moment once

-- the text of the first rows begins it
text_begins : (spec : Spec) (format : OutputFormat) (template : Sections) (moment : ℤ) (fresh : Bool) (names : List (List ℕ)) (rows more : List Row) → IsAtOnce format → Begins ((text_as spec format template moment).of fresh names rows) ((text_as spec format template moment).of fresh names (rows ++ more))
text_begins spec O.Nat template moment fresh names rows more once = absurd once
text_begins spec O.Csv template moment fresh names rows more once = csv_begins spec.headers fresh names rows more _ refl
text_begins spec O.Tsv template moment fresh names rows more once = lined_begins (tsv_head spec.headers spec.out_separator fresh names) (tsv_line spec.out_separator) rows more _ refl
text_begins spec O.W3c template moment fresh names rows more once = lined_begins (w3c_head moment names) w3c_line rows more _ refl
text_begins spec O.Tpl template moment fresh names rows more once = absurd once

-- rows that go to standard output go to no file

no_file : (b : Bool) (files : Files) → b ≡ true → (if b then None else Some files) ≡ None
no_file true files standard = refl
no_file false files standard = absurd cc

none_named : (spec : Spec) (logs : List (List ℕ)) (into : Option model.Placed) → is_standard into ≡ true → files_named spec logs into ≡ None
none_named spec logs None standard = refl
none_named spec logs (Some name) standard = no_file (is_stdout name.text) (record { pattern = name.text; forbidden = forbidden_by spec logs; mode = spec.file_mode }) standard

pub no_files : (spec : Spec) (q : model.Query) (spans : List Span) → is_standard (into_in q) ≡ true → files_of spec q spans ≡ None
no_files spec q spans standard = none_named spec (log_names q spans) (into_in q) standard

-- what is asked of them is the same, whatever the template and the logs
pub same_asked : (spec : Spec) (first second : Sections) (moment : ℤ) (q : model.Query) (spans others : List Span) → is_standard (into_in q) ≡ true → IsAtOnce (output_of spec q) → asked_in spec first moment q spans ≡ asked_in spec second moment q others
same_asked spec first second moment q spans others standard once =
    ap₂ (λ files text. λ plan. record { files = files; text = text; columns = columns_for files (last_of plan).names; order = finish_of q (last_of plan) })
    (no_files spec q spans standard ∙ sym (no_files spec q others standard)) (same_text spec (output_of spec q) first second moment once)

pub asked_begins : (spec : Spec) (template : Sections) (moment : ℤ) (q : model.Query) (spans : List Span) (plan : PlannedQuery) (rows more : List Row) → IsAtOnce (output_of spec q)
    → Begins (asked_text (asked_in spec template moment q spans plan) true rows) (asked_text (asked_in spec template moment q spans plan) true (rows ++ more))
asked_begins spec template moment q spans plan rows more once =
    text_begins spec (output_of spec q) template moment true (asked_in spec template moment q spans plan).columns rows more once

-- a plan over rows

behind : {A B : Type 0} (first : Result A TypeFault) (next : A → Result B TypeFault) (value : B) → followed first next ≡ Ok value → (a : A) × (first ≡ Ok a) × (next a ≡ Ok value)
behind (Ok a) next value is = (a, refl, is)
behind (Err fault) next value is = absurd cc

pub ok_same : {X : Type 0} (x y : X) (result : Result X TypeFault) → result ≡ Ok x → result ≡ Ok y → x ≡ y
ok_same x y result first second = let same = sym first ∙ second in cc

of_rows_is : (plan : PlannedQuery) (planned : Result Planned TypeFault) → over_rows planned ≡ Ok plan → (own : Planned) × (planned ≡ Ok own) × (plan ≡ of_rows own)
of_rows_is plan planned is =
    let own = behind planned (λ plan. Ok (of_rows plan)) plan is in
    (own.0, own.1, sym (ok_same (of_rows own.0) plan (Ok (of_rows own.0)) refl own.2))

pub planned_over_rows : (table : TableColumns) (moment : ℤ) (q : model.Query) (plan : PlannedQuery) → is_built q ≡ true → query_plan table moment q ≡ Ok plan → (own : Planned) × (plan_of table moment q ≡ Ok own) × (plan ≡ of_rows own)
planned_over_rows table moment q plan built is =
    of_rows_is plan (plan_of table moment q) (sym (ap (λ (b : Bool). if b then over_rows (plan_of table moment q) else over_groups (group_plan_of table moment q)) built) ∙ is)

-- one of a query without ORDER BY has no columns to order by

no_places : (table : TableColumns) (moment : Value) (all : List Alias) (items : List Term) (order : List model.Tree) (places : List ℕ) → order ≡ [] → places_asked table moment all items order ≡ Ok places → places ≡ []
no_places table moment all items order places none is =
    let here : places_asked table moment all items [] ≡ Ok places = subst (λ (es : List model.Tree). places_asked table moment all items es ≡ Ok places) none is in
    sym (ok_same [] places (places_asked table moment all items []) refl here)

few_or : (b : Bool) (fault : TypeFault) (plan planned : Planned) → (if b then Err fault else Ok plan) ≡ Ok planned → plan ≡ planned
few_or true fault plan planned is = absurd cc
few_or false fault plan planned is = ok_same plan planned (Ok plan) refl is

unordered_parts : (table : TableColumns) (moment : Value) (parts : model.Parts) (plan : Planned) → parts.order ≡ [] → plan_of_parts table moment parts ≡ Ok plan → plan.order ≡ []
unordered_parts table moment parts plan none is =
    let using = with_aliases table moment [] parts.aliases in
    let all = with_aliases table moment using parts.items in
    let aliased = behind (selected table moment [] using parts.aliases) (plan_behind table moment using all parts) plan is in
    let items = behind (list_meant table moment using all parts.star parts.items) _ plan aliased.2 in
    let asked = behind (filter_and_order table moment all parts items.0) _ plan items.2 in
    let same = few_or (has_too_few (length items.0) parts.into) (F.TooFewColumns (place_in parts.into)) (plan_with table all parts aliased.0 items.0 asked.0.0 asked.0.1) plan asked.2 in
    let filter = behind (where_meant table moment all parts.condition) _ asked.0 asked.1 in
    let order = behind (places_asked table moment all items.0 parts.order) _ asked.0 filter.2 in
    let empty : order.0 ≡ [] = no_places table moment all items.0 parts.order order.0 none order.1 in
    let pair : (filter.0, order.0) ≡ asked.0 = ok_same (filter.0, order.0) asked.0 (Ok (filter.0, order.0)) refl order.2 in
    let last : order.0 ≡ asked.0.1 = ap (λ (p : Option Filter × List ℕ). p.1) pair in
    ap (λ (p : Planned). p.order) (sym same) ∙ (sym last ∙ empty)

-- what is asked of its rows leaves them all, where neither DISTINCT nor TOP stands either
pub leaves_all : (table : TableColumns) (moment : ℤ) (parts : model.Parts) (subqueries : model.Queries) (plan : Planned) → parts.distinct ≡ false → parts.order ≡ [] → parts.top ≡ None → plan_of table moment (query.query parts subqueries) ≡ Ok plan
    → IsPlain (finish_of (query.query parts subqueries) plan)
leaves_all table moment parts subqueries plan distinct order top is =
    (unordered_parts table _ parts plan order is, distinct, ap (option_map unsigned_abs) top)
