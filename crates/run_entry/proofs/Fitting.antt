-- An entry in its form, field by field.
use Rattle.std.proofs.Common.{◌≡◌, ◌≢◌, ℕ, ℤ, ◌+◌, ◌<◌, ◌^◌, Bool, true, false, List, [], ◌∷◌, ◌++◌, length, map, Some, None, refl, sym, arith}
use Rattle.std.specs.Prelude.{◌==◌, nat_lt, if◌then◌else◌}
use Rattle.std.specs.List.{AllByRecursion}
use Rattle.std.specs.Str.{IsUtf8}
use Rattle.std.proofs.lemmas.Bool.{eqb-false, ltb-false}
use Rattle.std.proofs.lemmas.List.{length-map}
use Rattle.std.proofs.lemmas.List.Elements.{recursion_from_All}
use Rattle.jiff_core.proofs.SignedLemmas.{signed_arith}
use Rattle.lp_model.specs.Names.{has_good_parts}
use Rattle.ledger.specs.Written.{kept_of}
use Rattle.ledger_model.specs.Entries.{Kept, Output}
use Rattle.ledger_model.specs.Layouts.{AllFit, field}
use Rattle.ledger_model.specs.Grammar.{IsEntry, IsKept, IsMoment, IsName, IsNew, kept_bytes, list_layout, output_layout, span_layout, text_field}
use Rattle.lp_outside.specs.declared.name.NameFault.TheVariants.{Empty, TooLong, BadPart}
use Rattle.command_words.specs.Table.{IsInRange}
use Rattle.program_meaning.specs.Executed.{IsMoment as IsRunMoment}
use Rattle.lp_values.specs.declared.value.Value.{Value}
use Rattle.log_reading.specs.declared.span.Took.{Took}
use Rattle.query_run.specs.declared.executing.Counts.{Counts}
use Rattle.text_output.specs.declared.target.Output.{Output as Written}
use Rattle.run_entry.specs.Entries.{Request, entry_for, kept_output, kept_span}
use Rattle.run_entry.specs.Forms.{AreKeptLists, AreOutputs, HasForm, IsFileName, IsKeptList, IsKeptValue, IsNewName, IsOutput, IsTook}
use Rattle.run_entry.proofs.Telling.{input_short, is_input}

-- names
record HasNoFault (empty long good : Bool) : Type 0 where
  some : empty ≡ false
  most : long ≡ false
  parts : good ≡ true

no_fault : (empty long good : Bool) → (if empty then Some Empty else if long then Some TooLong else if good then None else Some BadPart) ≡ None → HasNoFault empty long good
no_fault true long good e = absurd cc
no_fault false true good e = absurd cc
no_fault false false true e = record { some = refl; most = refl; parts = refl }
no_fault false false false e = absurd cc

pub name_fits : (name : List ℕ) → IsFileName name → IsName name
name_fits name is =
    let none = no_fault (length name == 0) (nat_lt 512 (length name)) (has_good_parts name) is.good in
    let filled = eqb-false (length name) 0 none.some in
    let most = ltb-false 512 (length name) none.most in
    record { utf8 = is.utf8; some = grind (arith); most = most; parts = none.parts }

-- words
words_fit : (before words : List (List ℕ)) → AllByRecursion IsUtf8 words → AllByRecursion (λ (word : List ℕ). length word < 2 ^ 32) words → AllFit (λ (some : List (List ℕ)). text_field) before words
words_fit before [] utf8 short = tt
words_fit before (word ∷ words) utf8 short = ((short.0, utf8.0), words_fit (before ++ word ∷ []) words utf8.1 short.1)

-- spans
short_name : (name : List ℕ) → IsName name → length name < 2 ^ 32
short_name name is = let most = is.most in omega (arith, most)

span_fits : (took : Took) → IsTook took → span_layout.Fits (kept_span took)
span_fits took is =
    let name = name_fits took.identity is.identity in (
      (short_name took.identity name, name),
      (omega (arith, is.forward, is.place), ((is.place, is.forward), (is.short, record { standing = took.standing; fits = is.fits; spells = refl }))),
    )

spans_fit : (before : List _) (took : List Took) → AllByRecursion IsTook took → AllFit (λ (some : List _). span_layout) before (map kept_span took)
spans_fit before [] all = tt
spans_fit before (one ∷ more) all = (span_fits one all.0, spans_fit (before ++ kept_span one ∷ []) more all.1)

-- lists
values_fit : (before : List Kept) (values : List Value) → AllByRecursion IsKeptValue values → AllFit (λ (some : List Kept). field IsKept kept_bytes) before (map kept_of values)
values_fit before [] all = tt
values_fit before (value ∷ values) all = (all.0, values_fit (before ++ kept_of value ∷ []) values all.1)

list_fits : (list : List Value) → IsKeptList list → list_layout.Fits (map kept_of list)
list_fits list is = (omega (arith, length-map list kept_of, is.few), values_fit [] list (recursion_from_All IsKeptValue list is.values))

lists_fit : (before : List (List Kept)) (lists : List (List Value)) → AllByRecursion IsKeptList lists → AllFit (λ (some : List (List Kept)). list_layout) before (map (map kept_of) lists)
lists_fit before [] all = tt
lists_fit before (list ∷ lists) all = (list_fits list all.0, lists_fit (before ++ map kept_of list ∷ []) lists all.1)

-- outputs, each with a name that those before it don't have

new_more : (before : List Output) (one : Output) (name : List ℕ) → IsNew before name → one.name ≢ name → IsNew (before ++ one ∷ []) name
new_more [] one name new other = (other, tt)
new_more (first ∷ before) one name new other = (new.0, new_more before one name new.1 other)

abbrev AreNew : List Output → List Written → Type 0
AreNew before outputs = AllByRecursion (λ (output : Written). IsNew before output.name) outputs

all_new_more : (before : List Output) (one : Written) (outputs : List Written) → AreNew before outputs → IsNewName one.name outputs → AreNew (before ++ kept_output one ∷ []) outputs
all_new_more before one [] new apart = tt
all_new_more before one (output ∷ outputs) new apart = (new_more before (kept_output one) output.name new.0 (λ same. apart.0 (sym same)), all_new_more before one outputs new.1 apart.1)

output_fits : (before : List Output) (output : Written) → IsOutput output → IsNew before output.name → (output_layout before).Fits (kept_output output)
output_fits before output is new =
    let name = name_fits output.name is.name in (
      (short_name output.name name, (name, new)),
      (omega (arith, is.within), ((omega (arith, is.within), is.within), is.last)),
    )

outputs_fit : (before : List Output) (outputs : List Written) → AreOutputs outputs → AreNew before outputs → AllFit output_layout before (map kept_output outputs)
outputs_fit before [] are new = tt
outputs_fit before (one ∷ more) are new = (output_fits before one are.0 new.0, outputs_fit (before ++ kept_output one ∷ []) more are.2 (all_new_more before one more new.1 are.1))

all_new : (outputs : List Written) → AreNew [] outputs
all_new [] = tt
all_new (output ∷ outputs) = (tt, all_new outputs)

-- the whole entry

moment_fits : (moment : ℤ) → IsRunMoment moment → IsMoment moment
moment_fits moment is = let before = is.1 in (is.0, omega (arith, signed_arith))

pub entry_fits : (request : Request) (lists : List (List Value)) (took : List Took) (outputs : List Written) (staged : ℕ) (counts : Counts) → IsInRange request.spec → IsRunMoment request.moment → HasForm request lists took outputs staged counts → IsEntry (entry_for request lists took outputs staged counts)
entry_fits request lists took outputs staged counts range moment has =
    let asked = has.request_fits in record {
      fits = (
        (refl, (moment_fits request.moment moment, (input_short request.spec request.q, is_input request.spec request.q range))),
        (
          ((asked.few_words, words_fit [] request.spec.words asked.words asked.short_words), ((omega (arith, asked.short_text), asked.text), (omega (arith, asked.short_template), tt))),
          (
            ((omega (arith, length-map took kept_span, has.few_spans), spans_fit [] took has.spans), (omega (arith, length-map lists (map kept_of), has.kept.few), lists_fit [] lists (recursion_from_All IsKeptList lists has.kept.each))),
            (
              has.staged,
              (
                (omega (arith, length-map outputs kept_output, has.few_outputs), outputs_fit [] outputs has.outputs (all_new outputs)),
                (has.counts.processed, (has.counts.output, has.counts.bad)),
              ),
            ),
          ),
        ),
      );
    }
