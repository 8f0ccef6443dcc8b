-- What a run is asked for.
use Rattle.std.proofs.Common.{◌≡◌, ℕ, ℤ, Bool, List, Option, Some, None, ◌∙◌, ap, ap₂, inl, refl}
use Rattle.grammar.specs.Trees as model
use Rattle.lp_model.specs.Outside.{Folder}
use Rattle.command_words.specs.declared.formats.OutputFormat.{OutputFormat}
use Rattle.command_words.specs.declared.spec.Spec.{Spec}
use Rattle.log_reading.specs.declared.span.Span.{Span}
use Rattle.lp_values.specs.declared.value.Value.{Value}
use Rattle.row_output.specs.Asked.{Asked, Files, RowsText}
use Rattle.tpl_output.specs.Sections.{Sections}
use Rattle.execution.specs.declared.formats.LogFormat.{LogFormat}
use Rattle.execution.specs.declared.formats.LogFormat.TheVariants as F
use Rattle.execution.specs.Executed.{IsStopped}
use Rattle.execution.specs.Outputs.{asked_in, files_of}
use Rattle.execution.specs.Plans.{PlannedQuery, asked_for}
use Rattle.execution.specs.Texts.{output_of, text_as}

-- the outputs of the query, and the text in its format, are those of a run
pub as_asked : (spec : Spec) (q : model.Query) (spans : List Span) (format : OutputFormat) (template : Sections) (moment : ℤ) (files : Option Files) (text : RowsText)
    → files ≡ files_of spec q spans → format ≡ output_of spec q → text ≡ text_as spec format template moment → asked_for files text q ≡ asked_in spec template moment q spans
as_asked spec q spans format template moment files text placed asked is =
    ap₂ (λ (f : Option Files) (t : RowsText). asked_for f t q) placed (is ∙ ap (λ (f : OutputFormat). text_as spec f template moment) asked)

-- a run that did nothing
pub stopped_at_once : (format : LogFormat) (waits : Bool) (told : Option Folder) (Nothing : Type 0) (Front : Asked → List (List Value) → Type 0) (asked : PlannedQuery → Asked) (spec : Spec) (moment : ℤ) (q : model.Query) (spans : List Span)
    → Nothing → IsStopped format waits told Nothing Front asked spec moment q spans
stopped_at_once (F.Tabled format) waits told Nothing Front asked spec moment q spans nothing = inl nothing
stopped_at_once (F.Sampled options limit) waits None Nothing Front asked spec moment q spans nothing = tt
stopped_at_once (F.Sampled options limit) waits (Some folder) Nothing Front asked spec moment q spans nothing = λ kept. inl nothing
