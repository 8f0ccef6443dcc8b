-- What an output has gained as a stage, told of standard output and of files.
use Rattle.std.proofs.Common.{◌≡◌, ℕ, ℤ, true, false, true≢false, not, Bool, List, [], Option, Some, None, subst, sym, refl, ◌∙◌, ap, append-nil, arith}
use Rattle.std.specs.Prelude.{is_some, if◌then◌else◌}
use Rattle.disk_model.specs.Disk.{DiskState, Files as Contents}
use Rattle.grammar.specs.Trees as model
use Rattle.command_words.specs.declared.spec.Spec.{Spec}
use Rattle.file_stage.specs.FileTexts.{AlwaysTells}
use Rattle.file_stage.specs.declared.putting.FileStage.{FileStage}
use Rattle.log_reading.specs.declared.span.Span.{Span}
use Rattle.lp_outside.specs.declared.stage.Mark.{Mark}
use Rattle.lp_outside.specs.Streams.{stream_state}
use Rattle.order_top.specs.Finish.{Row}
use Rattle.row_output.specs.Asked.{AreGood, Asked, Files, OutputText, left_of, asked_text}
use Rattle.row_output.specs.Rows.{Holds, HoldsAt, Stops, StopsAt}
use Rattle.text_output.specs.Output.{kind_of}
use Rattle.text_output.specs.declared.target.Output.{Output}
use Rattle.tpl_output.specs.Sections.{Sections}
use Rattle.checkpointed_command.specs.Outputs.{asked_in, files_named, forbidden_by, is_standard, is_stdout, log_names}
use Rattle.checkpointed_command.specs.Plans.{PlannedQuery}
use Rattle.checkpointed_command.specs.Texts.{into_in}
use Rattle.logparser_cli.specs.Outputs.{AreCut, AreOut, HasFront, HasWritten, Held, IsUnwritten, held}
use Rattle.logparser_cli.proofs.Filed.{are_left, are_written, file_kind, names_split, seen_by, written_left}

some_unless : (d : Bool) (files : Files) → is_some (if d then None else Some files) ≡ not d
some_unless true files = refl
some_unless false files = refl

named_standard : (spec : Spec) (logs : List (List ℕ)) (into : Option model.Placed) → is_some (files_named spec logs into) ≡ not (is_standard into)
named_standard spec logs None = refl
named_standard spec logs (Some name) = some_unless (is_stdout name.text) (record { pattern = name.text; forbidden = forbidden_by spec logs; mode = spec.file_mode })

-- whether a query's rows go to files
pub goes_to_files : (spec : Spec) (template : Sections) (moment : ℤ) (q : model.Query) (spans : List Span) (plan : PlannedQuery) (standard : Bool) → is_standard (into_in q) ≡ standard → is_some (asked_in spec template moment q spans plan).files ≡ not standard
goes_to_files spec template moment q spans plan standard is = named_standard spec (log_names q spans) (into_in q) ∙ ap not is

out_at : {S : Type 0} (written : S → Option (List ℕ)) (ended : S → List ℕ → ℕ → Mark → Type 0) (start now : S) (files : Option Files) (text : OutputText) (rows : List Row) (outputs : List Output) (tells : Type 0) (contents : Contents) → is_some files ≡ false
    → HoldsAt files (kind_of (stream_state written) ended) text start rows outputs now → AreOut (held tells contents (written start)) (held tells contents (written now)) files text rows
out_at written ended start now None text rows outputs tells contents standard holds = record { gained = (holds.text.gained (omega arith)).streamed refl; files = refl }
out_at written ended start now (Some files) text rows outputs tells contents standard holds = absurd (true≢false standard)

-- standard output has gained the text of the rows
pub output_written : {S : Type 0} (written : S → Option (List ℕ)) (ended : S → List ℕ → ℕ → Mark → Type 0) (start now : S) (asked : Asked) (rows : List Row) (outputs : List Output) (tells : Type 0) (contents : Contents) → is_some asked.files ≡ false
    → Holds (kind_of (stream_state written) ended) asked start rows outputs now → HasWritten (held tells contents (written start)) (held tells contents (written now)) asked rows
unfolding Holds HasWritten
output_written written ended start now asked rows outputs tells contents standard holds = out_at written ended start now asked.files (asked_text asked) (left_of asked rows) outputs tells contents standard holds

cut_at : {S : Type 0} (written : S → Option (List ℕ)) (ended : S → List ℕ → ℕ → Mark → Type 0) (start now : S) (files : Option Files) (text : OutputText) (rows : List Row) (tells : Type 0) (contents : Contents) → is_some files ≡ false
    → StopsAt files (kind_of (stream_state written) ended) text start rows now → AreCut (held tells contents (written start)) (held tells contents (written now)) files text rows
cut_at written ended start now None text rows tells contents standard stops = record { front = (stops (omega arith)).streamed refl; files = refl }
cut_at written ended start now (Some files) text rows tells contents standard stops = absurd (true≢false standard)

-- it has the front of it
pub output_cut : {S : Type 0} (written : S → Option (List ℕ)) (ended : S → List ℕ → ℕ → Mark → Type 0) (start now : S) (asked : Asked) (rows : List Row) (tells : Type 0) (contents : Contents) → is_some asked.files ≡ false
    → Stops (kind_of (stream_state written) ended) asked start rows now → HasFront (held tells contents (written start)) (held tells contents (written now)) asked rows
unfolding Stops HasFront
output_cut written ended start now asked rows tells contents standard stops = cut_at written ended start now asked.files (asked_text asked) (left_of asked rows) tells contents standard stops

files_at : {D : Type 0} (state : D → DiskState) (start now : FileStage D) (files : Option Files) (text : OutputText) (rows : List Row) (outputs : List Output) (out : Option (List ℕ)) → is_some files ≡ true
    → HoldsAt files (file_kind state) text start rows outputs now → AreOut (held (AlwaysTells state) (seen_by state start) out) (held (AlwaysTells state) (seen_by state now) out) files text rows
files_at state start now None text rows outputs out some holds = absurd (true≢false (sym some))
files_at state start now (Some files) text rows outputs out some holds = record {
  good = subst (AreGood files.forbidden) (names_split files.pattern rows) holds.good;
  written = are_written state files text rows outputs start now holds;
  out = refl;
}

files_have : {D : Type 0} (state : D → DiskState) (start now : FileStage D) (asked : Asked) (rows : List Row) (outputs : List Output) (out : Option (List ℕ)) → is_some asked.files ≡ true
    → Holds (file_kind state) asked start rows outputs now → HasWritten (held (AlwaysTells state) (seen_by state start) out) (held (AlwaysTells state) (seen_by state now) out) asked rows
unfolding Holds HasWritten
files_have state start now asked rows outputs out some holds = files_at state start now asked.files (asked_text asked) (left_of asked rows) outputs out some holds

-- files have the texts of the rows
pub files_written : {D : Type 0} (state : D → DiskState) (start now : FileStage D) (first last : D) (asked : Asked) (rows : List Row) (outputs : List Output) (out : Option (List ℕ)) → start.disk.now ≡ first → now.disk.now ≡ last → is_some asked.files ≡ true
    → Holds (file_kind state) asked start rows outputs now → HasWritten (held (AlwaysTells state) (state first).seen out) (held (AlwaysTells state) (state last).seen out) asked rows
files_written {D} state start now first last asked rows outputs out begins ends some holds =
    subst (λ (d : D). HasWritten (held (AlwaysTells state) (state d).seen out) (held (AlwaysTells state) (state last).seen out) asked rows) begins
    (subst (λ (d : D). HasWritten (held (AlwaysTells state) (seen_by state start) out) (held (AlwaysTells state) (state d).seen out) asked rows) ends (files_have state start now asked rows outputs out some holds))

left_at : {D : Type 0} (state : D → DiskState) (start now : FileStage D) (files : Option Files) (text : OutputText) (rows : List Row) (out : Option (List ℕ)) → is_some files ≡ true
    → StopsAt files (file_kind state) text start rows now → AreCut (held (AlwaysTells state) (seen_by state start) out) (held (AlwaysTells state) (seen_by state now) out) files text rows
left_at state start now None text rows out some stops = absurd (true≢false (sym some))
left_at state start now (Some files) text rows out some stops = record { left = are_left state files rows start now stops; out = refl }

files_changed : {D : Type 0} (state : D → DiskState) (start now : FileStage D) (asked : Asked) (rows : List Row) (out : Option (List ℕ)) → is_some asked.files ≡ true
    → Stops (file_kind state) asked start rows now → HasFront (held (AlwaysTells state) (seen_by state start) out) (held (AlwaysTells state) (seen_by state now) out) asked rows
unfolding Stops HasFront
files_changed state start now asked rows out some stops = left_at state start now asked.files (asked_text asked) (left_of asked rows) out some stops

-- some of these may have changed
pub files_cut : {D : Type 0} (state : D → DiskState) (start now : FileStage D) (first last : D) (asked : Asked) (rows : List Row) (out : Option (List ℕ)) → start.disk.now ≡ first → now.disk.now ≡ last → is_some asked.files ≡ true
    → Stops (file_kind state) asked start rows now → HasFront (held (AlwaysTells state) (state first).seen out) (held (AlwaysTells state) (state last).seen out) asked rows
files_cut {D} state start now first last asked rows out begins ends some stops =
    subst (λ (d : D). HasFront (held (AlwaysTells state) (state d).seen out) (held (AlwaysTells state) (state last).seen out) asked rows) begins
    (subst (λ (d : D). HasFront (held (AlwaysTells state) (seen_by state start) out) (held (AlwaysTells state) (state d).seen out) asked rows) ends (files_changed state start now asked rows out some stops))

front_at : (old new : Held) (files : Option Files) (text : OutputText) (rows : List Row) → AreOut old new files text rows → AreCut old new files text rows
front_at old new None text rows out = record { front = (text true rows, ([], sym (append-nil (text true rows))), out.gained); files = out.files }
front_at old new (Some files) text rows out = record { left = λ tells. written_left files text rows old.files new.files out.good (out.written tells); out = out.out }

-- what was written whole was written up to its end
pub written_front : (old new : Held) (asked : Asked) (rows : List Row) → HasWritten old new asked rows → HasFront old new asked rows
unfolding HasWritten HasFront
written_front old new asked rows written = front_at old new asked.files (asked_text asked) (left_of asked rows) written

-- no call was made
pub files_unwritten : {D : Type 0} (state : D → DiskState) (start now : FileStage D) (first last : D) (out : Option (List ℕ)) → start.disk.now ≡ first → now.disk.now ≡ last → now ≡ start
    → IsUnwritten (held (AlwaysTells state) (state first).seen out) (held (AlwaysTells state) (state last).seen out)
files_unwritten {D} state start now first last out begins ends same = record { out = refl; files = ap (λ (d : D). (state d).seen) (sym ends ∙ (ap (λ (s : FileStage D). s.disk.now) same ∙ begins)) }
