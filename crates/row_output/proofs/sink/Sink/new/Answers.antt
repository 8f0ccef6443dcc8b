use Rattle.std.proofs.Common.{◌∙◌, subst, FitsSigned, w64}
use Rattle.std.proofs.lemmas.Int.{to_z-of_z}
use Rattle.any_format.specs.Wanted.{wanted_text}
use Rattle.row_output.specs.Sinks.{IsUnplaced}
use Rattle.row_output.proofs.SinkCalls.{new_standard, new_files}
use Rattle.row_output.proofs.sink.Sink.new.Goals as goal

pub new-requires-in-Files-clause-none : goal.new-requires-in-Files-clause-none
new-requires-in-Files-clause-none c = subst IsUnplaced c.in-Files.is c.requires.none

pub returns-in_ok-new-in-Standard-clause-purpose : goal.returns-in_ok-new-in-Standard-clause-purpose
returns-in_ok-new-in-Standard-clause-purpose c =
    let made = c.in_ok-new-in-Standard in
    let range : FitsSigned w64 c.args.moment = c.ranges.moment in
    let format = simp to_z-of_z at c.in_ok-format-in-Standard.ensures in
    new_standard c.args.into made.field-0 (wanted_text c.args.wanted c.args.moment) c.args.names c.in-Standard.is (made.ensures.format ∙ format) made.ensures.names

pub returns-in_ok-files-in-Files-clause-purpose : goal.returns-in_ok-files-in-Files-clause-purpose
returns-in_ok-files-in-Files-clause-purpose c =
    let made = c.in_ok-files-in-Files in
    let range : FitsSigned w64 c.args.moment = c.ranges.moment in
    let format = simp to_z-of_z at made.ensures.format in
    new_files c.args.into c.in-Files.outputs c.in-Files.mode made.files c.args.wanted c.args.moment c.args.names c.in-Files.is made.ensures.files format
