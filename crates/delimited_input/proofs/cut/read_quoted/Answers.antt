use Rattle.std.proofs.Common.{◌≡◌, ◌++◌, ℕ, true, List, Some, ◌∙◌, rules, inr, ap}
use Rattle.std.specs.Prelude.{option_map}
use Rattle.csv.specs.Reading.{strip_bom, reader_config, reader_trim, Ready}
use Rattle.csv.specs.declared.reader.Trim.TheVariants as trim
use Rattle.delimited_input.proofs.Agreeing.{line_fields_are}
use Rattle.delimited_input.proofs.Machine.{read_is, setup, unmarked}
use Rattle.delimited_input.proofs.Searching.{each_in_line}
use Rattle.delimited_input.proofs.cut.read_quoted.Goals as goal

pub returns-in-Ok-true : goal.returns-in-Ok-true
returns-in-Ok-true c =
    let trims : reader_trim c.from_reader-reader.result ≡ trim.None = search rules in
    let ready : Ready c.from_reader-reader.result = inr (inr (search rules, c.from_reader-reader.ensures.headers)) in
    let config : reader_config c.from_reader-reader.result ≡ setup c.args.separator true = search rules in
    let source = c.from_reader-reader.ensures.source in
    let reads = c.in-Ok-true.ensures.reads trims ready in
    read_is c.args.separator true c.args.line.now c.requires.filled (each_in_line c.args.line.now c.requires.whole) _ _ _ _ _ _ _
    config c.from_reader-reader.ensures.state (source ∙ ap (option_map strip_bom) (c.chain-marked.ensures.bytes ∙ ap (λ (mark : List ℕ). Some (mark ++ c.args.line.now)) c.as_slice.ensures) ∙ ap (λ (l : List ℕ). Some l) (unmarked c.args.line.now)) reads.0
    ∙ line_fields_are c.args.separator c.args.line.now
