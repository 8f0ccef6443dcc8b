use Rattle.std.proofs.Common.{List, ℕ, sym, ◌∙◌, ap}
use Rattle.std.specs.List.{position}
use Rattle.slot_reading.specs.Names.{is_same_name}
use Rattle.iis_fields.proofs.TableLemmas.{column_reading-some, column_reading-none}
use Rattle.iis_fields.proofs.table.iis_reading.Goals as goal

pub returns-in_err-place : goal.returns-in_err-place
returns-in_err-place c =
    let there = ap (λ (names : List (List ℕ)). position (is_same_name c.args.name.now) names) (sym c.iis_names.ensures) in
    c.from_residual.ensures ∙ column_reading-none c.args.name.now (there ∙ sym c.in_err-place.ensures)

pub returns : goal.returns
returns c =
    let there = ap (λ (names : List (List ℕ)). position (is_same_name c.args.name.now) names) (sym c.iis_names.ensures) in
    c.reading_at.ensures ∙ column_reading-some c.args.name.now c.in_ok-place.place (there ∙ sym c.in_ok-place.ensures)
