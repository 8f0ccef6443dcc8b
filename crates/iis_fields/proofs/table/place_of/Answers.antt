use Rattle.std.proofs.Common.{List, ℕ, take, drop, sym, ap, ◌∙◌}
use Rattle.std.proofs.lemmas.List.{take-map, drop-map}
use Rattle.std.specs.List.{position}
use Rattle.slot_reading.specs.Names.{is_same_name}
use Rattle.iis_fields.specs.Table.{logged_names}
use Rattle.iis_fields.specs.Places.{place_of}
use Rattle.iis_fields.proofs.table.place_of.Goals as goal

pub returns : goal.returns
unfolding place_of logged_names
returns c =
    c.place_among.ensures
    ∙ ap (λ (names : List (List ℕ)). position (is_same_name c.args.name.now) names)
    (sym (take-map (λ s. s.now) 22 (drop 2 c.iis_names.result)) ∙ (ap (λ (names : List (List ℕ)). take 22 names) (sym (drop-map (λ s. s.now) 2 c.iis_names.result)) ∙ ap (λ (names : List (List ℕ)). take 22 (drop 2 names)) c.iis_names.ensures))
