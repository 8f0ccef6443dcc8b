use Rattle.std.proofs.Common.{◌∙◌}
use Rattle.output_formats.proofs.Quoting.{any_from_search}
use Rattle.output_formats.proofs.csv.has_one.Goals as goal

pub returns : goal.returns
returns c =
    let new = c.new-places.ensures in
    c.is_some.ensures ∙ any_from_search c.args.set c.args.field.now c.new-places.result c.next_place.result _ new.set new.bytes new.at c.next_place.ensures.place
