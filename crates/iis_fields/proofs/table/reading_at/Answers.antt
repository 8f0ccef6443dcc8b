use Rattle.std.proofs.Common.{sym, ap, ◌∙◌}
use Rattle.iis_fields.specs.Places.{reading_at}
use Rattle.iis_fields.proofs.TableLemmas.{date_reading, time_reading}
use Rattle.iis_fields.proofs.table.reading_at.Goals as goal

pub returns-in-2 : goal.returns-in-2
returns-in-2 c = c.by.ensures ∙ (date_reading ∙ ap reading_at (sym c.in-2.is))

pub returns-in-3 : goal.returns-in-3
returns-in-3 c = c.by-in-3.ensures ∙ (time_reading ∙ ap reading_at (sym c.in-3.is))
