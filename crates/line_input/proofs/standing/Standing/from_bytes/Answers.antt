use Rattle.std.proofs.Common.{refl, sym, ◌∙◌}
use Rattle.line_input.proofs.Wholes.{lines_short, columns_broken, left_over, spelled_whole, fits_both, never_malformed, one_standing, no_bytes, some_bytes}
use Rattle.line_input.proofs.Fronts.{columns_there, columns_gone}
use Rattle.line_input.proofs.standing.Standing.from_bytes.Goals as goal

pub returns-then-is_empty-clause-inverse : goal.returns-then-is_empty-clause-inverse
returns-then-is_empty-clause-inverse c = λ standing fits is.
    one_standing _ standing (fits_both c.args.bytes.now c.in-Some.behind.now c.in-Ok-Some.rest.now c.in-Some.lines c.in-Ok-Some.columns c.in-Some.ensures (columns_there (λ r. r.now) _ _ _ c.in-Ok-Some.field-0-is c.in-Ok-Some.ensures)) fits
    (sym (spelled_whole c.args.bytes.now c.in-Some.behind.now c.in-Ok-Some.rest.now c.in-Some.lines c.in-Ok-Some.columns c.in-Some.ensures (columns_there (λ r. r.now) _ _ _ c.in-Ok-Some.field-0-is c.in-Ok-Some.ensures) (no_bytes c.in-Ok-Some.rest.now (sym c.is_empty.ensures ∙ c.if-is_empty.true))) ∙ is)

pub returns-else-is_empty-clause-refused : goal.returns-else-is_empty-clause-refused
returns-else-is_empty-clause-refused c = left_over c.args.bytes.now c.in-Some.behind.now c.in-Ok-Some.rest.now c.in-Some.lines _ c.in-Ok-Some.columns c.in-Some.ensures (columns_there (λ r. r.now) _ _ _ c.in-Ok-Some.field-0-is c.in-Ok-Some.ensures) (some_bytes c.in-Ok-Some.rest.now (sym c.is_empty.ensures ∙ c.if-is_empty.false)) refl

pub returns-else-is_empty-clause-inverse : goal.returns-else-is_empty-clause-inverse
returns-else-is_empty-clause-inverse c = λ standing fits is. absurd (never_malformed c.args.bytes.now _ standing fits is (returns-else-is_empty-clause-refused c))

pub returns-in-Ok-None-clause-refused : goal.returns-in-Ok-None-clause-refused
returns-in-Ok-None-clause-refused c = columns_broken c.args.bytes.now c.in-Some.behind.now c.in-Some.lines c.in-Some.ensures (columns_gone (λ r. r.now) _ _ c.in-Ok-None.field-0-is c.in-Ok-None.ensures)

pub returns-in-Ok-None-clause-inverse : goal.returns-in-Ok-None-clause-inverse
returns-in-Ok-None-clause-inverse c = λ standing fits is. absurd (never_malformed c.args.bytes.now 8 standing fits is (returns-in-Ok-None-clause-refused c))

pub returns-in-None-clause-refused : goal.returns-in-None-clause-refused
returns-in-None-clause-refused c = lines_short c.args.bytes.now c.in-None.ensures

pub returns-in-None-clause-inverse : goal.returns-in-None-clause-inverse
returns-in-None-clause-inverse c = λ standing fits is. absurd (never_malformed c.args.bytes.now 0 standing fits is (returns-in-None-clause-refused c))
