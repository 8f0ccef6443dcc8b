use Rattle.std.proofs.Common.{◌≡◌, map, take}
use Rattle.log_reading.specs.declared.span.Span.{Span}
use Rattle.subqueries.proofs.giving.names_of.Given as goal

-- the names so far
abbrev pub invariant-loop-span : goal.invariant-loop-span
invariant-loop-span l = record {
  items : l.span-items ≡ l.spans;
  names : l.names ≡ map (λ (span : Span). span.name) (take l.span-index l.span-items);
}
