use Rattle.std.proofs.Common.{◌≡◌, ◌++◌, map, take}
use Rattle.log_reading.specs.declared.span.Span.{Span}
use Rattle.execution.proofs.outputs.add_names.Given as goal

-- the names so far were added
abbrev pub invariant-loop-span : goal.invariant-loop-span
invariant-loop-span l = l.names ≡ l.initial.names ++ map (λ (span : Span). span.name) (take l.span-index l.span-items)
