-- What entries keep of the spans that a run read.
use Rattle.std.specs.Prelude.{◌≡◌, ℕ, max, take}
use Rattle.lp_model.specs.Outside.{Folder, bytes_in}
use Rattle.ledger_model.specs.Entries.{Span as EntrySpan}
use Rattle.run_model.specs.Logs.{IsLastEnd}
use Rattle.log_reading.specs.declared.span.Span.{Span}

-- a span was read up to the last end of a line below its cut, or up to its start where that is greater
pub record IsTaken (now : Folder) (span : Span) (taken : EntrySpan) : Type 0 where
  pub identity_is : taken.identity ≡ span.identity
  pub end : ℕ
  pub is_end : IsLastEnd (take span.listed (bytes_in now span.name)) end
  pub to_is : taken.to ≡ max end span.from
