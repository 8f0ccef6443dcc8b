-- Which answers are refusals, and the exit status of each.
use Rattle.std.specs.Prelude.{ℕ, ⊤}
use Rattle.reports.specs.declared.status.Status.{Status}
use Rattle.reports.specs.declared.status.Status.TheVariants.{Done, Memory, Clock, Usage, Query, NoSuchLog, BadName, NameClash, TooManyOutputs, TooManyLogs, Template, InputTooLong, LogsFault, SourceFault, DiskFault, SinkFault, ParseErrors, LostLog, Shrunk, InputChanged, IntoNeeded, LedgerFault}

-- a refusal: every answer but Done
abbrev pub OnRefused : Status → Type 0 → Type 0
OnRefused Done P = ⊤
OnRefused other P = P

-- the exit status of the program
abbrev pub code : Status → ℕ
code Done = 0
code Memory = 1
code (Clock moment) = 2
code (Usage fault) = 2
code (Query fault) = 3
code (NoSuchLog name) = 4
code (BadName fault) = 4
code (NameClash name) = 4
code TooManyOutputs = 4
code TooManyLogs = 4
code (Template fault) = 4
code InputTooLong = 4
code LogsFault = 5
code SourceFault = 5
code DiskFault = 6
code SinkFault = 7
code (ParseErrors log row) = 8
code (LostLog stem number) = 4
code (Shrunk name kept found) = 4
code (InputChanged kept given) = 4
code IntoNeeded = 3
code (LedgerFault part at) = 9
