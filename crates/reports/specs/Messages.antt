-- What a refusal is called.
use Rattle.std.specs.Prelude.{ℕ, List, [], ◌∷◌, ◌++◌, codes, decimal, Option, Some, None}
use Rattle.command_words.specs.Usage.{usage_text}
use Rattle.ledger.specs.declared.refused.Part2.{Part2}
use Rattle.ledger.specs.declared.refused.Part2.TheVariants.{Ledger, Stage}
use Rattle.query_lexer.specs.declared.fault.LexFault.{LexFault}
use Rattle.query_lexer.specs.declared.fault.LexFault.TheVariants as lex
use Rattle.query_parser.specs.declared.fault.ParseFault.{ParseFault}
use Rattle.query_parser.specs.declared.fault.ParseFault.TheVariants as parse
use Rattle.query_types.specs.declared.fault.TypeFault.{TypeFault}
use Rattle.query_types.specs.declared.fault.TypeFault.TheVariants as type
use Rattle.query_text.specs.declared.fault.QueryFault.{QueryFault}
use Rattle.query_text.specs.declared.fault.QueryFault.TheVariants as query
use Rattle.tpl_output.specs.declared.fault.TemplateFault.{TemplateFault}
use Rattle.tpl_output.specs.declared.fault.TemplateFault.TheVariants as template
use Rattle.reports.specs.declared.status.Status.{Status}
use Rattle.reports.specs.declared.status.Status.TheVariants.{Done, Memory, Clock, Usage, Query, NoSuchLog, BadName, NameClash, TooManyOutputs, TooManyLogs, Template, InputTooLong, LogsFault, SourceFault, DiskFault, SinkFault, ParseErrors, LostLog, Shrunk, InputChanged, IntoNeeded, LedgerFault}

-- a number, where there is one, with what parts it from the text behind
abbrev pub counted : Option ℕ → List ℕ
counted None = []
counted (Some number) = decimal number ++ codes ": "

-- a kind of fault at a place of the query
abbrev pub at_place : ℕ → List ℕ → List ℕ
at_place at kind = codes "query: at " ++ counted (Some at) ++ kind

abbrev pub lex_reason : LexFault → List ℕ
lex_reason (lex.BadCharacter at) = at_place at (codes "bad character")
lex_reason (lex.OpenString at) = at_place at (codes "open string")
lex_reason (lex.OpenBracket at) = at_place at (codes "open bracket")
lex_reason (lex.NumberTooLarge at) = at_place at (codes "number too large")
lex_reason lex.Memory = codes "out of memory"

abbrev pub parse_reason : ParseFault → List ℕ
parse_reason (parse.Syntax at) = at_place at (codes "syntax")
parse_reason (parse.TooDeep at) = at_place at (codes "too deep")
parse_reason parse.Memory = codes "out of memory"

abbrev pub type_reason : TypeFault → List ℕ
type_reason (type.UnknownField at) = at_place at (codes "unknown field")
type_reason (type.UnknownFunction at) = at_place at (codes "unknown function")
type_reason (type.KindMismatch at) = at_place at (codes "kind mismatch")
type_reason (type.WrongArity at) = at_place at (codes "wrong arity")
type_reason (type.TooFewColumns at) = at_place at (codes "too few columns")
type_reason (type.NotInSelect at) = at_place at (codes "not in select")
type_reason (type.NotGrouped at) = at_place at (codes "not grouped")
type_reason (type.NestedAggregate at) = at_place at (codes "nested aggregate")
type_reason (type.StarWithGroups at) = at_place at (codes "star with groups")
type_reason (type.BadPattern at) = at_place at (codes "bad pattern")
type_reason type.Memory = codes "out of memory"

abbrev pub query_reason : QueryFault → List ℕ
query_reason query.TooLong = codes "query: too long"
query_reason query.NotUtf8 = codes "query: not UTF-8"
query_reason (query.Lex fault) = lex_reason fault
query_reason (query.Parse fault) = parse_reason fault
query_reason (query.StdinMisplaced at) = at_place at (codes "STDIN misplaced")
query_reason (query.Plan fault) = type_reason fault

-- a kind of fault at a place of the template
abbrev pub in_template : ℕ → List ℕ → List ℕ
in_template at kind = codes "input: template at " ++ counted (Some at) ++ kind

abbrev pub template_reason : TemplateFault → List ℕ
template_reason (template.Unclosed at) = in_template at (codes "unclosed")
template_reason (template.Misplaced at) = in_template at (codes "misplaced")
template_reason (template.OutsideText at) = in_template at (codes "outside text")
template_reason (template.TooLarge at) = in_template at (codes "too large")
template_reason template.Memory = codes "out of memory"

-- which file is damaged
abbrev pub part_text : Part2 → List ℕ
part_text Ledger = codes "ledger at "
part_text Stage = codes "stage at "

-- what a refusal is called, but for its details
abbrev pub named : Status → List ℕ
named Done = []
named Memory = codes "out of memory"
named (Clock moment) = codes "clock"
named (Usage fault) = codes "usage: word " ++ counted (Some fault.word) ++ usage_text fault.kind
named (Query fault) = query_reason fault
named (NoSuchLog name) = codes "input: no such log " ++ name
named (BadName fault) = codes "input: bad name"
named (NameClash name) = codes "input: name clash " ++ name
named TooManyOutputs = codes "input: more than 10000 outputs"
named TooManyLogs = codes "input: more than 100000 logs"
named (Template fault) = template_reason fault
named InputTooLong = codes "input: standard input too long"
named LogsFault = codes "read fault: logs"
named SourceFault = codes "read fault: standard input"
named DiskFault = codes "disk fault"
named SinkFault = codes "write fault"
named (ParseErrors log row) = codes "parse errors: " ++ log
named (LostLog stem number) = codes "input: lost log " ++ stem
named (Shrunk name kept found) = codes "input: " ++ name
named (InputChanged kept given) = codes "input: the ledger has "
named IntoNeeded = codes "query: INTO needed"
named (LedgerFault part at) = codes "ledger: " ++ part_text part

-- the numbers and the inputs that a refusal names behind
abbrev pub details : Status → List ℕ
details (ParseErrors log row) = codes " row " ++ decimal row
details (LostLog stem number) = codes "." ++ decimal number
details (Shrunk name kept found) = codes " is " ++ decimal found ++ codes " bytes, " ++ decimal kept ++ codes " were read"
details (InputChanged kept given) = kept ++ codes ", given " ++ given
details (LedgerFault part at) = decimal at
details other = []

-- what a refusal is called
abbrev pub reason : Status → List ℕ
reason status = named status ++ details status

-- the line that tells of a refusal
abbrev pub message : Status → List ℕ
message status = codes "logparser: " ++ reason status ++ 10 ∷ []
