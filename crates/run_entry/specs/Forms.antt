-- When the entry of a run may be written.
use Rattle.std.specs.Prelude.{◌≡◌, ◌≢◌, ℕ, ◌+◌, ◌<◌, ◌≤◌, ◌^◌, List, [], ◌∷◌, length, All, None}
use Rattle.std.specs.Bool.{⊤}
use Rattle.std.specs.List.{AllByRecursion}
use Rattle.std.specs.Str.{IsUtf8}
use Rattle.ledger.specs.Written.{kept_of}
use Rattle.ledger_model.specs.Grammar.{IsKept}
use Rattle.ledger_model.specs.Standings.{standing_layout}
use Rattle.lp_outside.specs.NameFault.{name_fault}
use Rattle.lp_values.specs.declared.value.Value.{Value}
use Rattle.log_reading.specs.declared.span.Took.{Took}
use Rattle.query_run.specs.declared.executing.Counts.{Counts}
use Rattle.text_output.specs.declared.target.Output.{Output as Written}
use Rattle.run_entry.specs.Entries.{Request, kept_span}

-- a name of a file, in UTF-8
pub record IsFileName (name : List ℕ) : Type 0 where
  pub utf8 : IsUtf8 name
  pub good : name_fault name ≡ None

-- what was taken of a log: forwards, to a standing in its form
pub record IsTook (took : Took) : Type 0 where
  pub identity : IsFileName took.identity
  pub forward : took.from ≤ took.to
  pub place : took.to < 2 ^ 64
  pub fits : (standing_layout took.to).Fits took.standing
  pub short : length (kept_span took).standing < 2 ^ 32

-- an output under a name, within 2^63
pub record IsOutput (output : Written) : Type 0 where
  pub name : IsFileName output.name
  pub within : output.base + output.mark.length < 2 ^ 63
  pub last : output.mark.last < 2 ^ 64

-- no output of these has this name
abbrev pub IsNewName : List ℕ → List Written → Type 0
IsNewName name outputs = AllByRecursion (λ (output : Written). output.name ≢ name) outputs

-- outputs with names of their own
abbrev pub AreOutputs : List Written → Type 0
AreOutputs [] = ⊤
AreOutputs (output ∷ outputs) = IsOutput output × IsNewName output.name outputs × AreOutputs outputs

-- a value that an entry may keep
abbrev pub IsKeptValue : Value → Type 0
IsKeptValue value = IsKept (kept_of value)

-- and a list of them
pub record IsKeptList (list : List Value) : Type 0 where
  pub few : length list < 2 ^ 64
  pub values : All IsKeptValue list

-- the lists of all subqueries
pub record AreKeptLists (lists : List (List Value)) : Type 0 where
  pub few : length lists < 2 ^ 32
  pub each : All IsKeptList lists

-- what was asked has its form
pub record IsRequest (request : Request) : Type 0 where
  pub words : AllByRecursion IsUtf8 request.spec.words
  pub few_words : length request.spec.words < 2 ^ 32
  pub short_words : AllByRecursion (λ (word : List ℕ). length word < 2 ^ 32) request.spec.words
  pub text : IsUtf8 request.text
  pub short_text : length request.text ≤ 65_536
  pub short_template : length request.template ≤ 1_048_576

-- numbers of 64 bits
pub record AreCounts (counts : Counts) : Type 0 where
  pub processed : counts.processed < 2 ^ 64
  pub output : counts.output < 2 ^ 64
  pub bad : counts.bad < 2 ^ 64

pub record HasForm (request : Request) (lists : List (List Value)) (took : List Took) (written : List Written) (bytes : ℕ) (numbers : Counts) : Type 0 where
  pub request_fits : IsRequest request
  pub spans : AllByRecursion IsTook took
  pub few_spans : length took ≤ 100_000
  pub kept : AreKeptLists lists
  pub outputs : AreOutputs written
  pub few_outputs : length written ≤ 10_000
  pub staged : bytes < 2 ^ 64
  pub counts : AreCounts numbers
