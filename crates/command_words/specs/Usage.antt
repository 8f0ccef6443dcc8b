-- Which words are refused, and why.
use Rattle.std.specs.Prelude.{ℕ, ◌≡◌, ◌⊎◌, ◌<◌, Bool, true, false, ◌&&◌, List, length, take, slice_get, if◌then◌else◌, Option, Some, None, option_map, option_and_then, Result, Ok, Err, position, codes}
use Rattle.std.specs.Bool.{⊤}
use Rattle.std.specs.List.{list_any}
use Rattle.std.specs.Option.{option_or}
use Rattle.command_words.specs.declared.setting.Setting.{Setting}
use Rattle.command_words.specs.declared.setting.Setting.TheVariants as S
use Rattle.command_words.specs.declared.formats.OutputFormat.{OutputFormat}
use Rattle.command_words.specs.declared.formats.OutputFormat.TheVariants as O
use Rattle.command_words.specs.declared.usage.UsageKind.{UsageKind}
use Rattle.command_words.specs.declared.usage.UsageKind.TheVariants as U
use Rattle.command_words.specs.declared.usage.UsageFault.{UsageFault}
use Rattle.command_words.specs.declared.spec.Spec.{Spec}
use Rattle.command_words.specs.declared.spec.SpecFault.{SpecFault}
use Rattle.command_words.specs.declared.spec.SpecFault.TheVariants as T
use Rattle.command_words.specs.Formats.{output_in}
use Rattle.command_words.specs.Settings.{accepts}
use Rattle.command_words.specs.Words.{is_option, is_query, gives, setting_of, value_in}

-- the fault of a word behind others that gives this option
abbrev pub setting_fault : List (List ℕ) → List ℕ → Option Setting → Option UsageKind
setting_fault before word None = Some U.UnknownOption
setting_fault before word (Some setting) =
    if list_any (gives setting) before then Some U.Repeated
    else if accepts setting (value_in word) then None
    else Some U.BadValue

-- the fault of a word behind others
abbrev pub word_fault : List (List ℕ) → List ℕ → Option UsageKind
word_fault before word =
    if is_option word then setting_fault before word (setting_of word)
    else if list_any is_query before then Some U.SecondQuery
    else None

-- the fault of the word at a place
abbrev pub fault_at : List (List ℕ) → ℕ → Option UsageKind
fault_at words at = option_and_then (word_fault (take at words)) (slice_get words at)

-- no word has a fault
abbrev pub EachFits : List (List ℕ) → Type 0
EachFits words = (at : ℕ) → fault_at words at ≡ None

-- a fault of a word, and none before it
pub record IsFirstFault (words : List (List ℕ)) (fault : UsageFault) : Type 0 where
  pub here : fault_at words fault.word ≡ Some fault.kind
  pub none_before : (at : ℕ) → at < fault.word → fault_at words at ≡ None

abbrev pub is_template : Option OutputFormat → Bool
is_template None = false
is_template (Some O.Nat) = false
is_template (Some O.Csv) = false
is_template (Some O.Tsv) = false
is_template (Some O.W3c) = false
is_template (Some O.Tpl) = true

-- whether a word asks for output by a template
abbrev pub asks_template : List ℕ → Bool
asks_template word = gives S.Output word && is_template (output_in (value_in word))

abbrev pub fault_of : UsageKind → ℕ → UsageFault
fault_of kind at = record { word = at; kind = kind }

-- the fault of the first word that asks for an option, where no word gives that one
abbrev pub lacking : (List ℕ → Bool) → Setting → UsageKind → List (List ℕ) → Option UsageFault
lacking asks setting kind words = if list_any (gives setting) words then None else option_map (fault_of kind) (position asks words)

-- what words lack as a whole: a query; a checkpoint beside `-iRotation`; a template beside `-o:TPL`
abbrev pub lack_of : List (List ℕ) → Option UsageFault
lack_of words =
    if list_any is_query words
    then option_or (lacking (gives S.Rotation) S.Checkpoint U.NeedsCheckpoint words) (lacking asks_template S.Template U.NeedsTemplate words)
    else Some (fault_of U.NoQuery (length words))

-- words that are answered
pub record AreFine (words : List (List ℕ)) : Type 0 where
  pub each : EachFits words
  pub whole : lack_of words ≡ None

-- words that are refused by this fault: that of the first word that has one, and else what they lack as a whole
abbrev pub IsUsageFault : List (List ℕ) → UsageFault → Type 0
IsUsageFault words fault = IsFirstFault words fault ⊎ (EachFits words × (lack_of words ≡ Some fault))

-- what holds of the fault, where the words are refused
abbrev pub IfUsage : Result Spec SpecFault → (UsageFault → Type 0) → Type 0
IfUsage (Ok spec) P = ⊤
IfUsage (Err (T.Usage fault)) P = P fault
IfUsage (Err T.Memory) P = ⊤

-- the words that tell of it
abbrev pub usage_text : UsageKind → List ℕ
usage_text U.NoQuery = codes "no query"
usage_text U.SecondQuery = codes "second query"
usage_text U.UnknownOption = codes "unknown option"
usage_text U.Repeated = codes "repeated option"
usage_text U.BadValue = codes "bad value"
usage_text U.NeedsCheckpoint = codes "needs -iCheckpoint"
usage_text U.NeedsTemplate = codes "needs -tpl"
