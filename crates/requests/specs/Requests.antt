-- What words ask for, and why they ask for nothing that can be done.
use Rattle.std.specs.Prelude.{◌≡◌, ℕ, List, Option, Some, None, ⊤}
use Rattle.grammar.specs.Trees as model
use Rattle.lp_model.specs.Outside.{Folder, Told}
use Rattle.lp_outside.specs.NameFault.{name_fault}
use Rattle.command_words.specs.declared.spec.Spec.{Spec}
use Rattle.command_words.specs.Table.{IsAsked}
use Rattle.command_words.specs.Usage.{AreFine}
use Rattle.command_words.specs.Usage.{IsUsageFault as AreRefused}
use Rattle.command_words.specs.Words.{query_in}
use Rattle.query_text.specs.Texts.{IsQuery, IsOnlyQuery, IsQueryFault}
use Rattle.requests.specs.Texts.{file_in, HoldsText}
use Rattle.requests.specs.declared.fault.RequestFault.{RequestFault}
use Rattle.requests.specs.declared.fault.RequestFault.TheVariants as F

-- the words ask for these options and this query, and no other
pub record Asks (before now : Option Folder) (words : List (List ℕ)) (spec : Spec) (q : model.Query) : Type 0 where
  pub fine : AreFine words
  pub options : IsAsked words spec
  pub text : List ℕ
  pub holds : HoldsText before now (query_in words) text
  pub query : IsQuery text q
  pub only : IsOnlyQuery text q

-- why the options of words aren't read
abbrev pub IsWordsFault : List (List ℕ) → RequestFault → Type 0
IsWordsFault words (F.Usage fault) = AreRefused words fault
IsWordsFault words (F.BadName fault) = ⊥
IsWordsFault words (F.NoSuchLog name) = ⊥
IsWordsFault words (F.Query fault) = ⊥
IsWordsFault words F.Logs = ⊥
IsWordsFault words F.Memory = ⊤

-- the words name this query file
pub record NamesFile (words : List (List ℕ)) (name : List ℕ) : Type 0 where
  pub fine : AreFine words
  pub file : file_in (query_in words) ≡ Some name

-- the words hold a text with a fault
pub record HoldsFault (before now : Option Folder) (words : List (List ℕ)) (IsFault : List ℕ → Type 0) : Type 0 where
  pub fine : AreFine words
  pub text : List ℕ
  pub holds : HoldsText before now (query_in words) text
  pub fault : IsFault text

-- why the words are refused
abbrev pub IsRequestFault : Option Folder → Option Folder → List (List ℕ) → RequestFault → Type 0
IsRequestFault before now words (F.Usage fault) = AreRefused words fault
IsRequestFault before now words (F.BadName fault) = (name : List ℕ) × NamesFile words name × (name_fault name ≡ Some fault)
IsRequestFault before now words (F.NoSuchLog name) = NamesFile words name × (name_fault name ≡ None) × Told now (λ folder. folder name ≡ None)
IsRequestFault before now words (F.Query fault) = HoldsFault before now words (λ text. IsQueryFault text fault)
IsRequestFault before now words F.Logs = ⊤
IsRequestFault before now words F.Memory = ⊤
