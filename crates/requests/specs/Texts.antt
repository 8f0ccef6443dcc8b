-- Where the query stands.
use Rattle.std.specs.Prelude.{◌≡◌, ◌≤◌, ℕ, List, length, take, drop, codes, Option, Some, None, IsSome, if◌then◌else◌}
use Rattle.grammar.specs.Trees as model
use Rattle.lp_model.specs.Outside.{Folder, Told, bytes_in}
use Rattle.lp_outside.specs.NameFault.{name_fault}
use Rattle.command_words.specs.Texts.{begins_as}
use Rattle.query_text.specs.Texts.{IsQuery, IsOnlyQuery}

-- what stands behind `file:` in the query word, whatever the case of these letters
abbrev pub file_in : List ℕ → Option (List ℕ)
file_in word = if begins_as word (codes "file:") then Some (drop 5 word) else None

-- the bytes of a file that is there up to a cut: its length at some moment of the call
pub record IsCut (before : Option Folder) (folder : Folder) (name bytes : List ℕ) : Type 0 where
  pub there : IsSome (folder name)
  pub cut : ℕ
  pub at_least : Told before (λ old. length (bytes_in old name) ≤ cut)
  pub at_most : cut ≤ length (bytes_in folder name)
  pub bytes_are : bytes ≡ take cut (bytes_in folder name)

-- the text of a query: the word itself, or the bytes of the file that it names
abbrev pub IsTextOf : Option Folder → Option Folder → List ℕ → List ℕ → Option (List ℕ) → Type 0
IsTextOf before now word text None = text ≡ word
IsTextOf before now word text (Some name) = (name_fault name ≡ None) × Told now (λ folder. IsCut before folder name text)

abbrev pub HoldsText : Option Folder → Option Folder → List ℕ → List ℕ → Type 0
HoldsText before now word text = IsTextOf before now word text (file_in word)

-- this is the text of a query word, and it is this query, and no other
pub record HoldsQuery (before now : Option Folder) (word text : List ℕ) (q : model.Query) : Type 0 where
  pub holds : HoldsText before now word text
  pub query : IsQuery text q
  pub only : IsOnlyQuery text q
