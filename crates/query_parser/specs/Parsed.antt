-- What is answered for a whole list of tokens.
use Rattle.std.specs.Prelude.{◌≡◌, ℕ, ◌+◌, ◌≤◌, ◌<◌, List, [], ◌∷◌, ◌++◌, length, drop, map, ◌-◌, Result, Ok, Err}
use Rattle.grammar.specs.Trees as model
use Rattle.grammar.specs.Rules.{query}
use Rattle.grammar.specs.Derivations.{Derivation, tokens, depth, depth_to}
use Rattle.grammar.specs.Whole.{NoneNext}
use Rattle.query_tree.specs.declared.query.Query.{Query}
use Rattle.query_tree.specs.Views.{query_of}
use Rattle.query_lexer.specs.declared.token.Token.{Token}
use Rattle.query_tree.specs.Tokens.{seen}
use Rattle.query_parser.specs.declared.fault.Stop.{Stop}
use Rattle.query_parser.specs.declared.fault.Stop.TheVariants as stop
use Rattle.query_parser.specs.declared.fault.ParseFault.{ParseFault}
use Rattle.query_parser.specs.declared.fault.ParseFault.TheVariants as fault

-- how many parentheses, CASEs and NOTs may be open at once
abbrev pub levels : ℕ
levels = 64

-- the place of the first token, or the text's length where there is none
abbrev pub place_in : List model.Token → ℕ → ℕ
place_in [] size = size
place_in (t ∷ ts) size = t.at

-- the place of the token from which on so many stand
abbrev pub place_before : List Token → ℕ → ℕ → ℕ
place_before items size count = place_in (drop (length items - count) (map seen items)) size

-- the fault at the token that stops a reader
abbrev pub fault_of : List Token → ℕ → Stop → ParseFault
fault_of items size (stop.Syntax count) = fault.Syntax (place_before items size count)
fault_of items size (stop.TooDeep count) = fault.TooDeep (place_before items size count)
fault_of items size stop.Memory = fault.Memory

-- this query, unless memory ran out
abbrev pub IsThis : Result Query ParseFault → model.Query → Type 0
IsThis (Ok q) v = query_of q ≡ v
IsThis (Err (fault.Syntax at)) v = ⊥
IsThis (Err (fault.TooDeep at)) v = ⊥
IsThis (Err fault.Memory) v = Unit {0}

-- some query begins with these tokens, and none of them opens a level too many
pub record Begun (front : List model.Token) : Type 0 where
  pub way : Derivation _ query
  pub more : List model.Token
  pub begins_so : tokens way ≡ front ++ more
  pub within : depth_to (length front) way ≤ levels

-- no query without a level too many begins with these tokens
abbrev pub NoneWithin : List model.Token → Type 0
NoneWithin front = (d : Derivation _ query) (more : List model.Token) → tokens d ≡ front ++ more → depth d ≤ levels → ⊥

-- some query begins with the tokens before this place, and none with those and the token at it; at the text's length there is no such token, and the tokens are no query
pub record SyntaxAt (all : List model.Token) (size at : ℕ) : Type 0 where
  pub front : List model.Token
  pub rest : List model.Token
  pub split : all ≡ front ++ rest
  pub begun : Begun front
  pub none_next : NoneNext query front rest
  pub place : at ≡ place_in rest size

-- some query begins with the tokens before this place and the token at it, which opens a level too many there, and none does without a level too many
pub record TooDeepAt (all : List model.Token) (at : ℕ) : Type 0 where
  pub front : List model.Token
  pub token : model.Token
  pub rest : List model.Token
  pub split : all ≡ front ++ token ∷ rest
  pub way : Derivation _ query
  pub more : List model.Token
  pub begins_so : tokens way ≡ front ++ token ∷ more
  pub within : depth_to (length front) way ≤ levels
  pub deeper : levels < depth_to (length front + 1) way
  pub none_within : NoneWithin (front ++ (token ∷ []))
  pub place : at ≡ token.at

-- the fault is at the first bad token's place
abbrev pub IsFault : List model.Token → ℕ → Result Query ParseFault → Type 0
IsFault all size (Ok q) = Unit {0}
IsFault all size (Err (fault.Syntax at)) = SyntaxAt all size at
IsFault all size (Err (fault.TooDeep at)) = TooDeepAt all at
IsFault all size (Err fault.Memory) = Unit {0}
