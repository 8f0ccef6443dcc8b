-- Which bytes are which query, and which fault they have.
use Rattle.std.specs.Prelude.{◌≡◌, ◌≢◌, ℕ, ◌≤◌, ◌<◌, List, length, map, Some, None, Err, ⊤}
use Rattle.std.specs.Str.{IsUtf8}
use Rattle.grammar.specs.Rules.{query}
use Rattle.grammar.specs.Trees as model
use Rattle.grammar.specs.Whole.{Derives}
use Rattle.query_lexer.specs.declared.token.Token.{Token}
use Rattle.query_lexer.specs.declared.fault.LexFault.TheVariants as lex
use Rattle.query_lexer.specs.Reading.{IsLexed}
use Rattle.query_lexer.specs.Reading.{IsFault as IsLexFault}
use Rattle.query_tree.specs.Tokens.{seen}
use Rattle.query_parser.specs.declared.fault.ParseFault.TheVariants as parse
use Rattle.query_parser.specs.Parsed.{IsFault as IsParseFault}
use Rattle.query_text.specs.Stdin.{misplaced}
use Rattle.query_text.specs.declared.fault.QueryFault.{QueryFault}
use Rattle.query_text.specs.declared.fault.QueryFault.TheVariants as fault
use Rattle.query_text.specs.declared.fault.ReadFault.{ReadFault}
use Rattle.query_text.specs.declared.fault.ReadFault.TheVariants as read

-- bytes that are read as tokens: at most 65,536, in UTF-8
pub record IsReadable (text : List ℕ) : Type 0 where
  pub short : length text ≤ 65_536
  pub utf8 : IsUtf8 text

-- the bytes are these tokens
pub record AreTokens (text : List ℕ) (tokens : List Token) : Type 0 where
  pub readable : IsReadable text
  pub lexed : IsLexed text tokens

-- the bytes derive from the grammar as this query
pub record Parses (text : List ℕ) (q : model.Query) : Type 0 where
  pub tokens : List Token
  pub are : AreTokens text tokens
  pub derives : Derives 64 query (map seen tokens) q

-- the bytes are this query, and STDIN stands where it can
pub record IsQuery (text : List ℕ) (q : model.Query) : Type 0 where
  pub parses : Parses text q
  pub placed : misplaced q ≡ None

-- the bytes are no other query
abbrev pub IsOnlyQuery : List ℕ → model.Query → Type 0
IsOnlyQuery text q = (other : model.Query) → Parses text other → other ≡ q

-- the fault of bytes; none of the inner faults is want of memory
abbrev pub IsQueryFault : List ℕ → QueryFault → Type 0
IsQueryFault text fault.TooLong = 65_536 < length text
IsQueryFault text fault.NotUtf8 = (length text ≤ 65_536) × ¬ (IsUtf8 text)
IsQueryFault text (fault.Lex f) = IsReadable text × (f ≢ lex.Memory) × IsLexFault text f
IsQueryFault text (fault.Parse f) = (tokens : List Token) × AreTokens text tokens × (f ≢ parse.Memory) × IsParseFault (map seen tokens) (length text) (Err f)
IsQueryFault text (fault.StdinMisplaced at) = (q : model.Query) × Parses text q × (misplaced q ≡ Some at)
IsQueryFault text (fault.Plan f) = ⊥

-- why there is no query; any bytes may lack memory
abbrev pub IsReadFault : List ℕ → ReadFault → Type 0
IsReadFault text (read.Query fault) = IsQueryFault text fault
IsReadFault text read.Memory = ⊤

-- where there was memory, the bytes are no query
abbrev pub HasNone : List ℕ → ReadFault → Type 0
HasNone text (read.Query fault) = (q : model.Query) → ¬ (IsQuery text q)
HasNone text read.Memory = ⊤
