-- The refusals of each step from bytes to a query.
use Rattle.std.specs.Prelude.{◌≡◌, ◌≢◌, ℕ, List, map, Some, Err}
use Rattle.grammar.specs.Rules.{query}
use Rattle.grammar.specs.Trees as model
use Rattle.grammar.specs.Whole.{Derives}
use Rattle.query_lexer.specs.declared.token.Token.{Token}
use Rattle.query_lexer.specs.declared.fault.LexFault.{LexFault}
use Rattle.query_lexer.specs.declared.fault.LexFault.TheVariants as lex
use Rattle.query_lexer.specs.Reading.{IsFault as IsLexFault}
use Rattle.query_lexer.specs.Reading.{IsOnly, HasNone as HasNoTokens}
use Rattle.query_tree.specs.Tokens.{seen}
use Rattle.query_parser.specs.declared.fault.ParseFault.{ParseFault}
use Rattle.query_parser.specs.declared.fault.ParseFault.TheVariants as parse
use Rattle.query_parser.specs.Parsed.{IsFault as IsParseFault}
use Rattle.query_text.specs.Stdin.{misplaced}
use Rattle.query_text.specs.Texts.{AreTokens}
use Rattle.query_text.specs.declared.fault.QueryFault.TheVariants as fault
use Rattle.query_text.specs.declared.fault.ReadFault.{ReadFault}
use Rattle.query_text.specs.declared.fault.ReadFault.TheVariants as read

abbrev pub of_lex : LexFault → ReadFault
of_lex (lex.BadCharacter at) = read.Query (fault.Lex (lex.BadCharacter at))
of_lex (lex.OpenString at) = read.Query (fault.Lex (lex.OpenString at))
of_lex (lex.OpenBracket at) = read.Query (fault.Lex (lex.OpenBracket at))
of_lex (lex.NumberTooLarge at) = read.Query (fault.Lex (lex.NumberTooLarge at))
of_lex lex.Memory = read.Memory

abbrev pub of_parse : ParseFault → ReadFault
of_parse (parse.Syntax at) = read.Query (fault.Parse (parse.Syntax at))
of_parse (parse.TooDeep at) = read.Query (fault.Parse (parse.TooDeep at))
of_parse parse.Memory = read.Memory

-- the lexer refuses the text so
pub record IsLexRefusal (text : List ℕ) (given : ReadFault) : Type 0 where
  pub inner : LexFault
  pub given_is : given ≡ of_lex inner
  pub fault : IsLexFault text inner
  pub none : HasNoTokens text inner

-- the parser refuses the tokens of a text of this length so
pub record IsParseRefusal (tokens : List Token) (size : ℕ) (given : ReadFault) : Type 0 where
  pub inner : ParseFault
  pub given_is : given ≡ of_parse inner
  pub fault : IsParseFault (map seen tokens) size (Err inner)
  pub none : inner ≢ parse.Memory → (q : model.Query) → Derives 64 query (map seen tokens) q → ⊥

-- STDIN is refused at its place
pub record IsPlaceRefusal (q : model.Query) (given : ReadFault) : Type 0 where
  pub at : ℕ
  pub given_is : given ≡ read.Query (fault.StdinMisplaced at)
  pub place : misplaced q ≡ Some at

-- the tokens derive from the grammar as this query, and as no other
pub record IsParsed (tokens : List Token) (q : model.Query) : Type 0 where
  pub derives : Derives 64 query (map seen tokens) q
  pub only : (other : model.Query) → Derives 64 query (map seen tokens) other → other ≡ q

-- the bytes are these tokens, and no others
pub record AreOnlyTokens (text : List ℕ) (tokens : List Token) : Type 0 where
  pub are : AreTokens text tokens
  pub only : IsOnly text tokens
