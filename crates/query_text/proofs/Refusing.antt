-- What a refusal of a step says of the bytes.
use Rattle.std.proofs.Common.{◌≡◌, ◌≢◌, ℕ, List, length, map, Some, None, Result, Ok, Err, IfOk, refl, subst, sym, ◌∙◌, ap}
use Rattle.grammar.specs.Rules.{query}
use Rattle.grammar.specs.Trees as model
use Rattle.grammar.specs.Whole.{Derives}
use Rattle.query_lexer.specs.declared.token.Token.{Token}
use Rattle.query_lexer.specs.declared.fault.LexFault.{LexFault}
use Rattle.query_lexer.specs.declared.fault.LexFault.TheVariants as lex
use Rattle.query_lexer.specs.Reading.{IsFault as IsLexFault}
use Rattle.query_lexer.specs.Reading.{HasNone as HasNoTokens}
use Rattle.query_tree.specs.Tokens.{seen}
use Rattle.query_tree.specs.Views.{query_of}
use Rattle.query_tree.specs.declared.query.Query.{Query}
use Rattle.query_parser.specs.declared.fault.ParseFault.{ParseFault}
use Rattle.query_parser.specs.declared.fault.ParseFault.TheVariants as parse
use Rattle.query_parser.specs.Parsed.{IsThis, IsFault as IsParseFault}
use Rattle.query_text.specs.Stdin.{misplaced}
use Rattle.query_text.specs.Texts.{IsReadable, AreTokens, Parses, IsQuery, IsOnlyQuery, IsReadFault, HasNone}
use Rattle.query_text.specs.Refusals.{of_lex, of_parse, IsLexRefusal, IsParseRefusal, IsPlaceRefusal, IsParsed, AreOnlyTokens}
use Rattle.query_text.specs.declared.fault.ReadFault.{ReadFault}

lex_fault : (text : List ℕ) (e : LexFault) → IsReadable text → IsLexFault text e → IsReadFault text (of_lex e)
lex_fault text (lex.BadCharacter at) r h = (r, (λ e. cc), h)
lex_fault text (lex.OpenString at) r h = (r, (λ e. cc), h)
lex_fault text (lex.OpenBracket at) r h = (r, (λ e. cc), h)
lex_fault text (lex.NumberTooLarge at) r h = (r, (λ e. cc), h)
lex_fault text lex.Memory r h = tt

lex_none : (text : List ℕ) (e : LexFault) → HasNoTokens text e → HasNone text (of_lex e)
lex_none text (lex.BadCharacter at) h = λ q is. (h (λ e. cc)).0 is.parses.tokens is.parses.are.lexed
lex_none text (lex.OpenString at) h = λ q is. (h (λ e. cc)).0 is.parses.tokens is.parses.are.lexed
lex_none text (lex.OpenBracket at) h = λ q is. (h (λ e. cc)).0 is.parses.tokens is.parses.are.lexed
lex_none text (lex.NumberTooLarge at) h = λ q is. (h (λ e. cc)).0 is.parses.tokens is.parses.are.lexed
lex_none text lex.Memory h = tt

pub lex_refused : (text : List ℕ) (given : ReadFault) → IsReadable text → IsLexRefusal text given → IsReadFault text given
lex_refused text given r h = subst (IsReadFault text) (sym h.given_is) (lex_fault text h.inner r h.fault)

pub lex_refused_none : (text : List ℕ) (given : ReadFault) → IsLexRefusal text given → HasNone text given
lex_refused_none text given h = subst (HasNone text) (sym h.given_is) (lex_none text h.inner h.none)

-- a query of the text is one of its only tokens
derived : (text : List ℕ) (tokens : List Token) (q : model.Query) → AreOnlyTokens text tokens → Parses text q → Derives 64 query (map seen tokens) q
derived text tokens q t p = subst (λ ts. Derives 64 query (map seen ts) q) (t.only p.tokens p.are.lexed) p.derives

parse_fault : (text : List ℕ) (tokens : List Token) (e : ParseFault) → AreTokens text tokens → IsParseFault (map seen tokens) (length text) (Err e) → IsReadFault text (of_parse e)
parse_fault text tokens (parse.Syntax at) t h = (tokens, t, (λ e. cc), h)
parse_fault text tokens (parse.TooDeep at) t h = (tokens, t, (λ e. cc), h)
parse_fault text tokens parse.Memory t h = tt

parse_none : (text : List ℕ) (tokens : List Token) (e : ParseFault) → AreOnlyTokens text tokens → (e ≢ parse.Memory → (q : model.Query) → Derives 64 query (map seen tokens) q → ⊥) → HasNone text (of_parse e)
parse_none text tokens (parse.Syntax at) t h = λ q is. h (λ e. cc) q (derived text tokens q t is.parses)
parse_none text tokens (parse.TooDeep at) t h = λ q is. h (λ e. cc) q (derived text tokens q t is.parses)
parse_none text tokens parse.Memory t h = tt

pub parse_refused : (text : List ℕ) (tokens : List Token) (size : ℕ) (given : ReadFault) → AreOnlyTokens text tokens → size ≡ length text → IsParseRefusal tokens size given → IsReadFault text given
parse_refused text tokens size given t same h =
    subst (IsReadFault text) (sym h.given_is) (parse_fault text tokens h.inner t.are (subst (λ n. IsParseFault (map seen tokens) n (Err h.inner)) same h.fault))

pub parse_refused_none : (text : List ℕ) (tokens : List Token) (size : ℕ) (given : ReadFault) → AreOnlyTokens text tokens → IsParseRefusal tokens size given → HasNone text given
parse_refused_none text tokens size given t h = subst (HasNone text) (sym h.given_is) (parse_none text tokens h.inner t h.none)

pub parsed_so : (text : List ℕ) (tokens : List Token) (q : model.Query) → AreOnlyTokens text tokens → IsParsed tokens q → Parses text q
parsed_so text tokens q t p = record { tokens = tokens; are = t.are; derives = p.derives }

pub parsed_only : (text : List ℕ) (tokens : List Token) (q : model.Query) → AreOnlyTokens text tokens → IsParsed tokens q → IsOnlyQuery text q
parsed_only text tokens q t p = λ other o. p.only other (derived text tokens other t o)

pub place_refused : (text : List ℕ) (q : model.Query) (given : ReadFault) → Parses text q → IsPlaceRefusal q given → IsReadFault text given
place_refused text q given p h = subst (IsReadFault text) (sym h.given_is) (q, p, h.place)

pub place_refused_none : (text : List ℕ) (q : model.Query) (given : ReadFault) → IsOnlyQuery text q → IsPlaceRefusal q given → HasNone text given
place_refused_none text q given only h =
    subst (HasNone text) (sym h.given_is)
    (λ other is. let same : other ≡ q = only other is.parses in let e : None ≡ Some h.at = sym is.placed ∙ (ap misplaced same ∙ h.place) in cc)

-- a fault other than want of memory leaves no query
pub parse_refuses : (e : ParseFault) (q : model.Query) → e ≢ parse.Memory → IsThis (Err e) q → ⊥
parse_refuses (parse.Syntax at) q ne h = h
parse_refuses (parse.TooDeep at) q ne h = h
parse_refuses parse.Memory q ne h = ne refl

pub query_so : (text : List ℕ) (q : Query) (r : Result Query ReadFault) → Parses text (query_of q) → IfOk r (λ x. x ≡ q) → IfOk r (λ x. misplaced (query_of x) ≡ None) → IfOk r (λ x. IsQuery text (query_of x))
query_so text q (Ok x) p same placed = record { parses = subst (λ (y : Query). Parses text (query_of y)) (sym same) p; placed = placed }
query_so text q (Err e) p same placed = tt

pub only_so : (text : List ℕ) (q : Query) (r : Result Query ReadFault) → IsOnlyQuery text (query_of q) → IfOk r (λ x. x ≡ q) → IfOk r (λ x. IsOnlyQuery text (query_of x))
only_so text q (Ok x) p same = subst (λ (y : Query). IsOnlyQuery text (query_of y)) (sym same) p
only_so text q (Err e) p same = tt
