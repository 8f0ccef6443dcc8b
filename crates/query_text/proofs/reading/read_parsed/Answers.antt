use Rattle.std.proofs.lemmas.Result.{err_from_is_err_and, IfOk-weaker, IfErr-weaker}
use Rattle.query_tree.specs.Views.{query_of}
use Rattle.query_text.specs.Texts.{Parses, IsOnlyQuery, IsReadFault, HasNone}
use Rattle.query_text.specs.Refusals.{IsParsed, IsParseRefusal}
use Rattle.query_text.proofs.Refusing.{lex_refused, lex_refused_none, parse_refused, parse_refused_none, parsed_so, parsed_only}
use Rattle.query_text.proofs.reading.read_parsed.Goals as goal

pub returns-in_err-tokens-clause-fault : goal.returns-in_err-tokens-clause-fault
returns-in_err-tokens-clause-fault c =
    let p = err_from_is_err_and c.from_residual.result c.from_residual.ensures.1 in
    rw (p.1, p.2) (lex_refused c.args.text.now _ c.requires c.in_err-tokens.ensures.fault)

pub returns-in_err-tokens-clause-none : goal.returns-in_err-tokens-clause-none
returns-in_err-tokens-clause-none c =
    let p = err_from_is_err_and c.from_residual.result c.from_residual.ensures.1 in
    rw (p.1, p.2) (lex_refused_none c.args.text.now _ c.in_err-tokens.ensures.fault)

pub returns-clause-query : goal.returns-clause-query
returns-clause-query c =
    IfOk-weaker c.read_tree.result (λ q. IsParsed c.in_ok-tokens.tokens.items (query_of q)) (λ q. Parses c.args.text.now (query_of q))
    (λ q parsed. parsed_so c.args.text.now c.in_ok-tokens.tokens.items (query_of q) c.in_ok-tokens.ensures.tokens parsed) c.read_tree.ensures.query

pub returns-clause-only : goal.returns-clause-only
returns-clause-only c =
    IfOk-weaker c.read_tree.result (λ q. IsParsed c.in_ok-tokens.tokens.items (query_of q)) (λ q. IsOnlyQuery c.args.text.now (query_of q))
    (λ q parsed. parsed_only c.args.text.now c.in_ok-tokens.tokens.items (query_of q) c.in_ok-tokens.ensures.tokens parsed) c.read_tree.ensures.query

pub returns-clause-fault : goal.returns-clause-fault
returns-clause-fault c =
    IfErr-weaker c.read_tree.result (IsParseRefusal c.in_ok-tokens.tokens.items c.in_ok-tokens.tokens.text_length) (IsReadFault c.args.text.now)
    (λ given refused. parse_refused c.args.text.now c.in_ok-tokens.tokens.items c.in_ok-tokens.tokens.text_length given c.in_ok-tokens.ensures.tokens c.in_ok-tokens.ensures.size refused) c.read_tree.ensures.fault

pub returns-clause-none : goal.returns-clause-none
returns-clause-none c =
    IfErr-weaker c.read_tree.result (IsParseRefusal c.in_ok-tokens.tokens.items c.in_ok-tokens.tokens.text_length) (HasNone c.args.text.now)
    (λ given refused. parse_refused_none c.args.text.now c.in_ok-tokens.tokens.items c.in_ok-tokens.tokens.text_length given c.in_ok-tokens.ensures.tokens refused) c.read_tree.ensures.fault
