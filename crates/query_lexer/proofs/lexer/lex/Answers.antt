use Rattle.std.proofs.Common.{◌+◌, ◌-◌, ◌≤◌, ◌<◌, length, drop, refl, ◌∙◌, arith, rules}
use Rattle.std.proofs.lemmas.Str.{IsCharBoundary-start, IsCharBoundary-after_ascii}
use Rattle.query_lexer.specs.Reading.{names_come}
use Rattle.query_lexer.specs.declared.piece.Piece.TheVariants as p
use Rattle.query_lexer.specs.declared.piece.Mode.TheVariants as m
use Rattle.query_lexer.proofs.Boundaries.{blank_is_ascii}
use Rattle.query_lexer.proofs.Reading.{reads_blank, reads_token}
use Rattle.query_lexer.proofs.Ending.{blank_stands, stands_along, token_ends, only_these, none_else}
use Rattle.query_lexer.proofs.lexer.lex.Goals as goal

pub loop-at-init : goal.loop-at-init
loop-at-init c = record {
  reads = rw c.new-tokens.ensures.items (refl, (omega arith, omega arith, λ n low high. absurd (omega arith)));
  length = c.new-tokens.ensures.text;
  cut = IsCharBoundary-start c.args.text.now c.utf8.text;
}

pub loop-at-preserved-in-Blank : goal.loop-at-preserved-in-Blank
loop-at-preserved-in-Blank c =
    let stands = stands_along _ (names_come c.loop-at.mode) _ (drop c.loop-at.at c.args.text.now) _ p.Blank c.names_come.ensures c.range_from.ensures.value c.in-Blank.is c.in_ok-piece_at.ensures in
    let blank = blank_stands (names_come c.loop-at.mode) c.args.text.now c.loop-at.at c.loop-at-test.true stands in
    record {
      reads = reads_blank c.args.text.now m.Ordinary 0 c.loop-at.tokens.items c.loop-at.mode c.loop-at.at c.loop-at.invariant.reads c.loop-at-test.true blank;
      length = c.loop-at.invariant.length;
      cut = IsCharBoundary-after_ascii c.args.text.now c.loop-at.at c.utf8.text c.loop-at-test.true (blank_is_ascii _ blank);
    }

pub overflow_add-at-in-Token : goal.overflow_add-at-in-Token
overflow_add-at-in-Token c =
    let stands = stands_along _ (names_come c.loop-at.mode) _ (drop c.loop-at.at c.args.text.now) _ (p.Token c.in-Token.kind c.in-Token.size) c.names_come.ensures c.range_from.ensures.value c.in-Token.is c.in_ok-piece_at.ensures in
    let ends = token_ends (names_come c.loop-at.mode) c.args.text.now c.loop-at.at c.in-Token.kind c.in-Token.size c.utf8.text c.loop-at.invariant.cut stands in
    let within : c.loop-at.at + c.in-Token.size ≤ length c.args.text.now = ends.1.0 in
    let short : length c.args.text.now ≤ 65536 = c.requires in
    search (rules, within, short)

pub loop-at-smaller : goal.loop-at-smaller
loop-at-smaller c =
    let stands = stands_along _ (names_come c.loop-at.mode) _ (drop c.loop-at.at c.args.text.now) _ (p.Token c.in-Token.kind c.in-Token.size) c.names_come.ensures c.range_from.ensures.value c.in-Token.is c.in_ok-piece_at.ensures in
    let ends = token_ends (names_come c.loop-at.mode) c.args.text.now c.loop-at.at c.in-Token.kind c.in-Token.size c.utf8.text c.loop-at.invariant.cut stands in
    let some : 0 < c.in-Token.size = ends.0 in
    let lt : c.loop-at.at < length c.args.text.now = c.loop-at-test.true in
    let smaller : length c.args.text.now - (c.loop-at.at + c.in-Token.size) < length c.args.text.now - c.loop-at.at = omega arith in
    smaller

pub loop-at-preserved : goal.loop-at-preserved
loop-at-preserved c =
    let stands = stands_along _ (names_come c.loop-at.mode) _ (drop c.loop-at.at c.args.text.now) _ (p.Token c.in-Token.kind c.in-Token.size) c.names_come.ensures c.range_from.ensures.value c.in-Token.is c.in_ok-piece_at.ensures in
    let ends = token_ends (names_come c.loop-at.mode) c.args.text.now c.loop-at.at c.in-Token.kind c.in-Token.size c.utf8.text c.loop-at.invariant.cut stands in
    let reads = reads_token c.args.text.now m.Ordinary 0 c.loop-at.tokens.items c.loop-at.mode c.loop-at.at c.in-Token.size c.in-Token.kind c.loop-at.invariant.reads stands ends.1.0 in
    record {
      reads = rw (c.in_ok-push-in-Token.ensures.ok, c.after-mode.ensures) reads;
      length = c.in_ok-push-in-Token.ensures.text ∙ c.loop-at.invariant.length;
      cut = ends.1;
    }

pub returns-in-Bad-clause-none : goal.returns-in-Bad-clause-none
returns-in-Bad-clause-none c =
    let stands = stands_along _ (names_come c.loop-at.mode) _ (drop c.loop-at.at c.args.text.now) _ (p.Bad c.in-Bad.problem) c.names_come.ensures c.range_from.ensures.value c.in-Bad.is c.in_ok-piece_at.ensures in
    none_else c.args.text.now c.loop-at.tokens.items c.loop-at.mode c.loop-at.at c.in-Bad.problem c.at.result c.loop-at.invariant.reads stands c.at.ensures

pub returns-clause-only : goal.returns-clause-only
returns-clause-only c = only_these c.args.text.now c.loop-at.tokens.items c.loop-at.mode c.loop-at.at c.loop-at.invariant.reads (let end = c.loop-at-test.false in let within = c.loop-at.invariant.cut.0 in omega arith)
