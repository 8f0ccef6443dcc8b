use Rattle.std.proofs.Common.{◌≡◌, ℕ, ◌+◌, ◌-◌, ◌<◌, ◌∷◌, ◌++◌, List, take, drop, length, Option, sym, ap, subst, ◌∙◌, arith, drop-drop, length-drop}
use Rattle.std.specs.String.{string_bytes}
use Rattle.std.proofs.lemmas.Str.{IsCharBoundary-after_ascii}
use Rattle.memchr.specs.Find.{IsFirstByte, is_byte}
use Rattle.query_lexer.specs.Standing.{doubled}
use Rattle.query_lexer.proofs.Boundaries.{behind_first}
use Rattle.query_lexer.proofs.Quoting.{first_quote, no_quote, string_begins, quote_is, quote_there, string_piece, string_doubled, string_ends, string_none}
use Rattle.query_lexer.proofs.words.string_text.Goals as goal

pub loop-length-init : goal.loop-length-init
loop-length-init c = record {
  split = rw c.new-text.ensures.bytes (string_begins _ c.requires);
  cut = behind_first _ 39 c.utf8.rest c.requires (omega arith) (omega arith);
}

pub returns-then-not-is_quote_at : goal.returns-then-not-is_quote_at
returns-then-not-is_quote_at c =
    let all : List ℕ = c.args.rest.now in
    let at : ℕ = c.loop-length.at in
    let n : ℕ = c.in-Some.length in
    let found = subst (λ (o : Option ℕ). IsFirstByte (is_byte 39) (drop at all) o) c.in-Some.is c.quote_behind.ensures in
    let quote = first_quote (drop at all) n found in
    let split = string_piece all (string_bytes c.loop-length.text) at n c.loop-length.invariant.split quote.0 quote.1 quote.2 in
    let width : at + n - at ≡ n = omega arith in
    let piece : c.range.result.now ≡ take n (drop at all) = c.range.ensures.value ∙ ap (λ (m : ℕ). take m (drop at all)) width in
    let grown : c.from_string.result ≡ string_bytes c.loop-length.text ++ take n (drop at all) = c.from_string.ensures ∙ c.in_ok-push_str.ensures.bytes ∙ ap (λ (x : List ℕ). string_bytes c.loop-length.text ++ x) piece in
    let rest : drop (n + 1) (drop at all) ≡ drop (at + (n + 1)) all = drop-drop (n + 1) at all in
    let left : length (drop (at + (n + 1)) all) ≡ length all - (at + (n + 1)) = length-drop (at + (n + 1)) all in
    let before : length (drop at all) ≡ length all - at = length-drop at all in
    let within : n < length (drop at all) = quote.0 in
    string_ends all c.from_string.result (drop (at + (n + 1)) all) (at + (n + 1))
    (split ∙ ap (λ (x : List ℕ). 39 ∷ doubled x ++ 39 ∷ drop (n + 1) (drop at all)) (sym grown) ∙ ap (λ (x : List ℕ). 39 ∷ doubled c.from_string.result ++ 39 ∷ x) rest)
    (sym c.if-not-is_quote_at.ensures) (omega arith)

pub loop-length-preserved : goal.loop-length-preserved
unfolding lib.Utf8.encode
loop-length-preserved c =
    let all : List ℕ = c.args.rest.now in
    let at : ℕ = c.loop-length.at in
    let n : ℕ = c.in-Some.length in
    let found = subst (λ (o : Option ℕ). IsFirstByte (is_byte 39) (drop at all) o) c.in-Some.is c.quote_behind.ensures in
    let quote = first_quote (drop at all) n found in
    let split = string_piece all (string_bytes c.loop-length.text) at n c.loop-length.invariant.split quote.0 quote.1 quote.2 in
    let width : at + n - at ≡ n = omega arith in
    let piece : c.range.result.now ≡ take n (drop at all) = c.range.ensures.value ∙ ap (λ (m : ℕ). take m (drop at all)) width in
    let grown : string_bytes c.push_str.new.self ≡ string_bytes c.loop-length.text ++ take n (drop at all) = c.in_ok-push_str.ensures.bytes ∙ ap (λ (x : List ℕ). string_bytes c.loop-length.text ++ x) piece in
    let second = quote_there all (at + (n + 1)) (sym c.if-not-is_quote_at.ensures) in
    let rest : drop (n + 1) (drop at all) ≡ 39 ∷ drop (at + (n + 1) + 1) all = drop-drop (n + 1) at all ∙ quote_is _ (sym c.if-not-is_quote_at.ensures) ∙ ap (λ (x : List ℕ). 39 ∷ x) (drop-drop 1 (at + (n + 1)) all) in
    let whole = string_doubled all (string_bytes c.push_str.new.self) (drop (at + (n + 1) + 1) all)
    (split ∙ ap (λ (x : List ℕ). 39 ∷ doubled x ++ 39 ∷ drop (n + 1) (drop at all)) (sym grown) ∙ ap (λ (x : List ℕ). 39 ∷ doubled (string_bytes c.push_str.new.self) ++ 39 ∷ x) rest) in
    record {
      split = whole ∙ ap (λ (x : List ℕ). 39 ∷ doubled x ++ drop (at + (n + 1) + 1) all) (sym c.in_ok-push.ensures.bytes);
      cut = IsCharBoundary-after_ascii all (at + (n + 1)) c.utf8.rest second.0 (omega (arith, second.1));
    }

pub returns : goal.returns
returns c = string_none c.args.rest.now (string_bytes c.loop-length.text) (drop c.loop-length.at c.args.rest.now) c.loop-length.invariant.split
    (no_quote (drop c.loop-length.at c.args.rest.now) (subst (λ (o : Option ℕ). IsFirstByte (is_byte 39) (drop c.loop-length.at c.args.rest.now) o) c.in_default.is c.quote_behind.ensures))
