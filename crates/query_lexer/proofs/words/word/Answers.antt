use Rattle.std.proofs.Common.{ℕ, List, ap, sym, subst, ◌∙◌}
use Rattle.std.specs.List.{prefix_len}
use Rattle.std.specs.Str.{IsCharBoundary}
use Rattle.query_lexer.specs.Bytes.{is_word_byte}
use Rattle.query_lexer.specs.Standing.{field_length}
use Rattle.query_lexer.proofs.Boundaries.{word_boundary}
use Rattle.query_lexer.proofs.Fields.{field_boundary}
use Rattle.query_lexer.proofs.words.word.Goals as goal

pub range-requires-clause-end_boundary : goal.range-requires-clause-end_boundary
range-requires-clause-end_boundary c =
    field_boundary c.args.rest.now _ c.utf8.rest (ap (λ (x : List ℕ). field_length x) (sym c.as_bytes.ensures.value) ∙ sym c.field_length.ensures ∙ c.in-Some.is)

pub range-requires-2-clause-end_boundary : goal.range-requires-2-clause-end_boundary
range-requires-2-clause-end_boundary c =
    let e = c.word_length-length.ensures ∙ ap (λ (x : List ℕ). prefix_len is_word_byte x) c.as_bytes-2.ensures.value in
    subst (λ (m : ℕ). IsCharBoundary c.args.rest.now m) (sym e) (word_boundary _ c.utf8.rest)
