use Rattle.std.proofs.Common.{ℕ, List, ap, sym, subst, ◌∙◌}
use Rattle.std.specs.List.{prefix_len}
use Rattle.std.specs.Str.{IsCharBoundary}
use Rattle.query_lexer.specs.Bytes.{is_name_byte}
use Rattle.query_lexer.proofs.Boundaries.{name_boundary}
use Rattle.query_lexer.proofs.words.name.Goals as goal

pub range-requires-clause-end_boundary : goal.range-requires-clause-end_boundary
range-requires-clause-end_boundary c =
    let e = c.name_length-length.ensures ∙ ap (λ (x : List ℕ). prefix_len is_name_byte x) c.as_bytes.ensures.value in
    subst (λ (m : ℕ). IsCharBoundary c.args.rest.now m) (sym e) (name_boundary _ c.utf8.rest)
