use Rattle.std.proofs.Common.{sym, ap, subst, ◌∙◌}
use Rattle.std.specs.List.{prefix_len}
use Rattle.std.specs.Str.{IsCharBoundary}
use Rattle.text_functions.specs.Edges.{is_blank}
use Rattle.text_functions.proofs.EdgeLemmas.{behind_blanks}
use Rattle.text_functions.proofs.edges.ltrim.Goals as goal

pub split_at-requires : goal.split_at-requires
split_at-requires c =
    subst (IsCharBoundary c.args.text.now) (sym (c.leading_blanks.ensures ∙ ap (prefix_len is_blank) c.as_bytes.ensures.value)) (behind_blanks c.args.text.now c.utf8.text)
