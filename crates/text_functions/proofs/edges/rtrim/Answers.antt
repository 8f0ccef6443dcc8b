use Rattle.std.proofs.Common.{ℕ, List, ◌-◌, length, sym, ap, subst, ◌∙◌}
use Rattle.std.specs.List.{suffix_len}
use Rattle.std.specs.Str.{IsCharBoundary}
use Rattle.text_functions.specs.Edges.{is_blank}
use Rattle.text_functions.proofs.EdgeLemmas.{before_blanks}
use Rattle.text_functions.proofs.edges.rtrim.Goals as goal

pub split_at-requires : goal.split_at-requires
split_at-requires c =
    subst (IsCharBoundary c.args.text.now) (sym (c.end_of_words.ensures ∙ ap (λ (bs : List ℕ). length bs - suffix_len is_blank bs) c.as_bytes.ensures.value)) (before_blanks c.args.text.now c.utf8.text)
