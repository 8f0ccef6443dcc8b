use Rattle.std.proofs.Common.{ℕ, List, Some, None, ap, subst, ◌∙◌}
use Rattle.std.specs.Option.{option_copied}
use Rattle.memchr.specs.Find.{IsLastByte}
use Rattle.text_functions.specs.Edges.{is_point}
use Rattle.text_functions.proofs.EdgeLemmas.{behind_point, extension-at, extension-none}
use Rattle.text_functions.proofs.edges.extension_in.Goals as goal

pub returns-in_err-place : goal.returns-in_err-place
returns-in_err-place c =
    ap option_copied c.from_residual.ensures ∙ extension-none c.args.name.now (subst (λ (bs : List ℕ). IsLastByte is_point bs None) c.as_bytes.ensures.value c.in_err-place.ensures)

pub split_at-requires : goal.split_at-requires
split_at-requires c =
    behind_point c.args.name.now c.in_ok-place.place c.utf8.name (subst (λ (bs : List ℕ). IsLastByte is_point bs (Some c.in_ok-place.place)) c.as_bytes.ensures.value c.in_ok-place.ensures)

pub returns : goal.returns
returns c =
    ap Some c.split_at.ensures.back ∙ extension-at c.args.name.now c.in_ok-place.place (subst (λ (bs : List ℕ). IsLastByte is_point bs (Some c.in_ok-place.place)) c.as_bytes.ensures.value c.in_ok-place.ensures)
