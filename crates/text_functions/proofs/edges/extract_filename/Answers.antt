use Rattle.std.proofs.Common.{ℕ, List, Some, None, sym, subst, ◌∙◌}
use Rattle.memchr.specs.Find.{IsLastByte}
use Rattle.text_functions.specs.Edges.{is_slash}
use Rattle.text_functions.proofs.EdgeLemmas.{behind_slash, after_at, after_none}
use Rattle.text_functions.proofs.edges.extract_filename.Goals as goal

pub split_at-requires : goal.split_at-requires
split_at-requires c =
    behind_slash c.args.text.now c.in-Some.place c.utf8.text (subst (λ (bs : List ℕ). IsLastByte is_slash bs (Some c.in-Some.place)) c.as_bytes.ensures.value c.in-Some.ensures)

pub returns-in-Some : goal.returns-in-Some
returns-in-Some c =
    c.split_at.ensures.back ∙ sym (after_at is_slash c.args.text.now c.in-Some.place (subst (λ (bs : List ℕ). IsLastByte is_slash bs (Some c.in-Some.place)) c.as_bytes.ensures.value c.in-Some.ensures))

pub returns-in-None : goal.returns-in-None
returns-in-None c =
    sym (after_none is_slash c.args.text.now (subst (λ (bs : List ℕ). IsLastByte is_slash bs None) c.as_bytes.ensures.value c.in-None.ensures))
