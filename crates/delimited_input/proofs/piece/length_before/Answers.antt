use Rattle.std.proofs.Common.{◌≤◌, ℕ, length, sym, subst, ◌∙◌}
use Rattle.delimited_input.proofs.Searching.{length_found, within_length}
use Rattle.delimited_input.proofs.piece.length_before.Goals as goal

pub returns : goal.returns
returns c =
    record {
      length = c.unwrap_or.ensures ∙ length_found c.args.byte c.args.bytes.now c.memchr.result c.memchr.ensures;
      fits = subst (λ (n : ℕ). n ≤ length c.args.bytes.now) (sym c.unwrap_or.ensures) (within_length c.args.byte c.args.bytes.now c.memchr.result c.memchr.ensures);
    }
