use Rattle.std.proofs.Common.{◌≡◌, ◌≤◌, ◌+◌, ◌++◌, ℕ, List, length, sym, ap, subst, ◌∙◌, arith}
use Rattle.line_input.specs.Splitter.{AreGone, kept_of}
use Rattle.line_input.proofs.Going.{more_gone, kept_held}
use Rattle.line_input.proofs.splitter.let_go.Goals as goal

pub returns-then-are_spent-clause-gone : goal.returns-then-are_spent-clause-gone
returns-then-are_spent-clause-gone c =
    let size : c.len.result ≡ length c.deref.result.now = omega (arith, c.len.ensures, c.deref.ensures.len) in
    let gone : List ℕ = c.args.gone.now.bytes in
    let more = more_gone c.args.missing.now c.len.result gone c.deref.result.now size c.requires.gone (sym c.are_spent.ensures ∙ c.if-are_spent.true) in
    subst (λ (bytes : List ℕ). AreGone (c.args.missing.now + c.len.result) bytes) (ap (λ (t : List ℕ). gone ++ t) c.deref.ensures.value ∙ sym c.with.ensures) more

pub returns-else-are_spent-clause-held : goal.returns-else-are_spent-clause-held
returns-else-are_spent-clause-held c =
    let gone : List ℕ = c.args.gone.now.bytes in
    let held = kept_held c.args.missing.now gone c.deref.result.now c.requires.gone (sym c.are_spent.ensures ∙ c.if-are_spent.false) in
    let same : length (kept_of (gone ++ c.deref.result.now)) ≡ length (kept_of (gone ++ c.args.buffer.now.items)) = ap (λ (t : List ℕ). length (kept_of (gone ++ t))) c.deref.ensures.value in
    omega (arith, held, same, c.deref.ensures.len)
