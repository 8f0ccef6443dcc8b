use Rattle.std.proofs.Common.{◌≡◌, ◌↔◌, ◌<◌, ◌∷◌, ℕ, List, length, sym, subst, ◌∙◌, arith}
use Rattle.std.specs.Str.{chars}
use Rattle.std.proofs.lemmas.Bool.{eqb-true, false≢true}
use Rattle.text_functions.specs.Likes.{Likes}
use Rattle.text_functions.proofs.RunLemmas.{pattern_parts, behind_first_run, lacks_first_run, last_run, empty_run}
use Rattle.text_functions.proofs.likeness.pass_run.Goals as goal

pub returns-then-is_empty-clause-meaning : goal.returns-then-is_empty-clause-meaning
returns-then-is_empty-clause-meaning c =
    let run : List ℕ = c.in-Between.run'.now in
    let q : List ℕ = chars c.in-Between.behind.now in
    let none : length run ≡ 0 = eqb-true (length run) 0 (sym c.is_empty.ensures ∙ c.if-is_empty.true) in
    let parts = pattern_parts c.args.pattern.now run c.in-Between.behind.now c.in-Between.ensures.2 c.in-Between.ensures.0 in
    subst (λ (ps : List ℕ). Likes (37 ∷ ps) (chars c.args.text.now) ↔ Likes (37 ∷ q) (chars c.args.text.now)) (sym parts) (empty_run run q (chars c.args.text.now) none)

pub returns-in-Last-clause-meaning : goal.returns-in-Last-clause-meaning
returns-in-Last-clause-meaning c =
    let run : List ℕ = c.in-Last.run'.now in
    let last = last_run c.args.text.now run c.utf8.text c.in-Last.ensures.2 c.in-Last.ensures.1 in
    let e = sym c.in-Last.ensures.0 in (
      λ is. subst (λ (ps : List ℕ). Likes (37 ∷ chars ps) (chars c.args.text.now)) e (last.0 (c.ends_with_run.ensures.0 is)),
      λ h. c.ends_with_run.ensures.1 (last.1 (subst (λ (ps : List ℕ). Likes (37 ∷ chars ps) (chars c.args.text.now)) (sym e) h)),
    )

pub returns-in-Some-clause-meaning : goal.returns-in-Some-clause-meaning
returns-in-Some-clause-meaning c =
    let run : List ℕ = c.in-Between.run'.now in
    let q : List ℕ = chars c.in-Between.behind.now in
    let parts = pattern_parts c.args.pattern.now run c.in-Between.behind.now c.in-Between.ensures.2 c.in-Between.ensures.0 in
    let some : 0 < length run = grind (arith, c.is_empty.ensures, c.if-is_empty.false) in
    subst (λ (ps : List ℕ). Likes (37 ∷ ps) (chars c.args.text.now) ↔ Likes (37 ∷ q) (chars c.in-Some.rest.now)) (sym parts)
    (behind_first_run c.args.text.now run c.in-Some.rest.now q c.utf8.text c.in-Between.ensures.2 some c.in-Between.ensures.1 c.in-Some.ensures)

pub returns-in-None-clause-meaning : goal.returns-in-None-clause-meaning
returns-in-None-clause-meaning c =
    let run : List ℕ = c.in-Between.run'.now in
    let q : List ℕ = 37 ∷ chars c.in-Between.behind.now in
    let parts = pattern_parts c.args.pattern.now run c.in-Between.behind.now c.in-Between.ensures.2 c.in-Between.ensures.0 in (
      λ is. absurd (false≢true is),
      λ h. absurd (lacks_first_run c.args.text.now run q c.utf8.text c.in-Between.ensures.2 c.in-Between.ensures.1 c.in-None.ensures (subst (λ (ps : List ℕ). Likes (37 ∷ ps) (chars c.args.text.now)) parts h)),
    )
