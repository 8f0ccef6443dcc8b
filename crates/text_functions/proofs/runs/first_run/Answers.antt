use Rattle.std.proofs.Common.{◌≡◌, ◌+◌, ℕ, List, get_or, take, drop, refl, sym, ap, subst, ◌∙◌}
use Rattle.std.specs.Str.{IsUtf8}
use Rattle.text_functions.specs.Runs.{IsPlain}
use Rattle.text_functions.proofs.StandLemmas.{first_sign, no_sign, split_at_sign, is_percent, behind_percent_utf8}
use Rattle.text_functions.proofs.runs.first_run.Goals as goal

pub returns-then-as_bytes-place-eq95 : goal.returns-then-as_bytes-place-eq95
returns-then-as_bytes-place-eq95 c =
    let pattern : List ℕ = c.args.pattern.now in
    let place : ℕ = c.in-Some.place in
    let sign = first_sign pattern c.as_bytes.result.now place c.as_bytes.ensures.value c.in-Some.ensures.0 c.in-Some.ensures.1 in
    let e : get_or pattern place 0 ≡ 95 = sym (ap (λ (xs : List ℕ). get_or xs place 0) c.as_bytes-in-Some.ensures.value) ∙ c.if-as_bytes-place-eq95.true in
    (take place pattern, drop (place + 1) pattern, split_at_sign pattern place 95 sign.within e, sign.plain)

pub split_at-requires-in-Some : goal.split_at-requires-in-Some
split_at-requires-in-Some c =
    let pattern : List ℕ = c.args.pattern.now in
    let place : ℕ = c.in-Some.place in
    let sign = first_sign pattern c.as_bytes.result.now place c.as_bytes.ensures.value c.in-Some.ensures.0 c.in-Some.ensures.1 in
    let e : get_or pattern place 0 ≡ 37 = is_percent pattern place sign (λ is. c.if-as_bytes-place-eq95.false (ap (λ (xs : List ℕ). get_or xs place 0) c.as_bytes-in-Some.ensures.value ∙ is)) in
    (behind_percent_utf8 pattern place c.utf8.pattern sign e).2

pub returns-in-None : goal.returns-in-None
returns-in-None c =
    (refl, no_sign c.args.pattern.now c.as_bytes.result.now c.as_bytes.ensures.value c.in-None.ensures, c.utf8.pattern)

pub returns-else-as_bytes-place-eq95 : goal.returns-else-as_bytes-place-eq95
returns-else-as_bytes-place-eq95 c =
    let pattern : List ℕ = c.args.pattern.now in
    let place : ℕ = c.in-Some.place in
    let sign = first_sign pattern c.as_bytes.result.now place c.as_bytes.ensures.value c.in-Some.ensures.0 c.in-Some.ensures.1 in
    let e : get_or pattern place 0 ≡ 37 = is_percent pattern place sign (λ is. c.if-as_bytes-place-eq95.false (ap (λ (xs : List ℕ). get_or xs place 0) c.as_bytes-in-Some.ensures.value ∙ is)) in
    let utf8 = behind_percent_utf8 pattern place c.utf8.pattern sign e in
    let front : c.split_at.result.0.now ≡ take place pattern = c.split_at.ensures.front in
    let back : c.split_at-in-Some.result.1.now ≡ drop (place + 1) pattern = c.split_at-in-Some.ensures.back in (
      rw (front, back) (split_at_sign pattern place 37 sign.within e),
      subst IsPlain (sym front) sign.plain,
      subst IsUtf8 (sym front) utf8.0,
      subst IsUtf8 (sym back) utf8.1,
    )
