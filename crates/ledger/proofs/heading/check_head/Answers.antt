use Rattle.std.proofs.Common.{◌≡◌, ◌<◌, [], ◌∷◌, sym, subst, arith}
use Rattle.ledger.proofs.Composing.{handed, narrowed, misfit, refused_narrower, refused_first, refused_second, refused_here, checks_behind}
use Rattle.ledger.proofs.Resting.{rests_then}
use Rattle.ledger.proofs.Tagged.{byte_law, moment_fits}
use Rattle.std.proofs.Common.{ℤ}
use Rattle.std.specs.Int.{w64}
use Rattle.std.specs.Prelude.{FitsSigned}
use Rattle.std.proofs.lemmas.Int.{to_z-of_z}
use Rattle.ledger_model.specs.Numbers.{u8_bytes, i64_bytes, text_of}
use Rattle.ledger_model.specs.Layouts.{field, behind}
use Rattle.ledger_model.specs.Inputs.{IsInput}
use Rattle.ledger_model.specs.Grammar.{IsMoment}
use Rattle.ledger_model.proofs.Fields.{signed_law}
use Rattle.ledger.proofs.heading.check_head.Goals as goal

pub returns-in_err-form-clause-looks : goal.returns-in_err-form-clause-looks
returns-in_err-form-clause-looks g c = λ file to can.
    let k = c.in_err-form.ensures.gives file to can in
    (k.0, handed c.from_residual.result c.in_err-form.field-0.0 _ _ c.from_residual.ensures.1 (refused_first (field (λ form. form ≡ 1) (λ form. form ∷ [])) (λ form. behind (field IsMoment i64_bytes) (λ moment. text_of IsInput)) file to _ _ (refused_narrower (λ n. n < 256) (λ n. n ≡ 1) u8_bytes (λ n f. omega arith) file to _ _ k.1)))

pub returns-then-form-ne1-clause-looks : goal.returns-then-form-ne1-clause-looks
returns-then-form-ne1-clause-looks g c = λ file to can.
    let k = c.in_ok-form.ensures.gives file to can in (
      k.0,
      refused_first (field (λ form. form ≡ 1) (λ form. form ∷ [])) (λ form. behind (field IsMoment i64_bytes) (λ moment. text_of IsInput)) file to _ _ (refused_here (field (λ form. form ≡ 1) (λ form. form ∷ [])) file to c.args.reader.now.at c.place-place.result c.damaged.result c.damaged.ensures c.place-place.ensures
          (misfit (λ n. n < 256) (λ n. n ≡ 1) u8_bytes byte_law (λ n f. omega arith) file to _ _ _ k.1 (λ f. c.if-form-ne1.true f))),
    )

pub returns-in_err-moment-clause-looks : goal.returns-in_err-moment-clause-looks
returns-in_err-moment-clause-looks g c = λ file to can.
    let k = c.in_ok-form.ensures.gives file to can in
    let m = c.in_err-moment.ensures.gives file to k.0 in
    (m.0, handed c.from_residual-in_err-moment.result c.in_err-moment.field-0.0 _ _ c.from_residual-in_err-moment.ensures.1 (refused_second (field (λ form. form ≡ 1) (λ form. form ∷ [])) (λ form. behind (field IsMoment i64_bytes) (λ moment. text_of IsInput)) file to _ _ _ _ (narrowed (λ n. n < 256) (λ n. n ≡ 1) u8_bytes file to _ _ _ k.1 (omega arith)) (refused_first (field IsMoment i64_bytes) (λ moment. text_of IsInput) file to _ _ (refused_narrower (FitsSigned w64) IsMoment i64_bytes moment_fits file to _ _ m.1))))

pub returns-then-is_outside-clause-looks : goal.returns-then-is_outside-clause-looks
returns-then-is_outside-clause-looks g c = λ file to can.
    let k = c.in_ok-form.ensures.gives file to can in
    let m = c.in_ok-moment.ensures.gives file to k.0 in (
      m.0,
      refused_second (field (λ form. form ≡ 1) (λ form. form ∷ [])) (λ form. behind (field IsMoment i64_bytes) (λ moment. text_of IsInput)) file to _ _ _ _ (narrowed (λ n. n < 256) (λ n. n ≡ 1) u8_bytes file to _ _ _ k.1 (omega arith)) (refused_first (field IsMoment i64_bytes) (λ moment. text_of IsInput) file to _ _ (refused_here (field IsMoment i64_bytes) file to _ c.place-start.result c.damaged-then-is_outside.result c.damaged-then-is_outside.ensures c.place-start.ensures
          (misfit (FitsSigned w64) IsMoment i64_bytes signed_law moment_fits file to _ _ _ m.1 (λ f. c.if-is_outside.ensures (subst (λ (z : ℤ). IsMoment z) (sym (to_z-of_z w64 c.in_ok-moment.moment m.1.fits)) f))))),
    )

pub returns-clause-looks : goal.returns-clause-looks
returns-clause-looks g c = λ file to can.
    let k = c.in_ok-form.ensures.gives file to can in
    let m = c.in_ok-moment.ensures.gives file to k.0 in
    let i = c.input.ensures.looks file to m.0 in (
      i.0,
      checks_behind (field (λ form. form ≡ 1) (λ form. form ∷ [])) (λ form. behind (field IsMoment i64_bytes) (λ moment. text_of IsInput)) file to _ _ _ _ (narrowed (λ n. n < 256) (λ n. n ≡ 1) u8_bytes file to _ _ _ k.1 (omega arith)) c.input.result (checks_behind (field IsMoment i64_bytes) (λ moment. text_of IsInput) file to _ _ _ _ (narrowed (FitsSigned w64) IsMoment i64_bytes file to _ _ _ m.1
          (subst (λ (z : ℤ). IsMoment z) (to_z-of_z w64 c.in_ok-moment.moment m.1.fits) c.if-is_outside.ensures)) c.input.result i.1),
    )

pub returns-clause-rests : goal.returns-clause-rests
returns-clause-rests g c = rests_then _ _ _ c.byte.ensures.rests (rests_then _ _ _ c.signed.ensures.rests c.input.ensures.rests)
