use Rattle.std.proofs.Common.{refl, sym, subst}
use Rattle.ledger.proofs.Composing.{handed, refused_here, refused_moved}
use Rattle.ledger.proofs.Tagged.{stamp_untagged, stamp_read, stamp_misfit, stamp_short}
use Rattle.std.proofs.Common.{ℤ}
use Rattle.std.specs.Int.{w64}
use Rattle.std.proofs.lemmas.Int.{to_z-of_z}
use Rattle.ledger.specs.Counted.{any_stamp}
use Rattle.ledger_model.specs.Grammar.{IsStamp}
use Rattle.ledger.proofs.checking.stamp.Goals as goal

pub returns-in_err-code-clause-looks : goal.returns-in_err-code-clause-looks
returns-in_err-code-clause-looks g c = λ file to can.
    let k = c.in_err-code.ensures.gives file to can in
    (k.0, handed c.from_residual.result c.in_err-code.field-0.0 _ _ c.from_residual.ensures.1 (stamp_untagged file to _ _ k.1))

pub returns-in-Ok-clause-looks : goal.returns-in-Ok-clause-looks
returns-in-Ok-clause-looks g c = λ file to can.
    let k = c.in_ok-code.ensures.gives file to can in
    let s = c.in-Ok.ensures.gives file to k.0 in
    (s.0, stamp_read file to _ _ _ _ _ k.1 s.1 (subst (λ (z : ℤ). IsStamp c.in_ok-code.code z) (to_z-of_z w64 c.in-Ok.seconds s.1.fits) (c.if-is_stamp.ensures.0 refl)))

pub returns-in-Ok-2-clause-looks : goal.returns-in-Ok-2-clause-looks
returns-in-Ok-2-clause-looks g c = λ file to can.
    let k = c.in_ok-code.ensures.gives file to can in
    let s = c.in-Ok.ensures.gives file to k.0 in (
      s.0,
      refused_here any_stamp file to c.args.reader.now.at c.place-place.result c.damaged.result c.damaged.ensures c.place-place.ensures
          (stamp_misfit file to _ _ _ _ _ k.1 s.1 (λ is. let wrong = c.if-is_stamp.ensures.1 (subst (λ (z : ℤ). IsStamp c.in_ok-code.code z) (sym (to_z-of_z w64 c.in-Ok.seconds s.1.fits)) is) in cc)),
    )

pub returns-in-Err-clause-looks : goal.returns-in-Err-clause-looks
returns-in-Err-clause-looks g c = λ file to can.
    let k = c.in_ok-code.ensures.gives file to can in
    let s = c.in-Err.ensures.gives file to k.0 in
    (s.0, refused_moved any_stamp file to c.args.reader.now.at c.place-place.result c.in-Err.refused c.moved.result c.moved.ensures c.place-place.ensures (stamp_short file to _ _ _ c.in-Err.refused k.1 s.1))
