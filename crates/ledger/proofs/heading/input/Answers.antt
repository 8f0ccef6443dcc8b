use Rattle.std.proofs.Common.{◌≤◌, ◌<◌, ◌^◌, length}
use Rattle.ledger.proofs.Composing.{handed, narrowed, misfit, refused_narrower, refused_here, some_read}
use Rattle.ledger_model.specs.Numbers.{text_bytes, text_of}
use Rattle.ledger_model.specs.Inputs.{IsInput}
use Rattle.ledger_model.proofs.Fields.{text_law}
use Rattle.ledger.proofs.Inputting.{input_short}
use Rattle.ledger.proofs.heading.input.Goals as goal

pub returns-in_err-size-clause-looks : goal.returns-in_err-size-clause-looks
returns-in_err-size-clause-looks g c = λ file to can.
    let k = c.in_err-size.ensures.reads file to can in
    (k.0, handed c.from_residual.result c.in_err-size.field-0.0 _ _ c.from_residual.ensures.1 (refused_narrower (λ t. (length t < 2 ^ 32) × (length t ≤ 64)) (λ t. (length t < 2 ^ 32) × IsInput t) text_bytes (λ t f. (f.0, input_short t f.1)) file to _ _ k.1))

pub returns-then-is_input-clause-looks : goal.returns-then-is_input-clause-looks
returns-then-is_input-clause-looks g c = λ file to can.
    let k = c.in_ok-size.ensures.reads file to can in
    (k.0, some_read (text_of IsInput) file to _ _ _ (narrowed (λ t. (length t < 2 ^ 32) × (length t ≤ 64)) (λ t. (length t < 2 ^ 32) × IsInput t) text_bytes file to _ _ _ k.1 (k.1.fits.0, c.if-is_input.ensures)))

pub returns-clause-looks : goal.returns-clause-looks
returns-clause-looks g c = λ file to can.
    let k = c.in_ok-size.ensures.reads file to can in (
      k.0,
      refused_here (text_of IsInput) file to c.args.reader.now.at c.place-place.result c.damaged.result c.damaged.ensures c.place-place.ensures
          (misfit (λ t. (length t < 2 ^ 32) × (length t ≤ 64)) (λ t. (length t < 2 ^ 32) × IsInput t) text_bytes (text_law _) (λ t f. (f.0, input_short t f.1)) file to _ _ _ k.1 (λ f. c.if-is_input.ensures f.1)),
    )
