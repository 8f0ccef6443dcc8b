use Rattle.std.proofs.Common.{ℕ, List, sym, subst}
use Rattle.ledger_model.proofs.Fields.{text_law}
use Rattle.ledger_model.specs.Grammar.{name_field}
use Rattle.ledger_model.specs.Numbers.{text_bytes}
use Rattle.ledger.specs.Reader.{IsRead}
use Rattle.ledger.proofs.Composing.{handed, narrowed, misfit, refused_narrower, refused_here}
use Rattle.ledger.proofs.reader.EntryReader.find_name.Goals as goal

pub returns-in_err-size-clause-gives : goal.returns-in_err-size-clause-gives
returns-in_err-size-clause-gives g c = λ file to can.
    let k = c.in_err-size.ensures.reads file to can in
    (k.0, handed c.from_residual.result c.in_err-size.field-0.0 _ _ c.from_residual.ensures.1 (refused_narrower _ _ text_bytes (λ t fits. (fits.0, fits.1.most)) file to _ _ k.1))

pub returns-in-Some-clause-gives : goal.returns-in-Some-clause-gives
returns-in-Some-clause-gives g c = λ file to can.
    let k = c.in_ok-size.ensures.reads file to can in
    let name = c.in-Some.ensures in
    (k.0, subst (λ (v : List ℕ). IsRead name_field file to c.args.self.now.at c.short_text.new.self.at v) (sym name.0) (narrowed _ _ text_bytes file to _ _ _ k.1 (k.1.fits.0, name.1)))

pub returns-in-None-clause-gives : goal.returns-in-None-clause-gives
returns-in-None-clause-gives g c = λ file to can.
    let k = c.in_ok-size.ensures.reads file to can in (
      k.0,
      refused_here name_field file to c.args.self.now.at c.place-place.result c.damaged.result c.damaged.ensures c.place-place.ensures
          (misfit _ _ text_bytes (text_law _) (λ t fits. (fits.0, fits.1.most)) file to _ _ _ k.1 (λ fits. c.in-None.ensures fits.1)),
    )
