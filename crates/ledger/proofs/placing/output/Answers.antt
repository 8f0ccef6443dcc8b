use Rattle.std.proofs.Common.{◌<◌, ◌^◌, ℕ, length, refl, ◌∙◌, ap, Ok, Err}
use Rattle.ledger.specs.Placing.{name_hash, place_layout}
use Rattle.ledger.proofs.Composing.{handed, narrowed, misfit, refused_narrower, refused_first, refused_second, read_both, refused_here, some_read}
use Rattle.ledger.proofs.Tagged.{checks_viewed, refused_viewed}
use Rattle.ledger.proofs.Resting.{can_rests}
use Rattle.ledger.proofs.Comparing.{of_disk, compares_at, front_name}
use Rattle.ledger_model.specs.Entries.{Output}
use Rattle.ledger_model.specs.Numbers.{text_bytes, text_of}
use Rattle.ledger_model.specs.Layouts.{behind}
use Rattle.ledger_model.specs.Grammar.{IsName, IsNew, output_layout}
use Rattle.ledger_model.proofs.Fields.{text_law}
use Rattle.ledger.proofs.placing.output.Goals as goal

pub returns-in_err-name-clause-looks : goal.returns-in_err-name-clause-looks
returns-in_err-name-clause-looks g c = λ file to can.
    let n = c.in_err-name.ensures.gives file to can in
    (n.0, λ some has. handed c.from_residual.result c.in_err-name.field-0.0 _ _ c.from_residual.ensures.1 (refused_viewed (λ (o : Output). (o.name, (o.base, (o.size, o.last)))) (behind (text_of (λ t. IsName t × IsNew some.items t)) (λ name. place_layout)) file to c.args.reader.now.at c.in_err-name.field-0.0 (refused_first (text_of (λ t. IsName t × IsNew some.items t)) (λ name. place_layout) file to _ _ (refused_narrower (λ t. (length t < 2 ^ 32) × IsName t) (λ t. (length t < 2 ^ 32) × (IsName t × IsNew some.items t)) text_bytes (λ t f. (f.0, f.1.0)) file to _ _ n.1))))

pub returns-in_err-taken-clause-looks : goal.returns-in_err-taken-clause-looks
returns-in_err-taken-clause-looks g c = λ file to can.
    let n = c.in_ok-name.ensures.gives file to can in
    let rested = can_rests _ _ c.args.ledger.now file to c.take_name.new.self c.is_known.ensures.rests n.0 in
    (rested, λ some has. handed c.from_residual-in_err-taken.result c.in_err-taken.field-0.0 _ _ c.from_residual-in_err-taken.ensures.1 (of_disk (output_layout some.items) file to c.args.reader.now.at _ (compares_at file to c.end.result c.args.first c.args.count c.args.seen.now c.in_ok-name.name (Err c.in_err-taken.field-0.0) (c.end.ensures ∙ n.0.end) (c.in_err-taken.ensures.compares file n.0.holds) c.args.reader.now.at some has)))

pub returns-then-taken-clause-looks : goal.returns-then-taken-clause-looks
returns-then-taken-clause-looks g c = λ file to can.
    let n = c.in_ok-name.ensures.gives file to can in
    let rested = can_rests _ _ c.args.ledger.now file to c.take_name.new.self c.is_known.ensures.rests n.0 in (
      rested,
      λ some has.
          let clash : IsNew some.items c.in_ok-name.name → ⊥ = rw c.if-taken.true at (compares_at file to c.end.result c.args.first c.args.count c.args.seen.now c.in_ok-name.name (Ok c.in_ok-taken.taken) (c.end.ensures ∙ n.0.end) (c.in_ok-taken.ensures.compares file n.0.holds) c.args.reader.now.at some has) in
          refused_viewed (λ (o : Output). (o.name, (o.base, (o.size, o.last)))) (behind (text_of (λ t. IsName t × IsNew some.items t)) (λ name. place_layout)) file to c.args.reader.now.at c.damaged.result (refused_first (text_of (λ t. IsName t × IsNew some.items t)) (λ name. place_layout) file to _ _ (refused_here (text_of (λ t. IsName t × IsNew some.items t)) file to c.args.reader.now.at c.place-start.result c.damaged.result c.damaged.ensures c.place-start.ensures (misfit (λ t. (length t < 2 ^ 32) × IsName t) (λ t. (length t < 2 ^ 32) × (IsName t × IsNew some.items t)) text_bytes (text_law IsName) (λ t f. (f.0, f.1.0)) file to _ _ _ n.1 (λ f. clash f.1.1)))),
    )

pub returns-in_err-take_place-clause-looks : goal.returns-in_err-take_place-clause-looks
returns-in_err-take_place-clause-looks g c = λ file to can.
    let n = c.in_ok-name.ensures.gives file to can in
    let rested = can_rests _ _ c.args.ledger.now file to c.take_name.new.self c.is_known.ensures.rests n.0 in
    let p = c.in_err-take_place.ensures.takes file to rested in (
      p.0,
      λ some has. let fresh : IsNew some.items c.in_ok-name.name = rw c.if-taken.false at (compares_at file to c.end.result c.args.first c.args.count c.args.seen.now c.in_ok-name.name (Ok c.in_ok-taken.taken) (c.end.ensures ∙ n.0.end) (c.in_ok-taken.ensures.compares file n.0.holds) c.args.reader.now.at some has) in
          handed c.from_residual-in_err-take_place.result c.in_err-take_place.field-0.0 _ _ c.from_residual-in_err-take_place.ensures.1 (refused_viewed (λ (o : Output). (o.name, (o.base, (o.size, o.last)))) (behind (text_of (λ t. IsName t × IsNew some.items t)) (λ name. place_layout)) file to c.args.reader.now.at c.in_err-take_place.field-0.0 (refused_second (text_of (λ t. IsName t × IsNew some.items t)) (λ name. place_layout) file to _ _ _ _ (narrowed (λ t. (length t < 2 ^ 32) × IsName t) (λ t. (length t < 2 ^ 32) × (IsName t × IsNew some.items t)) text_bytes file to _ _ _ n.1 (n.1.fits.0, (n.1.fits.1, fresh))) p.1)),
    )

pub returns-clause-looks : goal.returns-clause-looks
returns-clause-looks g c = λ file to can.
    let n = c.in_ok-name.ensures.gives file to can in
    let rested = can_rests _ _ c.args.ledger.now file to c.take_name.new.self c.is_known.ensures.rests n.0 in
    let p = c.in_ok-take_place.ensures.takes file to rested in (
      p.0,
      λ some has. let fresh : IsNew some.items c.in_ok-name.name = rw c.if-taken.false at (compares_at file to c.end.result c.args.first c.args.count c.args.seen.now c.in_ok-name.name (Ok c.in_ok-taken.taken) (c.end.ensures ∙ n.0.end) (c.in_ok-taken.ensures.compares file n.0.holds) c.args.reader.now.at some has) in
          checks_viewed {R = ℕ} (λ (o : Output). (o.name, (o.base, (o.size, o.last)))) (λ parts. record { name = parts.0; base = parts.1.0; size = parts.1.1.0; last = parts.1.1.1 }) (behind (text_of (λ t. IsName t × IsNew some.items t)) (λ name. place_layout)) (λ parts. refl) file to _ _ (Ok c.hash_of-hash.result) (some_read (behind (text_of (λ t. IsName t × IsNew some.items t)) (λ name. place_layout)) file to _ _ _ (read_both (text_of (λ t. IsName t × IsNew some.items t)) (λ name. place_layout) file to _ _ _ _ _ (narrowed (λ t. (length t < 2 ^ 32) × IsName t) (λ t. (length t < 2 ^ 32) × (IsName t × IsNew some.items t)) text_bytes file to _ _ _ n.1 (n.1.fits.0, (n.1.fits.1, fresh))) p.1)),
    )

pub returns-clause-hash : goal.returns-clause-hash
returns-clause-hash g c = λ file to can before output read.
    let n = c.in_ok-name.ensures.gives file to can in
    c.hash_of-hash.ensures ∙ ap name_hash (front_name file to c.args.reader.now.at c.take_name.new.self.at _ before output c.in_ok-name.name n.1 read)
