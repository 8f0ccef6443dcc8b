use Rattle.std.proofs.Common.{◌≡◌, ℕ, List, length, take, sym, subst, arith}
use Rattle.std.proofs.lemmas.Slice.{take-put_mid}
use Rattle.std.proofs.lemmas.List.{length-take-le}
use borrow.Rule.Slice.PartMut.{put_mid}
use Rattle.ledger.specs.Reader.{IsRead, RefusedShort, text_within}
use Rattle.ledger.proofs.Composing.{handed, text_refused, text_read, text_unsized, text_short, refused_here, refused_moved}
use Rattle.ledger.proofs.Resting.{rests_then}
use Rattle.ledger.proofs.reader.EntryReader.short_text.Goals as goal

pub returns-in_err-size-clause-reads : goal.returns-in_err-size-clause-reads
returns-in_err-size-clause-reads g c = λ file to can.
    let k = c.in_err-size.ensures.gives file to can in
    (k.0, handed c.from_residual.result c.in_err-size.field-0.0 _ _ c.from_residual.ensures.1 (text_unsized _ file to _ _ k.1))

pub returns-then-size-room-clause-reads : goal.returns-then-size-room-clause-reads
returns-then-size-room-clause-reads g c = λ file to can.
    let k = c.in_ok-size.ensures.gives file to can in (
      k.0,
      refused_here (text_within (length c.args.room.now)) file to c.args.self.now.at c.place-place.result c.damaged.result c.damaged.ensures c.place-place.ensures
          (text_refused _ file to _ _ _ k.1 (λ text more size is e. omega (arith, size, is, c.if-size-room.true))),
    )

pub returns-in-Ok-clause-rests : goal.returns-in-Ok-clause-rests
returns-in-Ok-clause-rests g c = rests_then _ _ _ c.word.ensures.rests c.take.ensures.rests

pub returns-in-Err-clause-rests : goal.returns-in-Err-clause-rests
returns-in-Err-clause-rests g c = rests_then _ _ _ c.word.ensures.rests c.take.ensures.rests

pub returns-in-Ok-clause-reads : goal.returns-in-Ok-clause-reads
returns-in-Ok-clause-reads g c = λ file to can.
    let k = c.in_ok-size.ensures.gives file to can in
    let t = c.in-Ok.ensures.reads file to k.0 in
    let size : length c.take.new.into ≡ c.in_ok-size.field-0 = omega (arith, c.take.auto.into, length-take-le c.in_ok-size.field-0 c.args.room.now (omega (arith, c.if-size-room.false))) in
    let whole : take c.in_ok-size.field-0 (put_mid 0 c.in_ok-size.field-0 c.args.room.now c.take.new.into) ≡ c.take.new.into = take-put_mid 0 c.in_ok-size.field-0 c.args.room.now c.take.new.into c.in_ok-size.field-0 (omega (arith, size)) (omega arith) in (
      t.0,
      subst (λ (v : List ℕ). IsRead (text_within (length c.args.room.now)) file to c.args.self.now.at c.take.new.self.at v) (sym whole)
          (text_read _ file to _ _ _ _ c.take.new.into k.1 t.1 size (omega (arith, size, c.if-size-room.false))),
    )

pub returns-in-Err-clause-reads : goal.returns-in-Err-clause-reads
returns-in-Err-clause-reads g c = λ file to can.
    let k = c.in_ok-size.ensures.gives file to can in
    let t = c.in-Err.ensures.reads file to k.0 in (
      t.0,
      refused_moved (text_within (length c.args.room.now)) file to c.args.self.now.at c.place-place.result c.in-Err.refused c.moved.result c.moved.ensures c.place-place.ensures (text_short _ file to _ _ _ _ k.1
          (subst (λ (n : ℕ). RefusedShort file to c.word.new.self.at n c.in-Err.refused) (length-take-le c.in_ok-size.field-0 c.args.room.now (omega (arith, c.if-size-room.false))) t.1)),
    )
