use Rattle.std.proofs.Common.{rules, ◌≡◌, ◌≤◌, ◌-◌, ◌++◌, length, take, sym, ◌∙◌, arith}
use Rattle.std.proofs.lemmas.Slice.{take-put_mid}
use Rattle.std.proofs.lemmas.List.{take_all}
use Rattle.std.proofs.Math.Facts.{Fits-lt-pow}
use borrow.Rule.Slice.PartMut.{put_mid}
use Rattle.ledger.proofs.Resting.{rests_then}
use Rattle.ledger.proofs.Moving.{stood_then, stood_as}
use Rattle.ledger.proofs.reader.EntryReader.take.Goals as goal

pub loop-done-preserved : goal.loop-done-preserved
loop-done-preserved g c =
    let inv = c.loop-done.invariant in
    let last : (c.loop-done.done ≤ c.min-end.result) × (c.min-end.result ≤ length c.loop-done.into) = (omega (arith, c.min-end.ensures, inv.within, c.loop-done-test.true), omega (arith, c.min-end.ensures)) in
    let rest : length c.take_piece.new.piece ≡ c.min-end.result - c.loop-done.done = omega (arith, c.take_piece.auto.piece, last.0, last.1) in
    let size : length (put_mid c.loop-done.done (c.min-end.result - c.loop-done.done) c.loop-done.into c.take_piece.new.piece) ≡ length c.loop-done.into = search rules in
    let whole : take c.min-end.result (put_mid c.loop-done.done (c.min-end.result - c.loop-done.done) c.loop-done.into c.take_piece.new.piece) ≡ take c.loop-done.done c.loop-done.into ++ c.take_piece.new.piece =
    take-put_mid c.loop-done.done (c.min-end.result - c.loop-done.done) c.loop-done.into c.take_piece.new.piece c.min-end.result (omega (arith, rest, last.0)) inv.within in
    record {
      within = omega (arith, size, last.1);
      low = λ i. Fits-lt-pow (c.type_inv.into i);
      size = size ∙ inv.size;
      place = search rules;
      end = c.take_piece.ensures.to ∙ inv.end;
      rests = rests_then _ _ _ inv.rests c.take_piece.ensures.rests;
      later = omega (arith, inv.later, c.take_piece.ensures.cause.later);
      same = search rules;
      reads = λ file to can.
          let past = inv.reads file to can in
          let piece = c.in-Ok-true.ensures.reads file to past.0 in
          let here = rw c.in-Ok-true.field-0-test at piece.1 in
          (piece.0, stood_as file to _ _ _ _ (sym whole) (stood_then file to _ _ _ _ _ past.1 here));
    }

pub returns-in-Ok-false-clause-rests : goal.returns-in-Ok-false-clause-rests
returns-in-Ok-false-clause-rests g c = rests_then _ _ _ c.loop-done.invariant.rests c.take_piece.ensures.rests

pub returns-in-Err-clause-rests : goal.returns-in-Err-clause-rests
returns-in-Err-clause-rests g c = rests_then _ _ _ c.loop-done.invariant.rests c.take_piece.ensures.rests

pub returns-clause-reads : goal.returns-clause-reads
returns-clause-reads g c = λ file to can.
    let past = c.loop-done.invariant.reads file to can in
    (past.0, stood_as file to _ _ _ _ (take_all c.loop-done.done c.loop-done.into (omega (arith, c.loop-done-test.false))) past.1)

pub returns-clause-low : goal.returns-clause-low
returns-clause-low g c = c.loop-done.invariant.low
