use Rattle.std.proofs.Common.{rules, ◌≡◌, ◌≤◌, ◌+◌, length, take, drop, ℕ, ◌-◌, sym, ◌∙◌, ap, arith, List}
use Rattle.std.proofs.lemmas.List.{drop-drop, length-drop}
use borrow.Rule.Slice.PartMut.{put_mid}
use Rattle.ledger.proofs.Filling.{filled}
use Rattle.ledger.proofs.Resting.{rests_then, rests_made, rests_holds}
use Rattle.ledger.proofs.reader.fill.Goals as goal

pub returns-in_err-count-clause-rests : goal.returns-in_err-count-clause-rests
returns-in_err-count-clause-rests g c = rests_then _ _ _ c.loop-done.invariant.rests (rests_made _ _ c.read_at.ensures.shows c.read_at.ensures.crash)

pub returns-then-count-eq0-clause-rests : goal.returns-then-count-eq0-clause-rests
returns-then-count-eq0-clause-rests g c = rests_then _ _ _ c.loop-done.invariant.rests (rests_made _ _ c.read_at.ensures.shows c.read_at.ensures.crash)

pub loop-done-preserved : goal.loop-done-preserved
loop-done-preserved g c =
    let inv = c.loop-done.invariant in
    let rest : length c.read_at.new.into ≡ length c.loop-done.room - c.loop-done.done = omega (arith, c.read_at.auto.into, inv.within) in
    let size : length (put_mid c.loop-done.done (length c.loop-done.room - c.loop-done.done) c.loop-done.room c.read_at.new.into) ≡ length c.loop-done.room = search rules in
    let count : c.in_ok-count.count ≤ length c.read_at.new.into = c.in_ok-count.ensures.count in
    record {
      within = omega (arith, size, rest, count, inv.within);
      rests = rests_then _ _ _ inv.rests (rests_made _ _ c.read_at.ensures.shows c.read_at.ensures.crash);
      later = omega (arith, inv.later, c.read_at.ensures.cause.later);
      same = search rules;
      found = λ file holds.
          let now = rests_holds _ _ c.args.name.now file inv.rests holds in
          let fits : c.args.at + c.loop-done.done + c.in_ok-count.count ≤ length file =
          omega (arith, ap length now.seen, c.in_ok-count.ensures.fits now.tells (omega (arith, c.if-count-eq0.false))) in (
            filled c.loop-done.done (length c.loop-done.room - c.loop-done.done) c.in_ok-count.count c.loop-done.room c.read_at.new.into _ inv.within rest (omega (arith, rest, count)) (inv.found file holds).0
                (c.in_ok-count.ensures.bytes now.tells ∙ ap (λ (l : List ℕ). take c.in_ok-count.count (drop (c.args.at + c.loop-done.done) l)) now.seen ∙ ap (λ (l : List ℕ). take c.in_ok-count.count l) (sym (drop-drop c.loop-done.done c.args.at file))),
            omega (arith, fits, length-drop c.args.at file),
          );
    }
