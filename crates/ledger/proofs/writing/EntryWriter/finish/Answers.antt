use Rattle.std.proofs.Common.{rules, ◌≡◌, ℕ, ◌+◌, List, [], ◌∷◌, ◌∙◌, ap, Result, Ok, Err, OnOk}
use Rattle.disk_model.specs.Disk.{overwritten}
use Rattle.ledger_model.specs.Numbers.{u64_bytes}
use Rattle.ledger.specs.Writer.{Written}
use Rattle.ledger.proofs.Overwriting.{body_written}
use Rattle.std.proofs.Common.{refl, arith}
use Rattle.ledger.specs.Writer.{Written}
use Rattle.disk_changes.proofs.Fronts.{one_write_keeps, more_keeps}
use Rattle.disk_changes.proofs.Showing.{shows_any, shows_then}
use Rattle.ledger.proofs.writing.EntryWriter.finish.Goals as goal

on_ok : {T E : Type 0} (r : Result T E) (P Q : Type 0) → OnOk r P → (P → Q) → OnOk r Q
on_ok (Ok x) P Q p f = f p
on_ok (Err e) P Q p f = tt

-- two writes one after another
two_writes : (a b d two : List ℕ) (at count at' count' : ℕ) → at' ≡ at → count' ≡ count → b ≡ overwritten a (at' + 8 + count') (0 ∷ (0 ∷ [])) → two ≡ u64_bytes count' → d ≡ overwritten b at' two → d ≡ overwritten (overwritten a (at + 8 + count) (0 ∷ (0 ∷ []))) at (u64_bytes count)
two_writes a b d two at count at' count' same same' one bits last =
    last ∙ ap (λ (t : List ℕ). overwritten t at' two) one ∙ ap (overwritten (overwritten a (at' + 8 + count') (0 ∷ (0 ∷ []))) at') bits
    ∙ ap (λ (n : ℕ). overwritten (overwritten a (n + 8 + count') (0 ∷ (0 ∷ []))) n (u64_bytes count')) same
    ∙ ap (λ (n : ℕ). overwritten (overwritten a (at + 8 + n) (0 ∷ (0 ∷ []))) at (u64_bytes n)) same'

pub returns-clause-written : goal.returns-clause-written
unfolding u64_bytes
returns-clause-written g c = on_ok c.write_at-2.result _ _ c.write_at-2.ensures.written (λ second tells.
    two_writes ((g.D.Disk.state c.args.disk.now).seen c.args.ledger.now) ((g.D.Disk.state c.write_at.new.self).seen c.args.ledger.now) ((g.D.Disk.state c.write_at-2.new.self).seen c.args.ledger.now) c.to_le_bytes.result
    c.args.self.at c.args.self.count c.self.inside.at c.self.inside.count (search rules) (search rules) (c.in_ok-write_at.ensures.written tells) c.to_le_bytes.ensures (second (c.write_at.ensures.shows tells).tells))

pub returns-clause-body : goal.returns-clause-body
returns-clause-body g c = on_ok c.write_at-2.result _ _ (returns-clause-written g c) (λ written tells. body_written c.args.self _ _ (written tells))

pub returns-in_err-write_at-clause-crash : goal.returns-in_err-write_at-clause-crash
returns-in_err-write_at-clause-crash g c = λ honest there.
    one_write_keeps _ _ c.args.ledger.now c.args.self.at _ _ there (omega (arith, ap (λ (w : Written). w.at) c.self.view_is)) (c.write_at.ensures.crash honest)

pub returns-in_err-write_at-clause-shows : goal.returns-in_err-write_at-clause-shows
returns-in_err-write_at-clause-shows g c = λ tells. shows_any _ _ _ _ (c.write_at.ensures.shows tells)

pub returns-clause-crash : goal.returns-clause-crash
returns-clause-crash g c = λ honest there.
    let ledger = c.args.ledger.now in
    let at = c.args.self.at in
    let one = one_write_keeps _ _ ledger at _ _ there (omega (arith, ap (λ (w : Written). w.at) c.self.view_is)) (c.write_at.ensures.crash honest) in
    more_keeps _ _ _ ledger at one (one_write_keeps _ _ ledger at _ _ ((one.seen ledger).here refl there).0 (omega (arith, ap (λ (w : Written). w.at) c.self.view_is)) (c.write_at-2.ensures.crash one.honest))

pub returns-clause-shows : goal.returns-clause-shows
returns-clause-shows g c = λ tells.
    let one = c.write_at.ensures.shows tells in
    shows_then _ _ _ _ (shows_any _ _ _ _ one) (shows_any _ _ _ _ (c.write_at-2.ensures.shows one.tells))
