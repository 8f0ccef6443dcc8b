use Rattle.std.proofs.Common.{◌≡◌, ◌≢◌, ◌+◌, length, take, refl, arith}
use Rattle.file_stage.proofs.Holding.{front_is_text, all_is_text, held_whole, held_all}
use Rattle.file_stage.proofs.laws.files_hold_texts.Goals as goal

pub returns-clause-written : goal.returns-clause-written
returns-clause-written g c = λ always output name base mark text within spares has ends.
    let old = (g.D.Disk.state c.args.before.now.disk.now).seen name in
    let new = (g.D.Disk.state c.args.now.now.disk.now).seen name in
    let front = spares (always c.args.before.now.disk.now) 0 name 0 (record { last = 0; length = base }) (take base old) (omega arith) (front_is_text old base within) in
    held_whole old new base mark.length text within front has.1 (ends always)

pub returns-clause-spared : goal.returns-clause-spared
returns-clause-spared g c = λ always output called name off others lengths.
    let old = (g.D.Disk.state c.args.before.now.disk.now).seen name in
    let new = (g.D.Disk.state c.args.now.now.disk.now).seen name in
    let tells = always c.args.before.now.disk.now in
    let apart : output + 1 ≢ output = λ (same : output + 1 ≡ output). omega (arith, same) in
    held_all old new (others tells (output + 1) name 0 (record { last = 0; length = length old }) old apart off (all_is_text old))
    ((lengths tells name (length old) off).0 (λ tells. refl) (always c.args.now.now.disk.now))
