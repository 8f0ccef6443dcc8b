use Rattle.std.proofs.Common.{ℕ, List, refl, sym, subst}
use Rattle.disk_model.specs.Disk.{Files}
use Rattle.ledger_model.specs.Entries.{Entry}
use Rattle.ledger_model.specs.Ledgers.{IsLedger, last_of}
use Rattle.ledger.specs.Walking.{RefusedLedger}
use Rattle.ledger.specs.declared.refused.LedgerRefused.TheVariants.{LedgerFault}
use Rattle.ledger.proofs.Resting.{rests_made, rests_then}
use Rattle.ledger_model.proofs.Reading.{ledger_apart, one_ledger}
use Rattle.recovery_model.specs.Recovered.{Recovers}
use Rattle.commit.specs.Keeping.{HoldsDone}
use Rattle.commit.proofs.Errors.{handed_on}
use Rattle.commit.proofs.Known.{last_low, read_on, read_twice}
use Rattle.commit.proofs.Resuming.{synced_on, ends_with, settles_rests, settles_then, settled_shows}
use Rattle.commit.proofs.Breaking.{seen_last, walk_breaks, fault_is, ends_by, frames_break, fits_whole}
use Rattle.commit.proofs.settling.settle_known.Goals as goal

pub settle_end-requires : goal.settle_end-requires
settle_end-requires g c = last_low c.in-Ok.end.last c.in-Ok.end.pair c.in-Ok.ensures.low.pair c.in-Ok.ensures.low.last

pub returns-in_err-sync-clause-any_moment : goal.returns-in_err-sync-clause-any_moment
returns-in_err-sync-clause-any_moment g c = λ earlier since can.
    let ledger = c.args.ledger.now in
    let stage = c.args.stage.now in
    let old = g.D.Disk.state earlier in
    let begun = g.D.Disk.state c.args.disk.now in
    let read = read_on old begun (g.D.Disk.state c.sync.new.self) ledger c.args.known since (rests_made begun (g.D.Disk.state c.sync.new.self) c.sync.ensures.shows c.sync.ensures.crash) in
    settles_rests old _ ledger stage (λ image left. g.met.D.Disk.only_now earlier image can.honest left) can (read.rests.crash can.honest)

pub returns-in_err-sync-2-clause-any_moment : goal.returns-in_err-sync-2-clause-any_moment
returns-in_err-sync-2-clause-any_moment g c = λ earlier since can.
    let ledger = c.args.ledger.now in
    let stage = c.args.stage.now in
    let old = g.D.Disk.state earlier in
    let begun = g.D.Disk.state c.args.disk.now in
    let between = g.D.Disk.state c.sync-2.new.self in
    let synced = read_twice old begun (g.D.Disk.state c.sync.new.self) between ledger c.args.known since c.sync.ensures.shows c.sync.ensures.crash c.sync-2.ensures.shows c.sync-2.ensures.crash in
    settles_rests old _ ledger stage (λ image left. g.met.D.Disk.only_now earlier image can.honest left) can (synced.rests.crash can.honest)

pub returns-in-Err-clause-any_moment : goal.returns-in-Err-clause-any_moment
returns-in-Err-clause-any_moment g c = λ earlier since can.
    let ledger = c.args.ledger.now in
    let stage = c.args.stage.now in
    let old = g.D.Disk.state earlier in
    let begun = g.D.Disk.state c.args.disk.now in
    let between = g.D.Disk.state c.sync-2.new.self in
    let synced = read_twice old begun (g.D.Disk.state c.sync.new.self) between ledger c.args.known since c.sync.ensures.shows c.sync.ensures.crash c.sync-2.ensures.shows c.sync-2.ensures.crash in
    let mid = g.D.Disk.state c.find_end.new.disk in
    let rests = rests_then old between mid synced.rests c.find_end.ensures.rests in
    settles_rests old _ ledger stage (λ image left. g.met.D.Disk.only_now earlier image can.honest left) can (rests.crash can.honest)

pub returns-in-Err-clause-no_fault : goal.returns-in-Err-clause-no_fault
returns-in-Err-clause-no_fault g c = λ earlier since part p fault can.
    let ledger = c.args.ledger.now in
    let stage = c.args.stage.now in
    let old = g.D.Disk.state earlier in
    let begun = g.D.Disk.state c.args.disk.now in
    let between = g.D.Disk.state c.sync-2.new.self in
    let synced = read_twice old begun (g.D.Disk.state c.sync.new.self) between ledger c.args.known since c.sync.ensures.shows c.sync.ensures.crash c.sync-2.ensures.shows c.sync-2.ensures.crash in
    let found = can.images.each old.seen (g.met.D.Disk.seen_left earlier can.honest) in
    let refused = c.in-Err.ensures.finds earlier (old.seen ledger) synced (record { tells = g.met.D.Disk.honest_tells earlier can.honest; seen = refl }) in
    let here : RefusedLedger (old.seen ledger) (LedgerFault part p) = subst (RefusedLedger (old.seen ledger)) (fault_is c.in-Err.fault part p fault) refused in
    ledger_apart (old.seen ledger) found.2.pairs p found.2.is_ledger here.1

pub returns-in-Ok-settle_end-clause-any_moment : goal.returns-in-Ok-settle_end-clause-any_moment
returns-in-Ok-settle_end-clause-any_moment g c = λ earlier since can.
    let ledger = c.args.ledger.now in
    let stage = c.args.stage.now in
    let old = g.D.Disk.state earlier in
    let begun = g.D.Disk.state c.args.disk.now in
    let between = g.D.Disk.state c.sync-2.new.self in
    let synced = read_twice old begun (g.D.Disk.state c.sync.new.self) between ledger c.args.known since c.sync.ensures.shows c.sync.ensures.crash c.sync-2.ensures.shows c.sync-2.ensures.crash in
    let mid = g.D.Disk.state c.find_end.new.disk in
    let rests = rests_then old between mid synced.rests c.find_end.ensures.rests in
    let work = rests.crash can.honest in
    let first = since.rests.crash can.honest in
    let second = c.sync.ensures.crash first.honest in
    let third = c.sync-2.ensures.crash second.honest in
    let last = c.find_end.ensures.rests.crash third.honest in
    let w = c.in-Ok.ensures.finds earlier (old.seen ledger) synced (record { tells = g.met.D.Disk.honest_tells earlier can.honest; seen = refl }) in
    let is : IsLedger (mid.seen ledger) w.pairs = subst (λ (b : List ℕ). IsLedger b w.pairs) (sym (work.seen ledger)) w.is in
    let ledger_synced = synced_on _ _ ledger last (synced_on _ _ ledger third (c.in_ok-sync.ensures.durable first.honest)) in
    let stage_synced = synced_on _ _ stage last (c.in_ok-sync-2.ensures.durable second.honest) in
    let ends = λ (entries : List Entry) (files : Files) (r : Recovers ledger stage entries files mid.seen).
    ends_with old mid ledger stage can work ledger_synced stage_synced (g.met.D.Disk.seen_left c.find_end.new.disk work.honest) entries files r w.pairs c.in-Ok.end.pair c.in-Ok.end.last is (seen_last c.in-Ok.end.last (last_of 16 w.pairs) w.last) w.pair in
    settles_then old mid _ ledger stage (λ image left. g.met.D.Disk.only_now earlier image can.honest left) (g.met.D.Disk.seen_left earlier can.honest) can work
    (λ entries files r. c.settle_end.ensures.any_moment c.in-Ok.end.pair entries files (ends entries files r))

pub returns-in-Err-settle_end-clause-any_moment : goal.returns-in-Err-settle_end-clause-any_moment
returns-in-Err-settle_end-clause-any_moment g c = λ earlier since can.
    let ledger = c.args.ledger.now in
    let stage = c.args.stage.now in
    let old = g.D.Disk.state earlier in
    let begun = g.D.Disk.state c.args.disk.now in
    let between = g.D.Disk.state c.sync-2.new.self in
    let synced = read_twice old begun (g.D.Disk.state c.sync.new.self) between ledger c.args.known since c.sync.ensures.shows c.sync.ensures.crash c.sync-2.ensures.shows c.sync-2.ensures.crash in
    let mid = g.D.Disk.state c.find_end.new.disk in
    let rests = rests_then old between mid synced.rests c.find_end.ensures.rests in
    let work = rests.crash can.honest in
    let first = since.rests.crash can.honest in
    let second = c.sync.ensures.crash first.honest in
    let third = c.sync-2.ensures.crash second.honest in
    let last = c.find_end.ensures.rests.crash third.honest in
    let w = c.in-Ok.ensures.finds earlier (old.seen ledger) synced (record { tells = g.met.D.Disk.honest_tells earlier can.honest; seen = refl }) in
    let is : IsLedger (mid.seen ledger) w.pairs = subst (λ (b : List ℕ). IsLedger b w.pairs) (sym (work.seen ledger)) w.is in
    let ledger_synced = synced_on _ _ ledger last (synced_on _ _ ledger third (c.in_ok-sync.ensures.durable first.honest)) in
    let stage_synced = synced_on _ _ stage last (c.in_ok-sync-2.ensures.durable second.honest) in
    let ends = λ (entries : List Entry) (files : Files) (r : Recovers ledger stage entries files mid.seen).
    ends_with old mid ledger stage can work ledger_synced stage_synced (g.met.D.Disk.seen_left c.find_end.new.disk work.honest) entries files r w.pairs c.in-Ok.end.pair c.in-Ok.end.last is (seen_last c.in-Ok.end.last (last_of 16 w.pairs) w.last) w.pair in
    settles_then old mid _ ledger stage (λ image left. g.met.D.Disk.only_now earlier image can.honest left) (g.met.D.Disk.seen_left earlier can.honest) can work
    (λ entries files r. c.settle_end.ensures.any_moment c.in-Ok.end.pair entries files (ends entries files r))

pub returns-in-Ok-settle_end-clause-settled : goal.returns-in-Ok-settle_end-clause-settled
returns-in-Ok-settle_end-clause-settled g c = λ earlier since can entries files r.
    let ledger = c.args.ledger.now in
    let stage = c.args.stage.now in
    let old = g.D.Disk.state earlier in
    let begun = g.D.Disk.state c.args.disk.now in
    let between = g.D.Disk.state c.sync-2.new.self in
    let synced = read_twice old begun (g.D.Disk.state c.sync.new.self) between ledger c.args.known since c.sync.ensures.shows c.sync.ensures.crash c.sync-2.ensures.shows c.sync-2.ensures.crash in
    let mid = g.D.Disk.state c.find_end.new.disk in
    let rests = rests_then old between mid synced.rests c.find_end.ensures.rests in
    let work = rests.crash can.honest in
    let first = since.rests.crash can.honest in
    let second = c.sync.ensures.crash first.honest in
    let third = c.sync-2.ensures.crash second.honest in
    let last = c.find_end.ensures.rests.crash third.honest in
    let w = c.in-Ok.ensures.finds earlier (old.seen ledger) synced (record { tells = g.met.D.Disk.honest_tells earlier can.honest; seen = refl }) in
    let is : IsLedger (mid.seen ledger) w.pairs = subst (λ (b : List ℕ). IsLedger b w.pairs) (sym (work.seen ledger)) w.is in
    let ledger_synced = synced_on _ _ ledger last (synced_on _ _ ledger third (c.in_ok-sync.ensures.durable first.honest)) in
    let stage_synced = synced_on _ _ stage last (c.in_ok-sync-2.ensures.durable second.honest) in
    let ends = λ (entries : List Entry) (files : Files) (r : Recovers ledger stage entries files mid.seen).
    ends_with old mid ledger stage can work ledger_synced stage_synced (g.met.D.Disk.seen_left c.find_end.new.disk work.honest) entries files r w.pairs c.in-Ok.end.pair c.in-Ok.end.last is (seen_last c.in-Ok.end.last (last_of 16 w.pairs) w.last) w.pair in
    let now = (settles_rests old mid ledger stage (λ image left. g.met.D.Disk.only_now earlier image can.honest left) can work).seen entries files r in
    let settled = c.in-Ok-settle_end.ensures.settled c.in-Ok.end.pair entries files (ends entries files now) in
    let shown = settled_shows (g.D.Disk.state c.settle_end.new.disk) ledger stage c.in-Ok.end.pair entries files (g.met.D.Disk.seen_left c.settle_end.new.disk settled.honest) settled in
    (settled, shown.0, shown.1)

pub returns-in-Err-settle_end-clause-no_fault : goal.returns-in-Err-settle_end-clause-no_fault
returns-in-Err-settle_end-clause-no_fault g c = λ earlier since part p fault can.
    let ledger = c.args.ledger.now in
    let stage = c.args.stage.now in
    let old = g.D.Disk.state earlier in
    let begun = g.D.Disk.state c.args.disk.now in
    let between = g.D.Disk.state c.sync-2.new.self in
    let synced = read_twice old begun (g.D.Disk.state c.sync.new.self) between ledger c.args.known since c.sync.ensures.shows c.sync.ensures.crash c.sync-2.ensures.shows c.sync-2.ensures.crash in
    let mid = g.D.Disk.state c.find_end.new.disk in
    let rests = rests_then old between mid synced.rests c.find_end.ensures.rests in
    let work = rests.crash can.honest in
    let first = since.rests.crash can.honest in
    let second = c.sync.ensures.crash first.honest in
    let third = c.sync-2.ensures.crash second.honest in
    let last = c.find_end.ensures.rests.crash third.honest in
    let w = c.in-Ok.ensures.finds earlier (old.seen ledger) synced (record { tells = g.met.D.Disk.honest_tells earlier can.honest; seen = refl }) in
    let is : IsLedger (mid.seen ledger) w.pairs = subst (λ (b : List ℕ). IsLedger b w.pairs) (sym (work.seen ledger)) w.is in
    let ledger_synced = synced_on _ _ ledger last (synced_on _ _ ledger third (c.in_ok-sync.ensures.durable first.honest)) in
    let stage_synced = synced_on _ _ stage last (c.in_ok-sync-2.ensures.durable second.honest) in
    let ends = λ (entries : List Entry) (files : Files) (r : Recovers ledger stage entries files mid.seen).
    ends_with old mid ledger stage can work ledger_synced stage_synced (g.met.D.Disk.seen_left c.find_end.new.disk work.honest) entries files r w.pairs c.in-Ok.end.pair c.in-Ok.end.last is (seen_last c.in-Ok.end.last (last_of 16 w.pairs) w.last) w.pair in
    let found = can.images.each old.seen (g.met.D.Disk.seen_left earlier can.honest) in
    let now = (settles_rests old mid ledger stage (λ image left. g.met.D.Disk.only_now earlier image can.honest left) can work).seen found.0 found.1 found.2 in
    c.in-Err-settle_end.ensures.no_fault part p (handed_on _ c.in-Err-settle_end.fault _ fault) c.in-Ok.end.pair found.0 found.1 (ends found.0 found.1 now)

pub returns-in-Err-clause-fault : goal.returns-in-Err-clause-fault
returns-in-Err-clause-fault g c = λ earlier since part p fault tells apart.
    let ledger = c.args.ledger.now in
    let stage = c.args.stage.now in
    let old = g.D.Disk.state earlier in
    let begun = g.D.Disk.state c.args.disk.now in
    let between = g.D.Disk.state c.sync-2.new.self in
    let synced = read_twice old begun (g.D.Disk.state c.sync.new.self) between ledger c.args.known since c.sync.ensures.shows c.sync.ensures.crash c.sync-2.ensures.shows c.sync-2.ensures.crash in
    walk_breaks ledger stage old.seen (old.seen ledger) c.in-Err.fault part p refl
    (c.in-Err.ensures.finds earlier (old.seen ledger) synced (record { tells = tells; seen = refl })) (fault_is c.in-Err.fault part p fault)

pub returns-in-Err-settle_end-clause-fault : goal.returns-in-Err-settle_end-clause-fault
returns-in-Err-settle_end-clause-fault g c = λ earlier since part p fault tells apart.
    let ledger = c.args.ledger.now in
    let stage = c.args.stage.now in
    let old = g.D.Disk.state earlier in
    let begun = g.D.Disk.state c.args.disk.now in
    let between = g.D.Disk.state c.sync-2.new.self in
    let synced = read_twice old begun (g.D.Disk.state c.sync.new.self) between ledger c.args.known since c.sync.ensures.shows c.sync.ensures.crash c.sync-2.ensures.shows c.sync-2.ensures.crash in
    let mid = g.D.Disk.state c.find_end.new.disk in
    let rests = rests_then old between mid synced.rests c.find_end.ensures.rests in
    let shown = rests.shows tells in
    let w = c.in-Ok.ensures.finds earlier (old.seen ledger) synced (record { tells = tells; seen = refl }) in
    let ends = ends_by old mid ledger stage c.in-Ok.end (old.seen ledger) shown.tells shown.seen apart refl w in
    frames_break old mid ledger stage w.pairs c.in-Ok.end.last part p shown.seen ends (c.in-Err-settle_end.ensures.fault part p (handed_on _ c.in-Err-settle_end.fault _ fault) w.pairs ends)

pub returns-in-Ok-settle_end-clause-fits : goal.returns-in-Ok-settle_end-clause-fits
returns-in-Ok-settle_end-clause-fits g c = λ earlier since tells apart.
    let ledger = c.args.ledger.now in
    let stage = c.args.stage.now in
    let old = g.D.Disk.state earlier in
    let begun = g.D.Disk.state c.args.disk.now in
    let between = g.D.Disk.state c.sync-2.new.self in
    let synced = read_twice old begun (g.D.Disk.state c.sync.new.self) between ledger c.args.known since c.sync.ensures.shows c.sync.ensures.crash c.sync-2.ensures.shows c.sync-2.ensures.crash in
    let mid = g.D.Disk.state c.find_end.new.disk in
    let rests = rests_then old between mid synced.rests c.find_end.ensures.rests in
    let shown = rests.shows tells in
    let w = c.in-Ok.ensures.finds earlier (old.seen ledger) synced (record { tells = tells; seen = refl }) in
    let ends = ends_by old mid ledger stage c.in-Ok.end (old.seen ledger) shown.tells shown.seen apart refl w in
    fits_whole old mid ledger stage w.pairs c.in-Ok.end.last shown.seen ends (c.in-Ok-settle_end.ensures.fits w.pairs ends)

pub returns-in-Ok-settle_end-clause-keeps : goal.returns-in-Ok-settle_end-clause-keeps
returns-in-Ok-settle_end-clause-keeps g c = λ earlier since tells apart pairs is.
    let ledger = c.args.ledger.now in
    let stage = c.args.stage.now in
    let old = g.D.Disk.state earlier in
    let begun = g.D.Disk.state c.args.disk.now in
    let between = g.D.Disk.state c.sync-2.new.self in
    let synced = read_twice old begun (g.D.Disk.state c.sync.new.self) between ledger c.args.known since c.sync.ensures.shows c.sync.ensures.crash c.sync-2.ensures.shows c.sync-2.ensures.crash in
    let mid = g.D.Disk.state c.find_end.new.disk in
    let rests = rests_then old between mid synced.rests c.find_end.ensures.rests in
    let shown = rests.shows tells in
    let w = c.in-Ok.ensures.finds earlier (old.seen ledger) synced (record { tells = tells; seen = refl }) in
    let ends = ends_by old mid ledger stage c.in-Ok.end (old.seen ledger) shown.tells shown.seen apart refl w in
    let one = one_ledger (old.seen ledger) w.pairs pairs w.is is in
    subst (HoldsDone ((g.D.Disk.state c.settle_end.new.disk).seen ledger)) one (c.in-Ok-settle_end.ensures.keeps w.pairs ends)

pub returns-in-Ok-settle_end-clause-tells : goal.returns-in-Ok-settle_end-clause-tells
returns-in-Ok-settle_end-clause-tells g c = λ earlier since tells.
    let ledger = c.args.ledger.now in
    let stage = c.args.stage.now in
    let old = g.D.Disk.state earlier in
    let begun = g.D.Disk.state c.args.disk.now in
    let between = g.D.Disk.state c.sync-2.new.self in
    let synced = read_twice old begun (g.D.Disk.state c.sync.new.self) between ledger c.args.known since c.sync.ensures.shows c.sync.ensures.crash c.sync-2.ensures.shows c.sync-2.ensures.crash in
    let mid = g.D.Disk.state c.find_end.new.disk in
    let rests = rests_then old between mid synced.rests c.find_end.ensures.rests in
    c.in-Ok-settle_end.ensures.tells (rests.shows tells).tells

pub returns-in-Ok-settle_end-clause-ends : goal.returns-in-Ok-settle_end-clause-ends
returns-in-Ok-settle_end-clause-ends g c = λ earlier since file holds.
    let ledger = c.args.ledger.now in
    let stage = c.args.stage.now in
    let old = g.D.Disk.state earlier in
    let begun = g.D.Disk.state c.args.disk.now in
    let between = g.D.Disk.state c.sync-2.new.self in
    let synced = read_twice old begun (g.D.Disk.state c.sync.new.self) between ledger c.args.known since c.sync.ensures.shows c.sync.ensures.crash c.sync-2.ensures.shows c.sync-2.ensures.crash in
    c.in-Ok.ensures.finds earlier file synced holds

pub returns-in-Ok-settle_end-clause-rests : goal.returns-in-Ok-settle_end-clause-rests
returns-in-Ok-settle_end-clause-rests g c = λ done.
    let begun = g.D.Disk.state c.args.disk.now in
    let first = g.D.Disk.state c.sync.new.self in
    let between = g.D.Disk.state c.sync-2.new.self in
    let mid = g.D.Disk.state c.find_end.new.disk in
    let synced = rests_then begun first between (rests_made begun first c.sync.ensures.shows c.sync.ensures.crash) (rests_made first between c.sync-2.ensures.shows c.sync-2.ensures.crash) in
    rests_then begun mid _ (rests_then begun between mid synced c.find_end.ensures.rests) (c.settle_end.ensures.rests done)

pub returns-in-Ok-settle_end-clause-low : goal.returns-in-Ok-settle_end-clause-low
returns-in-Ok-settle_end-clause-low g c = c.in-Ok.ensures.low

pub returns-in-Ok-settle_end-clause-bound : goal.returns-in-Ok-settle_end-clause-bound
returns-in-Ok-settle_end-clause-bound g c = c.in-Ok.ensures.low.pair
