use Rattle.std.proofs.Common.{◌≡◌, ℕ, ◌+◌, subst, sym, arith}
use Rattle.commit.specs.States.{IsSettled}
use Rattle.ledger.specs.Outputs.{HoldsEntry}
use Rattle.commit.proofs.Errors.{handed_on}
use Rattle.commit.proofs.Places.{size_between}
use Rattle.commit.proofs.phases.Commit.finish.Goals as goal

pub returns-in-Ok-clause-any_moment : goal.returns-in-Ok-clause-any_moment
returns-in-Ok-clause-any_moment g c = λ entry entries files is. c.in-Ok.ensures.any_moment entry entries files (size_between _ _ _ _ c.saturating_sub-size.ensures is.1) is.0

pub returns-in-Err-clause-any_moment : goal.returns-in-Err-clause-any_moment
returns-in-Err-clause-any_moment g c = λ entry entries files is. c.in-Err.ensures.any_moment entry entries files (size_between _ _ _ _ c.saturating_sub-size.ensures is.1) is.0

pub returns-in-Ok-clause-done : goal.returns-in-Ok-clause-done
returns-in-Ok-clause-done g c = λ entry entries files is.
    let size = size_between _ _ _ _ c.saturating_sub-size.ensures is.1 in
    let disk = g.D.Disk.state c.finish.new.disk in
    let self = c.args.self.now in
    let behind : self.place + 10 + c.saturating_sub-size.result ≡ self.next = omega (arith, size, is.1) in
    subst (λ (p : ℕ). IsSettled disk self.files.ledger self.files.stage p entries files) behind (c.in-Ok.ensures.done entry entries files size is.0)

pub returns-in-Err-clause-no_fault : goal.returns-in-Err-clause-no_fault
returns-in-Err-clause-no_fault g c = λ part p fault entry entries files is. c.in-Err.ensures.no_fault part p (handed_on _ c.in-Err.fault _ fault) entry entries files (size_between _ _ _ _ c.saturating_sub-size.ensures is.1) is.0

pub returns-in-Ok-clause-lies : goal.returns-in-Ok-clause-lies
returns-in-Ok-clause-lies g c = λ entry entries files is. c.in-Ok.ensures.lies entry entries files (size_between _ _ _ _ c.saturating_sub-size.ensures is.1) is.0

pub returns-in-Err-clause-lies : goal.returns-in-Err-clause-lies
returns-in-Err-clause-lies g c = λ entry entries files is. c.in-Err.ensures.lies entry entries files (size_between _ _ _ _ c.saturating_sub-size.ensures is.1) is.0

pub returns-in-Ok-clause-fit : goal.returns-in-Ok-clause-fit
returns-in-Ok-clause-fit g c = λ entry shows apart.
    let size = size_between _ _ _ _ c.saturating_sub-size.ensures shows.1 in
    let self = c.args.self.now in
    let behind : self.next ≡ self.place + 10 + c.saturating_sub-size.result = omega (arith, size, shows.1) in
    c.in-Ok.ensures.fit entry (subst (λ (to : ℕ). HoldsEntry (g.D.Disk.state self.disk.now) self.files.ledger (self.place + 10) to entry) behind shows.0) apart

pub returns-in-Err-clause-fault : goal.returns-in-Err-clause-fault
returns-in-Err-clause-fault g c = λ part p fault entry shows apart.
    let size = size_between _ _ _ _ c.saturating_sub-size.ensures shows.1 in
    let self = c.args.self.now in
    let behind : self.next ≡ self.place + 10 + c.saturating_sub-size.result = omega (arith, size, shows.1) in
    c.in-Err.ensures.fault part p (handed_on _ c.in-Err.fault _ fault) entry (subst (λ (to : ℕ). HoldsEntry (g.D.Disk.state self.disk.now) self.files.ledger (self.place + 10) to entry) behind shows.0) apart
