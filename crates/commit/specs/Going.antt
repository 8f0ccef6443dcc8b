-- What a commit lets stand while it stages, over no calls and over some and others.
use Rattle.std.specs.Prelude.{◌≡◌, ℕ, List}
use Rattle.std.proofs.Common.{refl, ◌∙◌, ap, subst}
use Rattle.disk_model.specs.Disk.{DiskState, Works, Shows, At}
use Rattle.disk_model.proofs.DiskSteps.{Works-none, Works-more, At-joins}
use Rattle.disk_changes.specs.Changes.{Anything}
use Rattle.commit.specs.declared.phases.CommitFiles.{CommitFiles}
use Rattle.commit.specs.declared.phases.Commit.{Commit}
use Rattle.commit.specs.Phases.{disk_of, stage_of, Goes}

pub goes_nowhere : {D : Type 0} → (state : D → DiskState) → (c : Commit D) → Goes state c c
goes_nowhere state c = record {
  same = record { same_reference = refl; files = refl };
  place = refl;
  next = refl;
  works = λ honest. Works-none (At (stage_of c) Anything) (λ name bytes. record { here = λ e. tt; elsewhere = λ off. refl }) (disk_of state c) honest;
  shows = λ tells. record { tells = tells; seen = λ name. record { here = λ e. tt; elsewhere = λ off. refl } };
}

any_on : (stage : List ℕ) (a b c : DiskState) → Works (At stage Anything) a b → Works (At stage Anything) b c → Works (At stage Anything) a c
any_on stage a b c f s = Works-more (At stage Anything) (At-joins stage Anything (λ x y z p q. tt)) a b c f s

pub goes_on : {D : Type 0} → (state : D → DiskState) → (a b c : Commit D) → Goes state a b → Goes state b c → Goes state a c
goes_on state a b c f s =
    let stage : stage_of b ≡ stage_of a = ap (λ (files : CommitFiles). files.stage) f.same.files in
    record {
      same = record { same_reference = s.same.same_reference ∙ f.same.same_reference; files = s.same.files ∙ f.same.files };
      place = s.place ∙ f.place;
      next = s.next ∙ f.next;
      works = λ honest. let first = f.works honest in any_on (stage_of a) (disk_of state a) (disk_of state b) (disk_of state c) first
          (subst (λ (n : List ℕ). Works (At n Anything) (disk_of state b) (disk_of state c)) stage (s.works first.honest));
      shows = λ tells. let first = f.shows tells in let second = subst (λ (n : List ℕ). Shows (At n Anything) (disk_of state b) (disk_of state c)) stage (s.shows first.tells) in
          record { tells = second.tells; seen = λ name. record { here = λ e. tt; elsewhere = λ off. (second.seen name).elsewhere off ∙ (first.seen name).elsewhere off } };
    }
