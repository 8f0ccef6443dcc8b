-- Reads one after another leave a disk as it is.
use Rattle.std.proofs.Common.{ℕ, List, refl, ◌∙◌}
use Rattle.disk_model.specs.Disk.{DiskState, Nothing, Works, Shows}
use Rattle.disk_model.proofs.DiskSteps.{Works-none, Works-then}
use Rattle.ledger.specs.Reader.{Rests, Holds, CanRead, Position}

pub rests_none : (d : DiskState) → Rests d d
rests_none d = record {
  shows = λ tells. record { tells = tells; seen = λ name. refl };
  crash = λ honest. Works-none Nothing (λ name c. refl) d honest;
}

pub rests_then : (a b c : DiskState) → Rests a b → Rests b c → Rests a c
rests_then a b c f s = record {
  shows = λ tells. let one = f.shows tells in let two = s.shows one.tells in record { tells = two.tells; seen = λ name. two.seen name ∙ one.seen name };
  crash = λ honest. let one = f.crash honest in Works-then Nothing Nothing Nothing (λ name x y z p q. q ∙ p) (λ name x y p. p) a b c one (s.crash one.honest);
}

-- a file stays
pub rests_holds : (a b : DiskState) (name file : List ℕ) → Rests a b → Holds a name file → Holds b name file
rests_holds a b name file rests holds = let one = rests.shows holds.tells in record { tells = one.tells; seen = one.seen name ∙ holds.seen }

-- one call
pub rests_made : (a b : DiskState) → (a.tells → Shows Nothing a b) → (a.honest → Works Nothing a b) → Rests a b
rests_made a b shows crash = record { shows = shows; crash = crash }

-- and a reader reads on
pub can_rests : (a b : DiskState) (name file : List ℕ) (to : ℕ) (r : Position) → Rests a b → CanRead a name file to r → CanRead b name file to r
can_rests a b name file to r rests can = record { holds = rests_holds a b name file rests can.holds; end = can.end; ahead = can.ahead; within = can.within }
