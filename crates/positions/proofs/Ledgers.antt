-- The pairs of a ledger, from the place of the first one on.
use Rattle.std.proofs.Common.{◌≡◌, ⊎_elim, ℕ, ◌+◌, ◌-◌, ◌<◌, ◌^◌, min, List, [], ◌∷◌, ◌++◌, length, take, drop, flat_map, refl, sym, ◌∙◌, ap, subst, append_assoc, arith, Result, Ok, Err}
use Rattle.std.specs.Result.{MatchResult}
use Rattle.std.specs.List.{AllByRecursion}
use Rattle.std.proofs.lemmas.List.{length-append, length-take, nil_from_length}
use Rattle.std.proofs.Math.Seq.{drop-append_seam, take-append_seam}
use Rattle.disk_model.specs.Disk.{DiskState}
use Rattle.ledger_model.specs.Grammar.{payload_of}
use Rattle.ledger_model.specs.Ledgers.{Pair, IsPair, IsLedger, spelled_pair, body_of, front_of, mark}
use Rattle.ledger_model.specs.Numbers.{u64_bytes}
use Rattle.ledger_model.proofs.Reading.{body_split}
use Rattle.ledger.specs.declared.refused.LedgerRefused.{LedgerRefused}
use Rattle.ledger.specs.declared.refused.LedgerRefused.TheVariants as Refused
use Rattle.ledger.specs.Reader.{Position, Holds, left_of}
use Rattle.ledger.specs.Walking.{RefusedLedger}
use Rattle.positions.specs.declared.fault.LoadFault.{LoadFault}
use Rattle.positions.specs.declared.fault.LoadFault.TheVariants.{DiskFault, LedgerFault, Memory}
use Rattle.positions.specs.Faults.{of_ledger, IsNoFault}
use Rattle.positions.specs.Stands.{Stands}
use Rattle.positions.specs.Loads.{RefusedLoad}
use Rattle.positions.proofs.Skips.{left_skip}

empty_left : (file : List ℕ) (to : ℕ) → to ≡ 16 → left_of file to 16 ≡ []
empty_left file to is = nil_from_length (left_of file to 16) (omega (arith, length-take (to - 16) (drop 16 file), is))

front_left : (file flat rest : List ℕ) (to : ℕ) → file ≡ (mark ++ flat) ++ rest → to ≡ 16 + length flat → left_of file to 16 ≡ flat
front_left file flat rest to split is =
    let room : to - 16 ≡ length flat = omega (arith, is) in
    let behind : drop 16 file ≡ flat ++ rest = ap (drop 16) (split ∙ append_assoc mark flat rest) ∙ drop-append_seam mark (flat ++ rest) in
    ap (λ (n : ℕ). take n (drop 16 file)) room ∙ ap (take (length flat)) behind ∙ take-append_seam flat rest

pub ledger_left : (file : List ℕ) (pairs : List Pair) (to : ℕ) → IsLedger file pairs → to ≡ length (front_of pairs) → left_of file to 16 ≡ flat_map spelled_pair pairs
ledger_left file pairs to is end = ⊎_elim
    (λ short. empty_left file to (end ∙ ap (λ (ps : List Pair). length (front_of ps)) short.1) ∙ sym (ap (λ (ps : List Pair). flat_map spelled_pair ps) short.1))
    (λ has. front_left file (flat_map spelled_pair pairs) has.rest to has.split (end ∙ length-append mark (flat_map spelled_pair pairs)))
    is

pub ledger_fits : (file : List ℕ) (pairs : List Pair) → IsLedger file pairs → AllByRecursion IsPair pairs
ledger_fits file pairs is = ⊎_elim (λ short. subst (λ (ps : List Pair). AllByRecursion IsPair ps) (sym short.1) tt) (λ has. has.fit) is

-- a reader of a body, at its start
pub body_stands : (disk : DiskState) (name file : List ℕ) (to place : ℕ) (r : Position) (pair : Pair) (more : List ℕ) → Holds disk name file → left_of file to place ≡ spelled_pair pair ++ more → to < 2 ^ 64 → r.at ≡ min (place + 2) (2 ^ 64 - 1) → r.to ≡ to → r.ahead ≡ []
    → Stands disk name to r (u64_bytes (length (payload_of pair.entry)) ++ (payload_of pair.entry ++ more))
body_stands disk name file to place r pair more holds left low at end ahead = record {
  file = file;
  can = record {
    holds = holds;
    end = end;
    ahead = ahead ∙ sym (ap (λ (l : List ℕ). take (length l) (drop r.at file)) ahead);
    within = omega (arith, ap length ahead);
  };
  left = left_skip file to place 2 r.at (165 ∷ (pair.done ∷ [])) (body_of pair.entry ++ more) left refl low at ∙ body_split pair.entry more;
}

-- what stands behind a payload, in the file that is known
pub behind_payload : (disk : DiskState) (name file : List ℕ) (to next size : ℕ) (r : Position) (payload more : List ℕ) → Holds disk name file → Stands disk name to r (payload ++ more) → size ≡ length payload → to < 2 ^ 64 → next ≡ min (r.at + size) (2 ^ 64 - 1) → left_of file to next ≡ more
behind_payload disk name file to next size r payload more holds stands is low at =
    let same : stands.file ≡ file = sym stands.can.holds.seen ∙ holds.seen in
    let left : left_of file to r.at ≡ payload ++ more = subst (λ (f : List ℕ). left_of f to r.at ≡ payload ++ more) same stands.left in
    left_skip file to r.at size next payload more left (sym is) low at

-- a weaker fact of what is answered
pub match_weaker : {U E : Type 0} (P Q : U → Type 0) (R : E → Type 0) → ((x : U) → P x → Q x) → (r : Result U E) → MatchResult r P R → MatchResult r Q R
match_weaker P Q R f (Ok x) p = f x p
match_weaker P Q R f (Err e) q = q

pub refused_walk : (file : List ℕ) (refused : LedgerRefused) → RefusedLedger file refused → RefusedLoad file (of_ledger refused)
refused_walk file Refused.DiskFault is = tt
refused_walk file (Refused.LedgerFault part at) is = is

pub refused_taking : (file : List ℕ) (pairs : List Pair) (fault : LoadFault) → IsLedger file pairs → IsNoFault fault → RefusedLoad file fault
refused_taking file pairs DiskFault fits is = tt
refused_taking file pairs (LedgerFault part at) fits is = absurd is
refused_taking file pairs Memory fits is = (pairs, fits)
