-- Pairs that were walked over, one after another.
use Rattle.std.proofs.Common.{◌≡◌, ◌≢◌, ◌==◌, inl, inr, ℕ, Bool, true, false, not, Decides, ◌+◌, ◌<◌, ◌≤◌, List, [], ◌∷◌, ◌++◌, length, take, drop, get_or, flat_map, Some, None, refl, sym, ◌∙◌, ap, subst, append_assoc, arith}
use Rattle.std.specs.Option.{option_map}
use Rattle.std.specs.List.{AllByRecursion}
use Rattle.std.proofs.lemmas.List.{length-append, length-drop, append-nil, take-append-drop}
use Rattle.std.proofs.Math.Seq.{take-append_seam, drop-append_seam}
use Rattle.std.specs.Cmp.Lexicographic.{pointwise}
use Rattle.std.proofs.lemmas.Bool.Decides.{Decides-eqb}
use Rattle.std.proofs.lemmas.Slice.Eq.{slice_eq-Decides}
use Rattle.std.specs.Prelude.{nat_eq}
use Rattle.ledger_model.specs.Numbers.{u64_bytes}
use Rattle.ledger_model.specs.Grammar.{payload_of}
use Rattle.ledger_model.specs.Ledgers.{Pair, IsPair, mark, spelled_pair, front_of, IsClosed, Last, last_of}
use Rattle.ledger_model.proofs.Fields.{u64_length}
use Rattle.ledger.specs.declared.refused.LedgerRefused.{LedgerRefused}
use Rattle.ledger.specs.declared.refused.LedgerRefused.TheVariants.{DiskFault, LedgerFault}
use Rattle.ledger.specs.declared.refused.Part2.TheVariants.{Ledger}
use Rattle.ledger.specs.declared.walking.LastEntry.{LastEntry}
use Rattle.ledger.specs.declared.walking.End.{End}
use Rattle.ledger.specs.Reader.{Stood, RefusedShort, left_of}
use Rattle.ledger.specs.Walking.{last_entry, WalkedPair, RefusedPair, IsEnd, RefusedLedger, WalkedBody, RefusedBody, SomePairs}
use Rattle.ledger.proofs.Payloads.{to_end}

two_bytes : (bytes : List ℕ) → length bytes ≡ 2 → bytes ≡ get_or bytes 0 0 ∷ (get_or bytes 1 0 ∷ [])
two_bytes [] e = absurd (omega (arith, e))
two_bytes (a ∷ []) e = absurd (omega (arith, e))
two_bytes (a ∷ b ∷ []) e = refl
two_bytes (a ∷ b ∷ d ∷ bytes) e = absurd (omega (arith, e))

-- a pair that was taken
pub pair_front : (file : List ℕ) (size place at : ℕ) (bytes : List ℕ) → size ≡ length file → Stood file size place at bytes → length bytes ≡ 2 → drop place file ≡ get_or bytes 0 0 ∷ (get_or bytes 1 0 ∷ drop (place + 2) file)
pair_front file size place at bytes is stood two =
    let next : at ≡ place + 2 = omega (arith, stood.moved, two) in
    sym (to_end file size place is) ∙ stood.split ∙ ap (λ (t : List ℕ). t ++ left_of file size at) (two_bytes bytes two)
    ∙ ap (λ (t : List ℕ). get_or bytes 0 0 ∷ (get_or bytes 1 0 ∷ t)) (to_end file size at is ∙ ap (λ (k : ℕ). drop k file) next)

-- it isn't there
pub pair_short : (file : List ℕ) (size place : ℕ) (refused : LedgerRefused) → size ≡ length file → place + 2 ≤ size → RefusedShort file size place 2 refused → RefusedPair (drop place file) place refused
pair_short file size place DiskFault is within short = tt
pair_short file size place (LedgerFault part at) is within short = absurd (omega (arith, short.2, ap length (to_end file size place is), length-drop place file, is, within))

-- its gate is closed
pub pair_closed : (file : List ℕ) (place gate done : ℕ) (rest : List ℕ) → drop place file ≡ gate ∷ (done ∷ rest) → gate ≢ 165 → IsClosed (drop place file)
pair_closed file place gate done rest e closed = subst (λ (t : List ℕ). IsClosed t) (sym e) (closed, omega arith)

-- its body breaks
pub pair_broken : (file : List ℕ) (place gate done : ℕ) (refused : LedgerRefused) → drop place file ≡ gate ∷ (done ∷ drop (place + 2) file) → gate ≡ 165 → RefusedBody (drop (place + 2) file) (place + 2) refused → RefusedPair (drop place file) place refused
pair_broken file place gate done DiskFault e is_open broken = tt
pair_broken file place gate done (LedgerFault part at) e is_open broken = (
  broken.0,
  record {
    done = done;
    body = drop (place + 2) file;
    split = e ∙ ap (λ (n : ℕ). n ∷ (done ∷ drop (place + 2) file)) is_open;
    later = broken.1.0;
    breaks = broken.1.2;
    at_is = omega (arith, broken.1.1);
  },
)

-- or it stands there
pub pair_walked : (file : List ℕ) (place gate done n : ℕ) (found : LastEntry) → drop place file ≡ gate ∷ (done ∷ drop (place + 2) file) → gate ≡ 165 → WalkedBody (drop (place + 2) file) n
    → found ≡ record { pair = place; payload = place + 10; length = n; done = done == 90 } → WalkedPair (drop place file) place found
pair_walked file place gate done n found e is_open body is = record {
  pair = record { done = done; entry = body.entry };
  is = record { entry = body.is; size = omega (arith, body.size_is, body.low) };
  rest = body.rest;
  more = body.more;
  split = e ∙ ap (λ (k : ℕ). k ∷ (done ∷ drop (place + 2) file)) is_open ∙ ap (λ (t : List ℕ). 165 ∷ (done ∷ t)) body.split;
  found_is = is ∙ ap (λ (k : ℕ). let last : LastEntry = record { pair = place; payload = place + 10; length = k; done = done == 90 } in last) body.size_is;
}

all_snoc : {A : Type 0} (P : A → Type 0) (xs : List A) (x : A) → AllByRecursion P xs → P x → AllByRecursion P (xs ++ x ∷ [])
all_snoc P [] x f p = (p, tt)
all_snoc P (y ∷ ys) x f p = (f.0, all_snoc P ys x f.1 p)

flat_snoc : (pairs : List Pair) (p : Pair) → flat_map spelled_pair (pairs ++ p ∷ []) ≡ flat_map spelled_pair pairs ++ spelled_pair p
flat_snoc [] p = append-nil (spelled_pair p)
flat_snoc (q ∷ qs) p = ap (λ (t : List ℕ). spelled_pair q ++ t) (flat_snoc qs p) ∙ sym (append_assoc (spelled_pair q) (flat_map spelled_pair qs) (spelled_pair p))

front_snoc : (pairs : List Pair) (p : Pair) → front_of (pairs ++ p ∷ []) ≡ front_of pairs ++ spelled_pair p
front_snoc pairs p = ap (λ (t : List ℕ). mark ++ t) (flat_snoc pairs p) ∙ sym (append_assoc mark (flat_map spelled_pair pairs) (spelled_pair p))

pub pair_length : (p : Pair) → length (spelled_pair p) ≡ 10 + length (payload_of p.entry)
pair_length p = omega (arith, length-append (u64_bytes (length (payload_of p.entry))) (payload_of p.entry), u64_length (length (payload_of p.entry)))

-- the last pair, at a place
abbrev last_at : ℕ → Pair → Last
last_at place p = record { pair = place; payload = place + 10; size = length (payload_of p.entry); done = p.done == 90 }

last_snoc : (place : ℕ) (pairs : List Pair) (p : Pair) → last_of place (pairs ++ p ∷ []) ≡ Some (last_at (place + length (flat_map spelled_pair pairs)) p)
last_snoc place [] p = ap (λ (n : ℕ). Some (last_at n p)) (let e : place ≡ place + 0 = omega arith in e)
last_snoc place (q ∷ []) p = ap (λ (n : ℕ). Some (last_at n p)) (let e : place + length (spelled_pair q) ≡ place + length (spelled_pair q ++ []) = omega (arith, length-append (spelled_pair q) []) in e)
last_snoc place (q ∷ r ∷ rs) p = last_snoc (place + length (spelled_pair q)) (r ∷ rs) p
    ∙ ap (λ (n : ℕ). Some (last_at n p)) (let e : place + length (spelled_pair q) + length (flat_map spelled_pair (r ∷ rs)) ≡ place + length (spelled_pair q ++ flat_map spelled_pair (r ∷ rs)) = omega (arith, length-append (spelled_pair q) (flat_map spelled_pair (r ∷ rs))) in e)

-- no pair yet
pub pairs_none : (file : List ℕ) → take 16 file ≡ mark → SomePairs file (record { entries = 0; last = None; pair = 16 })
pairs_none file marked = record {
  pairs = [];
  fit = tt;
  split = sym (take-append-drop 16 file) ∙ ap (λ (t : List ℕ). t ++ drop 16 file) marked;
  entries = refl;
  pair = refl;
  last = refl;
}

-- one pair more
pub pairs_more : (file : List ℕ) (end : End) (some : SomePairs file end) (found : LastEntry) → WalkedPair (drop end.pair file) end.pair found → SomePairs file (record { entries = end.entries + 1; last = Some found; pair = found.payload + found.length })
pairs_more file end some found walked =
    let p : Pair = walked.pair in
    let size : length (front_of (some.pairs ++ p ∷ [])) ≡ length (front_of some.pairs) + 10 + length (payload_of p.entry) = omega (arith, ap length (front_snoc some.pairs p), length-append (front_of some.pairs) (spelled_pair p), pair_length p) in
    let next : found.payload + found.length ≡ length (front_of (some.pairs ++ p ∷ [])) = omega (arith, size, some.pair, ap (λ (f : LastEntry). f.payload) walked.found_is, ap (λ (f : LastEntry). f.length) walked.found_is) in
    let whole : file ≡ front_of (some.pairs ++ p ∷ []) ++ walked.rest = some.split ∙ ap (λ (t : List ℕ). front_of some.pairs ++ t) walked.split ∙ sym (append_assoc (front_of some.pairs) (spelled_pair p) walked.rest) ∙ ap (λ (t : List ℕ). t ++ walked.rest) (sym (front_snoc some.pairs p)) in
    let rest : drop (found.payload + found.length) file ≡ walked.rest = ap (λ (n : ℕ). drop n file) next ∙ ap (drop (length (front_of (some.pairs ++ p ∷ [])))) whole ∙ drop-append_seam (front_of (some.pairs ++ p ∷ [])) walked.rest in
    let here : end.pair ≡ 16 + length (flat_map spelled_pair some.pairs) = omega (arith, some.pair, length-append mark (flat_map spelled_pair some.pairs)) in
    record {
      pairs = some.pairs ++ p ∷ [];
      fit = all_snoc IsPair some.pairs p some.fit walked.is;
      split = whole ∙ ap (λ (t : List ℕ). front_of (some.pairs ++ p ∷ []) ++ t) (sym rest);
      entries = omega (arith, some.entries, length-append some.pairs (p ∷ []));
      pair = next;
      last = ap Some walked.found_is ∙ ap (λ (n : ℕ). Some (last_entry (last_at n p))) here ∙ ap (option_map last_entry) (sym (last_snoc 16 some.pairs p));
    }

-- behind them a gate is closed
pub pairs_end : (file : List ℕ) (end : End) → 18 < length file → SomePairs file end → IsClosed (drop end.pair file) → IsEnd file end
pairs_end file end long some closed = record {
  pairs = some.pairs;
  is = inr (record { long = long; fit = some.fit; rest = drop end.pair file; split = some.split; closed = closed });
  entries = some.entries;
  pair = some.pair;
  last = some.last;
}

-- or one is open, and its body breaks
pub pairs_broken : (file : List ℕ) (end : End) (refused : LedgerRefused) → 18 < length file → SomePairs file end → RefusedPair (drop end.pair file) end.pair refused → RefusedLedger file refused
pairs_broken file end DiskFault long some broken = tt
pairs_broken file end (LedgerFault part at) long some broken = (
  broken.0,
  (
    long,
    inr (record {
      pairs = some.pairs;
      fit = some.fit;
      done = broken.1.done;
      body = broken.1.body;
      split = some.split ∙ ap (λ (t : List ℕ). front_of some.pairs ++ t) broken.1.split;
      later = broken.1.later;
      breaks = broken.1.breaks;
      place_is = omega (arith, broken.1.at_is, some.pair);
    }),
  ),
)

-- the mark in front
pub mark_read : (file : List ℕ) (size at : ℕ) (bytes : List ℕ) → size ≡ length file → Stood file size 0 at bytes → length bytes ≡ 16 → take 16 file ≡ bytes
mark_read file size at bytes is stood sixteen =
    let front : file ≡ bytes ++ left_of file size at = sym (to_end file size 0 is) ∙ stood.split in
    ap (take 16) front ∙ subst (λ (k : ℕ). take k (bytes ++ left_of file size at) ≡ bytes) sixteen (take-append_seam bytes (left_of file size at))

pub mark_short : (file : List ℕ) (size : ℕ) (refused : LedgerRefused) → size ≡ length file → 18 < size → RefusedShort file size 0 16 refused → RefusedLedger file refused
mark_short file size DiskFault is long short = tt
mark_short file size (LedgerFault part at) is long short = absurd (omega (arith, short.2, ap length (to_end file size 0 is), is, long))

pub mark_other : (file bytes : List ℕ) (refused : LedgerRefused) → 18 < length file → take 16 file ≡ bytes → bytes ≢ mark → refused ≡ LedgerFault Ledger 0 → RefusedLedger file refused
mark_other file bytes refused long front other is = subst (λ (r : LedgerRefused). RefusedLedger file r) (sym is) (refl, (long, inl (refl, λ e. other (sym front ∙ e))))

-- a ledger of at most 18 bytes
pub short_end : (file : List ℕ) → length file ≤ 18 → IsEnd file (record { entries = 0; last = None; pair = 16 })
short_end file short = record { pairs = []; is = inl (short, refl); entries = refl; pair = refl; last = refl }

apart_tested : (P : Type 0) (b r : Bool) → Decides b P → r ≡ not b → r ≡ true → P → ⊥
apart_tested P true r decides is yes_is p = cc
apart_tested P false r decides is yes_is p = let same : false ≡ true = decides.1 p in cc

same_tested : (P : Type 0) (b r : Bool) → Decides b P → r ≡ not b → r ≡ false → P
same_tested P true r decides is no_is = decides.0 refl
same_tested P false r decides is no_is = let none : ⊥ = cc in absurd none

-- lists that were compared by `!=`
pub lists_apart : (xs ys : List ℕ) (r : Bool) → r ≡ not (pointwise nat_eq xs ys) → r ≡ true → xs ≢ ys
lists_apart xs ys r is yes_is = apart_tested (xs ≡ ys) (pointwise nat_eq xs ys) r (slice_eq-Decides Decides-eqb xs ys (pointwise nat_eq xs ys) refl) is yes_is

pub lists_same : (xs ys : List ℕ) (r : Bool) → r ≡ not (pointwise nat_eq xs ys) → r ≡ false → xs ≡ ys
lists_same xs ys r is no_is = same_tested (xs ≡ ys) (pointwise nat_eq xs ys) r (slice_eq-Decides Decides-eqb xs ys (pointwise nat_eq xs ys) refl) is no_is
