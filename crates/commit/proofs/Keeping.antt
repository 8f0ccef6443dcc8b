-- A ledger's entries stay while it is settled.
use Rattle.std.proofs.Common.{◌≡◌, inl, inr, ⊎_elim, ℕ, ◌+◌, ◌≤◌, List, [], ◌∷◌, ◌++◌, length, map, flat_map, Option, Some, None, true, length-append, refl, sym, ◌∙◌, ap, subst, arith}
use Rattle.std.proofs.lemmas.List.{map-append}
use Rattle.disk_model.specs.Disk.{overwritten}
use Rattle.ledger_model.specs.Entries.{Entry}
use Rattle.ledger_model.specs.Ledgers.{Pair, HasPairs, IsLedger, body_of, spelled_pair, front_of, mark, last_of}
use Rattle.ledger.specs.declared.walking.LastEntry.{LastEntry}
use Rattle.commit.specs.States.{LastIsDone}
use Rattle.commit.specs.Walking.{last_seen}
use Rattle.commit.specs.Keeping.{HoldsDone}
use Rattle.commit.proofs.DoneBytes.{at_done}
use Rattle.commit.proofs.GateOpening.{done_last}
use Rattle.commit.proofs.Gates.{byte_written}
use Rattle.commit.proofs.Opening.{front_last, pairs_last}
use Rattle.commit.proofs.Resuming.{last_pair, no_pair, with_pairs, fit_of_last, is_ninety}

-- the start of a ledger holds what a short one holds
pub short_kept : (old new : List ℕ) (pairs : List Pair) → length old ≤ 18 → new ≡ mark ++ 0 ∷ 0 ∷ [] → IsLedger old pairs → IsLedger new pairs
short_kept old new pairs short made is =
    let size : length new ≡ 18 = ap length made in
    ⊎_elim (λ none. inl (omega (arith, size), none.1)) (λ (has : HasPairs old pairs). absurd (omega (arith, short, has.long))) is

-- there is no entry
pub none_done : (bytes : List ℕ) (pairs : List Pair) (last : Option LastEntry) → IsLedger bytes pairs → last_seen last ≡ last_of 16 pairs → last ≡ None → HoldsDone bytes pairs
none_done bytes pairs last is last_is none = record {
  pairs = pairs;
  is = is;
  same = refl;
  finished = subst (λ (ps : List Pair). LastIsDone ps) (sym (no_pair 16 pairs (sym last_is ∙ ap last_seen none))) tt;
}

-- the last one is done
pub already_done : (bytes : List ℕ) (pairs : List Pair) (given : Option LastEntry) (last : LastEntry) → IsLedger bytes pairs → last_seen given ≡ last_of 16 pairs → given ≡ Some last → last.done ≡ true → HoldsDone bytes pairs
already_done bytes pairs given last is last_is some done =
    let l = last_pair 16 pairs (record { pair = last.pair; payload = last.payload; size = last.length; done = last.done }) (sym last_is ∙ ap last_seen some) in
    record {
      pairs = pairs;
      is = is;
      same = refl;
      finished = subst (λ (ps : List Pair). LastIsDone ps) (sym l.split) (done_last l.earlier l.pair (is_ninety l.pair.done (sym done ∙ l.done_is)));
    }

-- its done byte is written
pub byte_done : (old new : List ℕ) (pairs : List Pair) (given : Option LastEntry) (last : LastEntry) → IsLedger old pairs → last_seen given ≡ last_of 16 pairs → given ≡ Some last → new ≡ overwritten old (last.pair + 1) (90 ∷ []) → HoldsDone new pairs
byte_done old new pairs given last is last_is some wrote =
    let l = last_pair 16 pairs (record { pair = last.pair; payload = last.payload; size = last.length; done = last.done }) (sym last_is ∙ ap last_seen some) in
    let has : HasPairs old (l.earlier ++ l.pair ∷ []) = with_pairs old l.earlier l.pair (subst (IsLedger old) l.split is) in
    let fit = fit_of_last l.earlier l.pair has.fit in
    let pair : Pair = record { done = 90; entry = l.pair.entry } in
    let split : old ≡ (front_of l.earlier ++ 165 ∷ []) ++ l.pair.done ∷ (body_of l.pair.entry ++ has.rest) =
    has.split ∙ ap (λ (t : List ℕ). t ++ has.rest) (front_last l.earlier l.pair) ∙ at_done (front_of l.earlier) (body_of l.pair.entry) has.rest l.pair.done in
    let place : last.pair + 1 ≡ length (front_of l.earlier ++ 165 ∷ []) = omega (arith, l.place_is, length-append mark (flat_map spelled_pair l.earlier), length-append (front_of l.earlier) (165 ∷ []), sixteen) in
    let shown : new ≡ front_of l.earlier ++ spelled_pair pair ++ has.rest =
    wrote ∙ byte_written (front_of l.earlier ++ 165 ∷ []) (body_of l.pair.entry ++ has.rest) l.pair.done 90 (last.pair + 1) old split place ∙ sym (at_done (front_of l.earlier) (body_of l.pair.entry) has.rest 90) in
    let entry : Pair → Entry = λ pair. pair.entry in
    let after : map entry (l.earlier ++ pair ∷ []) ≡ map entry l.earlier ++ l.pair.entry ∷ [] = map-append entry l.earlier (pair ∷ []) in
    let before : map entry (l.earlier ++ l.pair ∷ []) ≡ map entry l.earlier ++ l.pair.entry ∷ [] = map-append entry l.earlier (l.pair ∷ []) in
    record {
      pairs = l.earlier ++ pair ∷ [];
      is = inr (pairs_last l.earlier pair has.rest new fit.0 (record { entry = fit.1.entry; size = fit.1.size }) shown has.closed);
      same = after ∙ sym before ∙ ap (map entry) (sym l.split);
      finished = done_last l.earlier pair refl;
    }
  where
    sixteen : length mark ≡ 16
    sixteen = refl
