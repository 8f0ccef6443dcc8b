-- Spans, and where they left their logs.
use Rattle.std.proofs.Common.{◌≡◌, ℕ, suc, ◌+◌, ◌<◌, true, List, [], ◌∷◌, ◌++◌, length, take, get_or, map, Option, Some, None, Result, Ok, Err, refl, sym, ◌∙◌, ap, subst, append_assoc, arith}
use Rattle.std.specs.Prelude.{is_some, IsSome}
use Rattle.std.specs.Result.{OnOk, OnErr}
use Rattle.std.specs.List.{AllZip, AllByRecursion}
use Rattle.std.proofs.Math.Seq.{take-suc}
use Rattle.std.proofs.lemmas.Bool.{false≢true}
use Rattle.std.proofs.lemmas.List.{append-nil, map-append}
use Rattle.ledger_model.specs.Entries.{Span}
use Rattle.ledger.specs.declared.entry.EntrySpan.{EntrySpan}
use Rattle.ledger.specs.Written.{span_of}
use Rattle.positions.specs.declared.place.Place.{Place}
use Rattle.positions.specs.declared.place.Left.{Left}
use Rattle.positions.specs.Places.{Places, last_of, first_of, IsPlaceOf, Puts, Remembers}
use Rattle.positions.specs.Loads.{AreSpans}
use Rattle.positions.specs.Advances.{HasRoom, KeepsRoom, HaveRoom, LeftsHaveRoom, IsLeftBy, AreSame, new_input, kept_with}
use Rattle.positions.proofs.Puts.{found_in}
use Rattle.positions.proofs.Lasts.{remembers_more}

-- an error that can't be
pub ok_or : {T E : Type 0} (P Q : Type 0) (r : Result T E) → OnOk r P → OnErr r Q → (Q → ⊥) → P
ok_or P Q (Ok x) p q none = p
ok_or P Q (Err e) p q none = absurd (none q)

some_none : (o : Option (Option Place)) → IsSome o → o ≡ None → ⊥
some_none o is none = false≢true (subst (λ (p : Option (Option Place)). is_some p ≡ true) none is)

pub not_absent : (places : Places) (identity : List ℕ) → HasRoom places identity → found_in places identity ≡ None → ⊥
not_absent places identity has none = some_none (found_in places identity) has none

all_snoc : {X : Type 0} (P : X → Type 0) (xs : List X) (x : X) → AllByRecursion P xs → P x → AllByRecursion P (xs ++ x ∷ [])
all_snoc P [] x all is = (is, tt)
all_snoc P (y ∷ xs) x all is = (all.0, all_snoc P xs x all.1 is)

all_weaker : {X : Type 0} (P Q : X → Type 0) → ((x : X) → P x → Q x) → (xs : List X) → AllByRecursion P xs → AllByRecursion Q xs
all_weaker P Q f [] all = tt
all_weaker P Q f (x ∷ xs) all = (f x all.0, all_weaker P Q f xs all.1)

zip_snoc : {A B : Type 0} (R : A → B → Type 0) (xs : List A) (ys : List B) (x : A) (y : B) → AllZip R xs ys → R x y → AllZip R (xs ++ x ∷ []) (ys ++ y ∷ [])
zip_snoc R [] [] x y zip is = (is, tt)
zip_snoc R [] (b ∷ ys) x y zip is = absurd zip
zip_snoc R (a ∷ xs) [] x y zip is = absurd zip
zip_snoc R (a ∷ xs) (b ∷ ys) x y zip is = (zip.0, zip_snoc R xs ys x y zip.1 is)

-- the spans so far, with the next one
spans_more : (items : List EntrySpan) (i : ℕ) (x : EntrySpan) → i < length items → x ≡ get_or items i x → map span_of (take (i + 1) items) ≡ map span_of (take i items) ++ span_of x ∷ []
spans_more items i x less is =
    let next : i + 1 ≡ suc i = omega arith in
    ap (λ (n : ℕ). map span_of (take n items)) next ∙ ap (map span_of) (take-suc items i x less) ∙ map-append span_of (take i items) (get_or items i x ∷ []) ∙ ap (λ (y : EntrySpan). map span_of (take i items) ++ span_of y ∷ []) (sym is)

pub rooms_more : (items : List EntrySpan) (i : ℕ) (x : EntrySpan) (old new : Places) → i < length items → x ≡ get_or items i x → KeepsRoom old new → HasRoom new x.identity → HaveRoom old (map span_of (take i items)) → HaveRoom new (map span_of (take (i + 1) items))
rooms_more items i x old new less is keeps has rooms = subst (λ (l : List Span). HaveRoom new l) (sym (spans_more items i x less is))
    (all_snoc (λ (s : Span). HasRoom new s.identity) (map span_of (take i items)) (span_of x) (all_weaker (λ (s : Span). HasRoom old s.identity) (λ (s : Span). HasRoom new s.identity) (λ s. keeps s.identity) (map span_of (take i items)) rooms) has)

pub lefts_more : (items : List EntrySpan) (i : ℕ) (x : EntrySpan) (lefts : List Left) (left : Left) → i < length items → x ≡ get_or items i x → AllZip IsLeftBy (map span_of (take i items)) lefts → IsLeftBy (span_of x) left → AllZip IsLeftBy (map span_of (take (i + 1) items)) (lefts ++ left ∷ [])
lefts_more items i x lefts left less is zip by = subst (λ (l : List Span). AllZip IsLeftBy l (lefts ++ left ∷ [])) (sym (spans_more items i x less is)) (zip_snoc IsLeftBy (map span_of (take i items)) lefts (span_of x) left zip by)

-- where there is room for the logs of spans, there is for those of their places
pub lefts_room : (spans : List Span) (lefts : List Left) (places : Places) → AllZip IsLeftBy spans lefts → HaveRoom places spans → LeftsHaveRoom places lefts
lefts_room [] [] places zip rooms = tt
lefts_room [] (left ∷ lefts) places zip rooms = absurd zip
lefts_room (span ∷ spans) [] places zip rooms = absurd zip
lefts_room (span ∷ spans) (left ∷ lefts) places zip rooms = (subst (λ (k : List ℕ). HasRoom places k) (sym zip.0.identity_is) rooms.0, lefts_room spans lefts places zip.1 rooms.1)

pub lefts_keep : (lefts : List Left) (old new : Places) → KeepsRoom old new → LeftsHaveRoom old lefts → LeftsHaveRoom new lefts
lefts_keep lefts old new keeps rooms = all_weaker (λ (l : Left). HasRoom old l.identity) (λ (l : Left). HasRoom new l.identity) (λ l. keeps l.identity) lefts rooms

-- places that are left to be put, of those of all spans
pub record LeftsAhead (lefts : List Left) (all : List Span) (places : Places) : Type 0 where
  pub past : List Span
  pub next : List Span
  pub parts : all ≡ past ++ next
  pub zip : AllZip IsLeftBy next lefts
  pub fit : AreSpans next
  pub remembers : Remembers past places

ahead_at : (left : Left) (rest : List Left) (all past next : List Span) (old new : Places) → all ≡ past ++ next → AllZip IsLeftBy next (left ∷ rest) → AreSpans next → Remembers past old → Puts left.identity left.place old new → LeftsAhead rest all new
ahead_at left rest all past [] old new parts zip fit remembers puts = absurd zip
ahead_at left rest all past (span ∷ next) old new parts zip fit remembers puts = record {
  past = past ++ span ∷ [];
  next = next;
  parts = parts ∙ sym (append_assoc past (span ∷ []) next);
  zip = zip.1;
  fit = fit.1;
  remembers = remembers_more past span left.place old new remembers (zip.0.ends fit.0) (subst (λ (k : List ℕ). Puts k left.place old new) zip.0.identity_is puts);
}

pub ahead_more : (lefts : List Left) (left : Left) (rest : List Left) (all : List Span) (old new : Places) → lefts ≡ left ∷ rest → LeftsAhead lefts all old → Puts left.identity left.place old new → LeftsAhead rest all new
ahead_more lefts left rest all old new is ahead puts = ahead_at left rest all ahead.past ahead.next old new ahead.parts (subst (λ (l : List Left). AllZip IsLeftBy ahead.next l) is ahead.zip) ahead.fit ahead.remembers puts

all_put : (all past next : List Span) (places : Places) → all ≡ past ++ next → AllZip IsLeftBy next [] → Remembers past places → Remembers all places
all_put all past [] places parts zip remembers = subst (λ (l : List Span). Remembers l places) (sym (parts ∙ append-nil past)) remembers
all_put all past (span ∷ next) places parts zip remembers = absurd zip

pub none_ahead : (lefts : List Left) (all : List Span) (places : Places) → lefts ≡ [] → LeftsAhead lefts all places → Remembers all places
none_ahead lefts all places none ahead = all_put all ahead.past ahead.next places ahead.parts (subst (λ (l : List Left). AllZip IsLeftBy ahead.next l) none ahead.zip) ahead.remembers

pub first_room : (lefts : List Left) (left : Left) (rest : List Left) (places : Places) → lefts ≡ left ∷ rest → LeftsHaveRoom places lefts → HasRoom places left.identity × LeftsHaveRoom places rest
first_room lefts left rest places is rooms = subst (λ (l : List Left). LeftsHaveRoom places l) is rooms

-- the same places
pub remembers_same : (spans : List Span) (old new : Places) → AreSame old new → Remembers spans old → Remembers spans new
remembers_same spans old new same remembers = record {
  each = λ identity. subst (λ (p : Option Place). IsPlaceOf (last_of identity spans) p) (sym (same identity)) (remembers.each identity);
}

pub first_with : (kept : Option (List ℕ)) (text : List ℕ) → kept_with (new_input kept text) kept ≡ first_of kept text
first_with None text = refl
first_with (Some old) text = refl
