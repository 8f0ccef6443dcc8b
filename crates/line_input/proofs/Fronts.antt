-- What stands at the front of bytes, field by field.
use Rattle.std.proofs.Common.{◌≡◌, inl, inr, ℕ, zero, suc, ◌+◌, ◌<◌, ◌≤◌, ◌^◌, get_or, List, [], ◌∷◌, ◌++◌, length, take, drop, refl, sym, ◌∙◌, ap, subst, append_assoc, arith, Option, Some, None}
use Rattle.std.specs.Str.{IsUtf8}
use Rattle.std.specs.Prelude.{MatchOption}
use Rattle.std.specs.Int.{from_le_bytes, w16, w32, w64}
use Rattle.std.proofs.lemmas.List.{length-append, append-nil, take-append-drop, length-take-le}
use Rattle.std.proofs.Math.Seq.{take-append_seam}
use Rattle.std.proofs.lemmas.Nat.{le_bytes_2, le_bytes_4, le_bytes_8}
use Rattle.ledger_model.specs.Layouts.{Layout, field, behind, AllFit, spelled, listed}
use Rattle.ledger_model.specs.Numbers.{number, u16_bytes, u32_bytes, u64_bytes, text_bytes, text_of}
use Rattle.ledger_model.specs.Standings.{names_layout, AreColumns, columns_bytes, columns_field}
use Rattle.ledger_model.proofs.Fields.{u16_length, u32_length, u32_one, u16_one, names_law}
use Rattle.lp_model.specs.Reading.{Columns}
use Rattle.line_input.specs.Fronts.{IsFront, HasBreak}

taken_low : (k : ℕ) (bytes : List ℕ) → ((i : ℕ) → get_or bytes i 0 < 256) → (i : ℕ) → get_or (take k bytes) i 0 < 256
taken_low zero bytes low i = omega arith
taken_low (suc k) [] low i = omega arith
taken_low (suc k) (b ∷ bytes) low zero = low 0
taken_low (suc k) (b ∷ bytes) low (suc i) = taken_low k bytes (λ j. low (suc j)) i

split_by : (k : ℕ) (bytes front rest spelled : List ℕ) → front ≡ take k bytes → rest ≡ drop k bytes → spelled ≡ front → bytes ≡ spelled ++ rest
split_by k bytes front rest spelled f r s = sym (take-append-drop k bytes) ∙ (λ i. sym f i ++ sym r i) ∙ ap (λ (t : List ℕ). t ++ rest) (sym s)

-- numbers
pub front_u64 : (bytes front rest : List ℕ) (n : ℕ) → front ≡ take 8 bytes → rest ≡ drop 8 bytes → length rest + 8 ≡ length bytes → ((i : ℕ) → get_or bytes i 0 < 256) → n < 2 ^ 64 → n ≡ from_le_bytes w64 front → IsFront number bytes n rest
unfolding u64_bytes
front_u64 bytes front rest n f r size low small is = record {
  fits = small;
  split = split_by 8 bytes front rest (u64_bytes n) f r (le_bytes_8 front n (ap length f ∙ length-take-le 8 bytes (omega (arith, size))) (λ i. subst (λ (t : List ℕ). get_or t i 0 < 256) (sym f) (taken_low 8 bytes low i)) is);
}

pub front_u32 : (bytes front rest : List ℕ) (n : ℕ) → front ≡ take 4 bytes → rest ≡ drop 4 bytes → length rest + 4 ≡ length bytes → ((i : ℕ) → get_or bytes i 0 < 256) → n < 2 ^ 32 → n ≡ from_le_bytes w32 front → IsFront (field (λ (k : ℕ). k < 2 ^ 32) u32_bytes) bytes n rest
unfolding u32_bytes
front_u32 bytes front rest n f r size low small is = record {
  fits = small;
  split = split_by 4 bytes front rest (u32_bytes n) f r (le_bytes_4 front n (ap length f ∙ length-take-le 4 bytes (omega (arith, size))) (λ i. subst (λ (t : List ℕ). get_or t i 0 < 256) (sym f) (taken_low 4 bytes low i)) is);
}

pub front_u16 : (bytes front rest : List ℕ) (n : ℕ) → front ≡ take 2 bytes → rest ≡ drop 2 bytes → length rest + 2 ≡ length bytes → ((i : ℕ) → get_or bytes i 0 < 256) → n < 2 ^ 16 → n ≡ from_le_bytes w16 front → IsFront (field (λ (k : ℕ). k < 2 ^ 16) u16_bytes) bytes n rest
unfolding u16_bytes
front_u16 bytes front rest n f r size low small is = record {
  fits = small;
  split = split_by 2 bytes front rest (u16_bytes n) f r (le_bytes_2 front n (ap length f ∙ length-take-le 2 bytes (omega (arith, size))) (λ i. subst (λ (t : List ℕ). get_or t i 0 < 256) (sym f) (taken_low 2 bytes low i)) is);
}

-- too few bytes for any value of a field
pub short_break : {A : Type 0} (Fits : A → Type 0) (spell : A → List ℕ) (least : ℕ) → ((a : A) → least ≤ length (spell a)) → (bytes : List ℕ) → length bytes < least → HasBreak (field Fits spell) bytes
short_break Fits spell least long bytes short = record { place = 0; breaks = (refl, λ a more fits e. omega (arith, ap length e, length-append (spell a) more, long a, short)) }

-- a text is too short for its length
pub text_unsized : (bytes : List ℕ) → length bytes < 4 → HasBreak (text_of IsUtf8) bytes
text_unsized bytes short = short_break _ text_bytes 4 (λ text. omega (arith, length-append (u32_bytes (length text)) text, u32_length (length text))) bytes short

text_break : (bytes behind : List ℕ) (size : ℕ) → IsFront (field (λ (k : ℕ). k < 2 ^ 32) u32_bytes) bytes size behind → ((text more : List ℕ) → length text ≡ size → IsUtf8 text → behind ≡ text ++ more → ⊥) → HasBreak (text_of IsUtf8) bytes
text_break bytes behind size front none = record {
  place = 0;
  breaks = (
    refl,
    λ text more fits e.
        let apart = sym front.split ∙ e ∙ append_assoc (u32_bytes (length text)) text more in
        let one = u32_one size (length text) behind (text ++ more) front.fits fits.0 apart in
        none text more (sym one.0) fits.1 one.1,
  );
}

pub text_short : (bytes behind : List ℕ) (size : ℕ) → IsFront (field (λ (k : ℕ). k < 2 ^ 32) u32_bytes) bytes size behind → length behind < size → HasBreak (text_of IsUtf8) bytes
text_short bytes behind size front short = text_break bytes behind size front (λ text more same utf8 e. omega (arith, ap length e, length-append text more, same, short))

pub text_strange : (bytes behind part : List ℕ) (size : ℕ) → IsFront (field (λ (k : ℕ). k < 2 ^ 32) u32_bytes) bytes size behind → part ≡ take size behind → (IsUtf8 part → ⊥) → HasBreak (text_of IsUtf8) bytes
text_strange bytes behind part size front is strange = text_break bytes behind size front (λ text more same utf8 e.
    let seen : take size behind ≡ text = ap (take size) e ∙ ap (λ (n : ℕ). take n (text ++ more)) (sym same) ∙ take-append_seam text more in
    strange (subst IsUtf8 (sym (is ∙ seen)) utf8))

pub text_front : (bytes behind part text rest : List ℕ) (size : ℕ) → IsFront (field (λ (k : ℕ). k < 2 ^ 32) u32_bytes) bytes size behind → part ≡ take size behind → rest ≡ drop size behind → length part ≡ size → text ≡ part → IsUtf8 part → IsFront (text_of IsUtf8) bytes text rest
text_front bytes behind part text rest size front p r same t utf8 =
    let long : size ≡ length text = sym same ∙ ap length (sym t) in record {
      fits = (subst (λ (n : ℕ). n < 2 ^ 32) long front.fits, subst IsUtf8 (sym t) utf8);
      split = front.split ∙ (λ i. u32_bytes (long i) ++ split_by size behind part rest text p r t i) ∙ sym (append_assoc (u32_bytes (length text)) text rest);
    }

-- names one after another
abbrev pub name_item : List (List ℕ) → Layout (List ℕ)
name_item before = text_of IsUtf8

pub record HasNames (bytes : List ℕ) (names : List (List ℕ)) (rest : List ℕ) (count : ℕ) : Type 0 where
  pub count_is : length names ≡ count
  pub fit : AllFit name_item [] names
  pub split : bytes ≡ spelled name_item [] names ++ rest

fit_more : (before xs : List (List ℕ)) (x : List ℕ) → AllFit name_item before xs → (text_of IsUtf8).Fits x → AllFit name_item before (xs ++ x ∷ [])
fit_more before [] x f fits = (fits, tt)
fit_more before (y ∷ ys) x f fits = (f.0, fit_more (before ++ y ∷ []) ys x f.1 fits)

spelled_more : (before xs : List (List ℕ)) (x : List ℕ) → spelled name_item before (xs ++ x ∷ []) ≡ spelled name_item before xs ++ text_bytes x
spelled_more before [] x = append-nil (text_bytes x)
spelled_more before (y ∷ ys) x = ap (λ (t : List ℕ). text_bytes y ++ t) (spelled_more (before ++ y ∷ []) ys x) ∙ sym (append_assoc (text_bytes y) (spelled name_item (before ++ y ∷ []) ys) (text_bytes x))

pub names_more : (bytes : List ℕ) (names : List (List ℕ)) (rest : List ℕ) (count : ℕ) (name after : List ℕ) → HasNames bytes names rest count → IsFront (text_of IsUtf8) rest name after → HasNames bytes (names ++ name ∷ []) after (count + 1)
names_more bytes names rest count name after has front = record {
  count_is = length-append names (name ∷ []) ∙ ap (λ n. n + 1) has.count_is;
  fit = fit_more [] names name has.fit front.fits;
  split = has.split ∙ ap (λ (t : List ℕ). spelled name_item [] names ++ t) front.split ∙ sym (append_assoc (spelled name_item [] names) (text_bytes name) after) ∙ ap (λ (t : List ℕ). t ++ after) (sym (spelled_more [] names name));
}

pub names_break : (bytes : List ℕ) (names : List (List ℕ)) (rest : List ℕ) (count all : ℕ) → HasNames bytes names rest count → count < all → HasBreak (text_of IsUtf8) rest → HasBreak (listed name_item all) bytes
names_break bytes names rest count all has fewer broken = record {
  place = length (spelled name_item [] names) + broken.place;
  breaks = record { items = names; more = rest; later = broken.place; fewer = omega (arith, has.count_is, fewer); fit = has.fit; split = has.split; breaks = broken.breaks; place_is = refl };
}

pub names_front : (bytes : List ℕ) (names : List (List ℕ)) (rest : List ℕ) (count : ℕ) → HasNames bytes names rest count → IsFront (listed name_item count) bytes names rest
names_front bytes names rest count has = record { fits = (has.count_is, has.fit); split = has.split }

-- and behind their number
pub count_short : (bytes : List ℕ) → length bytes < 2 → HasBreak names_layout bytes
count_short bytes short = record { place = 0; breaks = inl (refl, λ n more fits e. omega (arith, ap length e, length-append (u16_bytes n) more, u16_length n, short)) }

pub count_great : (bytes behind : List ℕ) (count : ℕ) → IsFront (field (λ (k : ℕ). k < 2 ^ 16) u16_bytes) bytes count behind → 1024 < count → HasBreak names_layout bytes
count_great bytes behind count front great = record {
  place = 0;
  breaks = inl (refl, λ n more fits e. let one = u16_one count n behind more front.fits (omega arith) (sym front.split ∙ e) in omega (arith, one.0, great, fits));
}

pub counted_break : (bytes behind : List ℕ) (count : ℕ) → IsFront (field (λ (k : ℕ). k < 2 ^ 16) u16_bytes) bytes count behind → count ≤ 1024 → HasBreak (listed name_item count) behind → HasBreak names_layout bytes
counted_break bytes behind count front few broken = record {
  place = length (u16_bytes count) + broken.place;
  breaks = inr (record { value = count; more = behind; later = broken.place; fits = omega arith; split = front.split; breaks = broken.breaks; place_is = refl });
}

pub counted_front : (bytes behind rest : List ℕ) (names : List (List ℕ)) (count : ℕ) → IsFront (field (λ (k : ℕ). k < 2 ^ 16) u16_bytes) bytes count behind → count ≤ 1024 → IsFront (listed name_item count) behind names rest → IsFront names_layout bytes names rest
counted_front bytes behind rest names count front few found =
    let same : count ≡ length names = sym found.fits.0 in record {
      fits = (omega arith, found.fits.1);
      split = front.split ∙ (λ i. u16_bytes (same i) ++ found.split i) ∙ sym (append_assoc (u16_bytes (length names)) (spelled name_item [] names) rest);
    }

-- the columns in force
no_columns : (value : Option Columns) (behind more : List ℕ) → HasBreak names_layout behind → AreColumns value → 1 ∷ behind ≡ columns_bytes value ++ more → ⊥
no_columns None behind more broken fits e = cc
no_columns (Some names) behind more broken fits e =
    let same : behind ≡ names_layout.spell names ++ more = cc in
    names_law.apart names more broken.place fits (subst (λ (t : List ℕ). names_layout.Breaks t broken.place) same broken.breaks)

pub columns_break : (bytes behind : List ℕ) (tag : ℕ) → bytes ≡ tag ∷ behind → tag ≡ 1 → HasBreak names_layout behind → HasBreak columns_field bytes
columns_break bytes behind tag is one_is broken = record { place = 0; breaks = (refl, λ value more fits e. no_columns value behind more broken fits (sym (is ∙ ap (λ (t : ℕ). t ∷ behind) one_is) ∙ e)) }

pub counted_found : {R : Type 0} (left : R → List ℕ) (bytes behind : List ℕ) (count : ℕ) (found : Option (List (List ℕ) × R)) → IsFront (field (λ (k : ℕ). k < 2 ^ 16) u16_bytes) bytes count behind → count ≤ 1024
    → MatchOption found (HasBreak (listed name_item count) behind) (λ p. IsFront (listed name_item count) behind p.0 (left p.1)) → MatchOption found (HasBreak names_layout bytes) (λ p. IsFront names_layout bytes p.0 (left p.1))
counted_found left bytes behind count None front few is = counted_break bytes behind count front few is
counted_found left bytes behind count (Some p) front few is = counted_front bytes behind (left p.1) p.0 count front few is

-- the columns that a call found, or their lack
pub columns_there : {R : Type 0} (left : R → List ℕ) (bytes : List ℕ) (found : Option (Option Columns × R)) (p : Option Columns × R) → found ≡ Some p → MatchOption found (HasBreak columns_field bytes) (λ q. IsFront columns_field bytes q.0 (left q.1)) → IsFront columns_field bytes p.0 (left p.1)
columns_there left bytes found p e is = subst (λ (f : Option (Option Columns × _)). MatchOption f (HasBreak columns_field bytes) (λ q. IsFront columns_field bytes q.0 (left q.1))) e is

pub columns_gone : {R : Type 0} (left : R → List ℕ) (bytes : List ℕ) (found : Option (Option Columns × R)) → found ≡ None → MatchOption found (HasBreak columns_field bytes) (λ q. IsFront columns_field bytes q.0 (left q.1)) → HasBreak columns_field bytes
columns_gone left bytes found e is = subst (λ (f : Option (Option Columns × _)). MatchOption f (HasBreak columns_field bytes) (λ q. IsFront columns_field bytes q.0 (left q.1))) e is

pub names_gone : {R : Type 0} (left : R → List ℕ) (bytes : List ℕ) (found : Option (Columns × R)) → found ≡ None → MatchOption found (HasBreak names_layout bytes) (λ q. IsFront names_layout bytes q.0 (left q.1)) → HasBreak names_layout bytes
names_gone left bytes found e is = subst (λ (f : Option (Columns × _)). MatchOption f (HasBreak names_layout bytes) (λ q. IsFront names_layout bytes q.0 (left q.1))) e is
