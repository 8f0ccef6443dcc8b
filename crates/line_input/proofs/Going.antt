-- Bytes that are gone, and those behind them.
use Rattle.std.proofs.Common.{◌≡◌, ◌==◌, ◌&&◌, ℕ, zero, suc, Bool, true, false, [], ◌∷◌, ◌++◌, inl, inr, ◌+◌, ◌-◌, ◌<◌, ◌≤◌, List, length, take, drop, nat_le, nat_lt, lt-ltb, arith, refl, sym, ◌∙◌, ap, subst, if◌then◌else◌}
use Rattle.std.proofs.lemmas.Bool.{cases_Bool, and_parts}
use Rattle.std.proofs.lemmas.Bool.Decides.{nat_tests}
use Rattle.std.proofs.lemmas.List.{length-append, length-take-le}
use Rattle.std.specs.List.{position_or_len, before_first, after_first, slice_index}
use Rattle.std.specs.Str.Lines.{strip_carriage_return}
use Rattle.lp_model.specs.Lines.{is_lf, text_at, without_mark, is_overlong, longest}
use Rattle.line_input.specs.Splitter.{Split, AreGone, is_spent, kept_of, surely_too_long}
use Rattle.line_input.specs.Handed.{HasEnd, HandsNext, HandsRest}
use Rattle.line_input.specs.declared.splitter.Next.TheVariants.{TooLongLine}

-- the first byte that passes stands behind those of which none does
pub first_beyond : (passes : ℕ → Bool) (gone kept : List ℕ) → length gone ≤ position_or_len passes gone → position_or_len passes (gone ++ kept) ≡ length gone + position_or_len passes kept
first_beyond passes [] kept none = omega arith
first_beyond passes (b ∷ bs) kept none = elim (cases_Bool (passes b)) [
  | inl e ↦ let never : suc (length bs) ≤ 0 = rw e at none in absurd (omega arith)
  | inr e ↦ let more : suc (length bs) ≤ 1 + position_or_len passes bs = rw e at none in
      let rest = first_beyond passes bs kept (omega arith) in rw e (omega (arith, rest))
]

drop_beyond : (gone kept : List ℕ) (n : ℕ) → drop (length gone + n) (gone ++ kept) ≡ drop n kept
drop_beyond [] kept n = ap (λ k. drop k kept) (omega arith)
drop_beyond (b ∷ bs) kept n =
    let more : length (b ∷ bs) + n ≡ suc (length bs + n) = omega arith in
    ap (λ k. drop k (b ∷ (bs ++ kept))) more ∙ drop_beyond bs kept n

-- bytes behind those that are gone may be let go exactly where all together may
same_gap : (g a b : ℕ) → nat_le a b ≡ nat_le (g + a) (g + b)
same_gap g a b = grind (arith, nat_tests)

pub spent_told : (missing : ℕ) (gone kept : List ℕ) → AreGone missing gone
    → (nat_le surely_too_long (missing + length kept) && nat_le (length kept) (position_or_len is_lf kept)) ≡ is_spent (gone ++ kept)
spent_told missing gone kept are =
    let size : length (gone ++ kept) ≡ length gone + length kept = length-append gone kept in
    let first : position_or_len is_lf (gone ++ kept) ≡ length gone + position_or_len is_lf kept = first_beyond is_lf gone kept are.endless in
    let many : missing + length kept ≡ length (gone ++ kept) = omega (arith, size, are.many) in
    let gap : nat_le (length kept) (position_or_len is_lf kept) ≡ nat_le (length (gone ++ kept)) (position_or_len is_lf (gone ++ kept)) =
    same_gap (length gone) (length kept) (position_or_len is_lf kept) ∙ (λ i. nat_le (sym size i) (sym first i)) in
    λ i. nat_le surely_too_long (many i) && gap i

-- the first line behind bytes that are gone
pub record EndsBeyond (gone kept : List ℕ) (at : ℕ) : Type 0 where
  pub has_end : HasEnd (gone ++ kept)
  pub before : length (before_first is_lf (gone ++ kept)) ≡ length gone + at
  pub after : after_first is_lf (gone ++ kept) ≡ drop (at + 1) kept

pub ends_beyond : (missing : ℕ) (gone kept : List ℕ) (at : ℕ) → AreGone missing gone → at ≡ position_or_len is_lf kept → at < length kept → EndsBeyond gone kept at
ends_beyond missing gone kept at are is there =
    let first = first_beyond is_lf gone kept are.endless in
    let size = length-append gone kept in
    let place : position_or_len is_lf (gone ++ kept) ≡ length gone + at = first ∙ ap (λ n. length gone + n) (sym is) in
    record {
      has_end = omega (arith, place, size, there);
      before = length-take-le (position_or_len is_lf (gone ++ kept)) (gone ++ kept) (omega (arith, place, size, there)) ∙ place;
      after = ap (λ n. drop (n + 1) (gone ++ kept)) place ∙ (ap (λ n. drop n (gone ++ kept)) (omega arith) ∙ drop_beyond gone kept (at + 1));
    }

-- a mark takes three bytes at most, and a CR one
mark_long : (b : Bool) (x y z : ℕ) (more : List ℕ) → length more ≤ length (if b then more else x ∷ y ∷ z ∷ more)
mark_long true x y z more = omega arith
mark_long false x y z more = omega arith

without_mark-long : (bytes : List ℕ) → length bytes ≤ length (without_mark bytes) + 3
without_mark-long [] = omega arith
without_mark-long (a ∷ []) = omega arith
without_mark-long (a ∷ b ∷ []) = omega arith
without_mark-long (a ∷ b ∷ c ∷ more) = let h = mark_long (a == 239 && b == 187 && c == 191) a b c more in omega (arith, h)

text_at-long : (start : ℕ) (part : List ℕ) → length part ≤ length (text_at start part) + 3
text_at-long start part = elim (cases_Bool (start == 0)) [ inl e ↦ rw e (without_mark-long part) | inr e ↦ rw e (omega arith) ]

strip_long : (b : Bool) (part : List ℕ) → length part ≤ length (if b then take (length part - 1) part else part) + 1
strip_long true part = let h = length-take-le (length part - 1) part (omega arith) in omega (arith, h)
strip_long false part = omega arith

-- so many bytes are of a line that is too long
pub last_is_long : (place : ℕ) (part : List ℕ) → surely_too_long ≤ length part → is_overlong (text_at place part) ≡ true
last_is_long place part many = let h = text_at-long place part in lt-ltb longest (length (text_at place part)) (omega (arith, h, many))

pub first_is_long : (place : ℕ) (part : List ℕ) → surely_too_long ≤ length part → is_overlong (text_at place (strip_carriage_return part)) ≡ true
first_is_long place part many =
    let h = text_at-long place (strip_carriage_return part) in
    let k : length part ≤ length (strip_carriage_return part) + 1 = strip_long (slice_index part (length part - 1) == 13) part in
    lt-ltb longest (length (text_at place (strip_carriage_return part))) (omega (arith, h, k, many))

-- where none are gone
pub none_gone : (missing : ℕ) (bytes : List ℕ) → AreGone missing bytes → missing ≤ 0 → bytes ≡ []
none_gone missing [] are none = refl
none_gone missing (b ∷ bytes) are none = absurd (omega (arith, are.many, none))

pub are_none : AreGone 0 []
are_none = record { many = refl; endless = omega arith; long = λ some. absurd (omega (arith, some)) }

told_le : (a b : ℕ) → nat_le a b ≡ true → a ≤ b
told_le a b e = grind (arith, nat_tests)

-- what is let go is gone too
pub more_gone : (missing size : ℕ) (gone kept : List ℕ) → size ≡ length kept → AreGone missing gone → (nat_le surely_too_long (missing + length kept) && nat_le (length kept) (position_or_len is_lf kept)) ≡ true
    → AreGone (missing + size) (gone ++ kept)
more_gone missing size gone kept is are spent =
    let whole = length-append gone kept in
    let first = first_beyond is_lf gone kept are.endless in
    let both = and_parts (nat_le surely_too_long (missing + length kept)) (nat_le (length kept) (position_or_len is_lf kept)) spent in
    let long : surely_too_long ≤ missing + length kept = told_le surely_too_long (missing + length kept) both.0 in
    let endless : length kept ≤ position_or_len is_lf kept = told_le (length kept) (position_or_len is_lf kept) both.1 in
    record { many = omega (arith, whole, are.many, is); endless = omega (arith, whole, first, endless); long = λ some. omega (arith, long, is) }

-- what isn't let go is no more than there is
pub kept_held : (missing : ℕ) (gone kept : List ℕ) → AreGone missing gone → (nat_le surely_too_long (missing + length kept) && nat_le (length kept) (position_or_len is_lf kept)) ≡ false
    → length kept ≤ length (kept_of (gone ++ kept))
kept_held missing gone kept are spent =
    let told : is_spent (gone ++ kept) ≡ false = sym (spent_told missing gone kept are) ∙ spent in
    rw told (omega (arith, length-append gone kept))

-- behind bytes that are gone no line ends where none ends in what is kept
pub still_none : (left : List ℕ) (missing : ℕ) (gone kept : List ℕ) → gone ++ kept ≡ left → AreGone missing gone → length kept ≤ position_or_len is_lf kept → length left ≤ position_or_len is_lf left
still_none left missing gone kept whole are none =
    let size = length-append gone kept in
    let first = first_beyond is_lf gone kept are.endless in
    subst (λ (bytes : List ℕ). length bytes ≤ position_or_len is_lf bytes) whole (omega (arith, size, first, none))

-- the end of a line of which bytes are gone
pub hands_long : (old new : Split) (missing : ℕ) (gone kept : List ℕ) (at : ℕ) → gone ++ kept ≡ old.left → AreGone missing gone → 0 < missing → at ≡ position_or_len is_lf kept → at < length kept
    → new.place ≡ old.place + missing + at + 1 → new.left ≡ drop (at + 1) kept → new.line ≡ [] → new.held ≡ old.held → HandsNext old TooLongLine new
hands_long old new missing gone kept at whole are some is there place left line held =
    let ends = ends_beyond missing gone kept at are is there in
    let before : length (before_first is_lf old.left) ≡ length gone + at = ap (λ (t : List ℕ). length (before_first is_lf t)) (sym whole) ∙ ends.before in
    let long = are.long some in (
      record {
        has_end = subst HasEnd whole ends.has_end;
        place = omega (arith, place, before, are.many);
        left = left ∙ (sym ends.after ∙ ap (after_first is_lf) whole);
        held = held;
      },
      line,
      first_is_long old.place (before_first is_lf old.left) (omega (arith, before, are.many, long)),
    )

-- the same at the end of input
pub rests_long : (old new : Split) (missing : ℕ) (gone kept : List ℕ) → gone ++ kept ≡ old.left → AreGone missing gone → 0 < missing
    → new.place ≡ old.place + missing + length kept → new.left ≡ [] → new.line ≡ [] → new.held ≡ old.held → HandsRest old TooLongLine new
rests_long old new missing gone kept whole are some place left line held =
    let size : length old.left ≡ length gone + length kept = ap length (sym whole) ∙ length-append gone kept in
    let long = are.long some in
    let many : surely_too_long ≤ length old.left = omega (arith, size, are.many, long) in
    let text = text_at-long old.place old.left in (
      record { some = omega (arith, text, many); place = omega (arith, place, size, are.many); left = left; held = held },
      line,
      last_is_long old.place old.left many,
    )
