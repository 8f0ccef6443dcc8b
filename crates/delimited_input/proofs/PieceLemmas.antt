-- A field of a line, and what stands behind it.
use Rattle.std.proofs.Common.{◌≡◌, ℕ, suc, ◌+◌, ◌-◌, ◌<◌, ◌≤◌, Bool, true, false, ◌==◌, ◌&&◌, List, [], ◌∷◌, ◌++◌, length, take, drop, get_or, Some, None, refl, sym, ap, ap₂, ◌∙◌, subst, inl, inr, arith, append_assoc}
use Rattle.std.specs.Prelude.{◌≢◌}
use Rattle.std.proofs.lemmas.Bool.{cases_Bool, eqb-true}
use Rattle.std.proofs.lemmas.List.{append-nil, drop-drop, get_or-drop, length-drop, map-append, take_all, take_more}
use Rattle.std.specs.List.{position_or_len}
use Rattle.memchr.specs.Find.{is_byte}
use Rattle.line_input.specs.declared.slot.Slot.{Slot}
use Rattle.line_input.specs.Taken.{part_of, slot_bytes, slots_of}
use Rattle.delimited_input.specs.Fields.{Cut, onto, plain_field, quoted_field, first_field}
use Rattle.delimited_input.specs.Lines.{slot_of}
use Rattle.delimited_input.specs.Pieces.{Adds, IsBehind, IsStep, behind_bytes, is_doubled, is_opened}
use Rattle.std.proofs.lemmas.Bool.Decides.{nat_tests}
use Rattle.delimited_input.specs.declared.piece.Step.{Step}
use Rattle.delimited_input.specs.declared.piece.Step.TheVariants.{Next, Last, Other}

-- ---- a field without quotes

plain_ends : (separator : ℕ) (xs : List ℕ) → position_or_len (is_byte separator) xs ≡ length xs → plain_field separator xs ≡ (xs, None)
unfolding plain_field
plain_ends separator [] e = refl
plain_ends separator (b ∷ bs) e =
    elim (cases_Bool (b == separator)) [
      | inl is ↦ let h : 0 ≡ length (b ∷ bs) = rw is at e in absurd (omega arith)
      | inr other ↦
          let h : 1 + position_or_len (is_byte separator) bs ≡ length (b ∷ bs) = rw other at e in
          let more : position_or_len (is_byte separator) bs ≡ length bs = omega arith in
          rw other (ap (onto b) (plain_ends separator bs more))
    ]

plain_goes : (separator : ℕ) (xs : List ℕ) (n : ℕ) → n ≡ position_or_len (is_byte separator) xs → n < length xs → plain_field separator xs ≡ (take n xs, Some (drop (n + 1) xs))
unfolding plain_field
plain_goes separator [] n e lt = absurd (omega arith)
plain_goes separator (b ∷ bs) n e lt =
    let At : ℕ → ℕ → Cut = λ k j. (take k (b ∷ bs), Some (drop j (b ∷ bs))) in
    elim (cases_Bool (b == separator)) [
      | inl is ↦
          let none : n ≡ 0 = rw is at e in
          let one : 1 ≡ n + 1 = omega arith in
          rw is (ap₂ At (sym none) one)
      | inr other ↦
          let h : n ≡ 1 + position_or_len (is_byte separator) bs = rw other at e in
          let m : ℕ = position_or_len (is_byte separator) bs in
          let more : suc m ≡ n = omega arith in
          let behind : suc (m + 1) ≡ n + 1 = omega arith in
          rw other (ap (onto b) (plain_goes separator bs m refl (omega arith)) ∙ ap₂ At more behind)
    ]

-- one slot more
added : (line : List ℕ) (old new : List Slot) (slot : Slot) (field : List ℕ) → new ≡ old ++ slot ∷ [] → slot_bytes line slot ≡ slot_of field → Adds line old new field
added line old new slot field pushes is = ap (slots_of line) pushes ∙ (map-append (slot_bytes line) old (slot ∷ []) ∙ ap (λ s. slots_of line old ++ s ∷ []) is)

module _ (separator : ℕ) (line : List ℕ) (from to : ℕ) (within : from ≤ length line) (e : to ≡ from + position_or_len (is_byte separator) (drop from line)) (old new : List Slot) (slot : Slot)
    (pushes : new ≡ old ++ slot ∷ []) (is : slot_bytes line slot ≡ slot_of (part_of line from to)) where
  pub plain_last : to ≡ length line → IsStep false (plain_field separator (drop from line)) line old new Last
  plain_last end =
      let size = length-drop from line in
      let cut = plain_ends separator (drop from line) (omega (arith, e)) in
      let all : part_of line from to ≡ drop from line = take_all (to - from) (drop from line) (omega arith) in
      (added line old new slot (plain_field separator (drop from line)).0 pushes (is ∙ ap slot_of (all ∙ sym (ap (λ (c : Cut). c.0) cut))), ap (λ (c : Cut). c.1) cut)

  pub plain_next : to < length line → IsStep false (plain_field separator (drop from line)) line old new (Next (to + 1))
  plain_next more =
      let size = length-drop from line in
      let n : ℕ = position_or_len (is_byte separator) (drop from line) in
      let cut = plain_goes separator (drop from line) n refl (omega (arith, e)) in
      let span : to - from ≡ n = omega (arith, e) in
      let sum : from + (n + 1) ≡ to + 1 = omega (arith, e) in
      let part : part_of line from to ≡ take n (drop from line) = ap (λ k. take k (drop from line)) span in (
        added line old new slot (plain_field separator (drop from line)).0 pushes (is ∙ ap slot_of (part ∙ sym (ap (λ (c : Cut). c.0) cut))),
        ap (λ (c : Cut). c.1) cut ∙ ap Some (drop-drop (n + 1) from line ∙ ap (λ k. drop k line) sum),
        omega arith,
      )

-- ---- a field behind its quote

quoted_other : (separator b c : ℕ) (bs : List ℕ) → (b == 34) ≡ false → quoted_field separator (b ∷ c ∷ bs) ≡ onto b (quoted_field separator (c ∷ bs))
unfolding quoted_field
quoted_other separator b c bs other = rw other refl

-- bytes that are no quotes stand as they are
quoted_before : (separator : ℕ) (ys : List ℕ) (n : ℕ) → n ≡ position_or_len (is_byte 34) ys → quoted_field separator ys ≡ behind_bytes (take n ys) (quoted_field separator (drop n ys))
unfolding quoted_field
quoted_before separator [] n e = let none : n ≡ 0 = e in rw none refl
quoted_before separator (b ∷ []) n e =
    elim (cases_Bool (b == 34)) [
      | inl is ↦ let none : n ≡ 0 = rw is at e in rw (none, is) refl
      | inr other ↦ let h : n ≡ 1 + 0 = rw other at e in let one : n ≡ 1 = omega arith in rw (one, other) refl
    ]
quoted_before separator (b ∷ c ∷ bs) n e =
    let At : ℕ → Cut = λ k. behind_bytes (take k (b ∷ c ∷ bs)) (quoted_field separator (drop k (b ∷ c ∷ bs))) in
    elim (cases_Bool (b == 34)) [
      | inl is ↦ let none : n ≡ 0 = rw is at e in rw none refl
      | inr other ↦
          let h : n ≡ 1 + position_or_len (is_byte 34) (c ∷ bs) = rw other at e in
          let m : ℕ = position_or_len (is_byte 34) (c ∷ bs) in
          let more : suc m ≡ n = omega arith in
          quoted_other separator b c bs other ∙ (ap (onto b) (quoted_before separator (c ∷ bs) m refl) ∙ ap At more)
    ]

-- two quotes are one
pub record Doubled (separator : ℕ) (ys : List ℕ) : Type 0 where
  pub size : 2 ≤ length ys
  pub first : get_or ys 0 0 ≡ 34
  pub cut : quoted_field separator ys ≡ behind_bytes (34 ∷ []) (quoted_field separator (drop 2 ys))

quoted_doubled : (separator : ℕ) (ys : List ℕ) → is_doubled ys ≡ true → Doubled separator ys
unfolding quoted_field
quoted_doubled separator [] two = absurd cc
quoted_doubled separator (b ∷ []) two = absurd cc
quoted_doubled separator (b ∷ c ∷ bs) two =
    elim (cases_Bool (b == 34)) [
      | inl is ↦ let next : (c == 34) ≡ true = rw is at two in record {
        size = omega arith;
        first = eqb-true b 34 is;
        cut = rw (is, next) refl;
      }
      | inr other ↦ let h : false ≡ true = rw other at two in absurd cc
    ]

pub doubled_within : (line : List ℕ) (to : ℕ) → is_doubled (drop to line) ≡ true → to + 2 ≤ length line
doubled_within line to two = let size = length-drop to line in let room = (quoted_doubled 0 (drop to line) two).size in omega arith

-- bytes behind bytes
behind_both : (xs ys : List ℕ) (cut : Cut) → behind_bytes xs (behind_bytes ys cut) ≡ behind_bytes (xs ++ ys) cut
behind_both xs ys cut = ap (λ (bytes : List ℕ). (bytes, cut.1)) (sym (append_assoc xs ys cut.0))

-- what stands before a quote
pub quoted_at : (separator : ℕ) (line : List ℕ) (from to : ℕ) → from ≤ length line → to ≡ from + position_or_len (is_byte 34) (drop from line)
    → quoted_field separator (drop from line) ≡ behind_bytes (part_of line from to) (quoted_field separator (drop to line))
quoted_at separator line from to within e =
    let n : ℕ = position_or_len (is_byte 34) (drop from line) in
    let span : n ≡ to - from = omega (arith, e) in
    let sum : from + n ≡ to = omega (arith, e) in
    quoted_before separator (drop from line) n refl
    ∙ (ap (λ k. behind_bytes (take k (drop from line)) (quoted_field separator (drop n (drop from line)))) span
    ∙ ap (λ rest. behind_bytes (part_of line from to) (quoted_field separator rest)) (drop-drop n from line ∙ ap (λ k. drop k line) sum))

-- the bytes of a field up to a place were added
pub record AddedUpTo (line : List ℕ) (from at to : ℕ) (old held : List ℕ) : Type 0 where
  pub start : at ≤ length line
  pub here : to ≡ at + position_or_len (is_byte 34) (drop at line)
  pub within : to ≤ length line
  pub bytes : (separator : ℕ) → behind_bytes old (quoted_field separator (drop from line)) ≡ behind_bytes held (quoted_field separator (drop at line))

pub added_last : (line : List ℕ) (from at to : ℕ) (old held all : List ℕ) → AddedUpTo line from at to old held → all ≡ held ++ part_of line at to
    → (separator : ℕ) → behind_bytes old (quoted_field separator (drop from line)) ≡ behind_bytes all (quoted_field separator (drop to line))
added_last line from at to old held all so_far more separator =
    so_far.bytes separator
    ∙ (ap (behind_bytes held) (quoted_at separator line at to so_far.start so_far.here)
    ∙ (behind_both held (part_of line at to) (quoted_field separator (drop to line))
    ∙ ap (λ (bytes : List ℕ). behind_bytes bytes (quoted_field separator (drop to line))) (sym more)))

pub added_more : (line : List ℕ) (from at to next : ℕ) (old held all : List ℕ) → AddedUpTo line from at to old held → is_doubled (drop to line) ≡ true → all ≡ held ++ part_of line at (to + 1)
    → next ≡ to + 2 + position_or_len (is_byte 34) (drop (to + 2) line) → next ≤ length line → AddedUpTo line from (to + 2) next old all
added_more line from at to next old held all so_far two more here within =
    let first = (quoted_doubled 0 (drop to line) two).first in
    let size = length-drop to line in
    let many = length-drop at line in
    let room = (quoted_doubled 0 (drop to line) two).size in
    let order : at ≤ to = omega (arith, so_far.here) in
    let span : to + 1 - at ≡ to - at + 1 = omega arith in
    let place : at + (to - at) ≡ to = omega arith in
    let zero_more : to ≡ to + 0 = omega arith in
    let quote : get_or (drop at line) (to - at) 0 ≡ 34 = get_or-drop at line (to - at) 0 ∙ (ap (λ k. get_or line k 0) (place ∙ zero_more) ∙ (sym (get_or-drop to line 0 0) ∙ first)) in
    let part : part_of line at (to + 1) ≡ part_of line at to ++ 34 ∷ [] = ap (λ k. take k (drop at line)) span
    ∙ (take_more (drop at line) (to - at) 0 (omega arith) ∙ ap (λ (b : ℕ). part_of line at to ++ b ∷ []) quote) in
    let left : drop 2 (drop to line) ≡ drop (to + 2) line = drop-drop 2 to line in
    record {
      start = omega arith;
      here = here;
      within = within;
      bytes = λ separator.
          added_last line from at to old held (held ++ part_of line at to) so_far refl separator
          ∙ (ap (behind_bytes (held ++ part_of line at to)) ((quoted_doubled separator (drop to line) two).cut ∙ ap (λ (ys : List ℕ). behind_bytes (34 ∷ []) (quoted_field separator ys)) left)
          ∙ (behind_both (held ++ part_of line at to) (34 ∷ []) (quoted_field separator (drop (to + 2) line))
          ∙ ap (λ (bytes : List ℕ). behind_bytes bytes (quoted_field separator (drop (to + 2) line))) (append_assoc held (part_of line at to) (34 ∷ []) ∙ (ap (λ (bytes : List ℕ). held ++ bytes) (sym part) ∙ sym more))));
    }

-- ---- what stands behind a quote

pub closed_last : (separator : ℕ) (line ys : List ℕ) → length ys ≡ 1 → get_or ys 0 0 ≡ 34 → IsBehind (quoted_field separator ys) line Last
unfolding quoted_field
closed_last separator line [] size quote = absurd (omega arith)
closed_last separator line (b ∷ []) size quote = ap (λ (q : ℕ). quoted_field separator (q ∷ [])) quote
closed_last separator line (b ∷ c ∷ bs) size quote = absurd (omega arith)

two_first : (ys : List ℕ) → 2 ≤ length ys → ys ≡ get_or ys 0 0 ∷ get_or ys 1 0 ∷ drop 2 ys
two_first [] long = absurd (omega arith)
two_first (a ∷ []) long = absurd (omega arith)
two_first (a ∷ b ∷ rest) long = refl

parted_there : (separator : ℕ) (rest : List ℕ) → separator ≢ 34 → quoted_field separator (34 ∷ separator ∷ rest) ≡ ([], Some rest)
unfolding quoted_field plain_field
parted_there separator rest other =
    let single : (separator == 34) ≡ false = grind (arith, nat_tests) in
    let same : (separator == separator) ≡ true = grind (arith, nat_tests) in
    rw (single, same) refl

pub closed_next : (separator : ℕ) (line : List ℕ) (at : ℕ) (ys : List ℕ) → ys ≡ drop at line → 2 ≤ length ys → get_or ys 0 0 ≡ 34 → get_or ys 1 0 ≡ separator → separator ≢ 34
    → IsBehind (quoted_field separator (drop at line)) line (Next (at + 2))
closed_next separator line at ys e long quote parts other =
    let size = ap length e in
    let many = length-drop at line in
    let whole : drop at line ≡ 34 ∷ separator ∷ drop 2 ys = sym e ∙ (two_first ys long ∙ ap₂ (λ (a b : ℕ). a ∷ b ∷ drop 2 ys) quote parts) in
    let left : drop 2 ys ≡ drop (at + 2) line = ap (drop 2) e ∙ drop-drop 2 at line in
    (ap (quoted_field separator) whole ∙ (parted_there separator (drop 2 ys) other ∙ ap (λ (r : List ℕ). ([], Some r)) left), omega arith)

-- ---- a field is added

-- a field in quotes, up to where it is closed
pub step_closed : (line : List ℕ) (cut inner : Cut) (bytes : List ℕ) (old new : List Slot) (slot : Slot) (step : Step) → cut ≡ behind_bytes bytes inner → IsBehind inner line step
    → new ≡ old ++ slot ∷ [] → slot_bytes line slot ≡ slot_of bytes → IsStep true cut line old new step
step_closed line cut inner bytes old new slot (Next next) e is pushes here =
    let all : cut ≡ (bytes, Some (drop next line)) = e ∙ (ap (behind_bytes bytes) is.0 ∙ ap (λ (xs : List ℕ). (xs, Some (drop next line))) (append-nil bytes)) in
    (added line old new slot cut.0 pushes (here ∙ ap slot_of (sym (ap (λ (c : Cut). c.0) all))), ap (λ (c : Cut). c.1) all, is.1)
step_closed line cut inner bytes old new slot Last e is pushes here =
    let all : cut ≡ (bytes, None) = e ∙ (ap (behind_bytes bytes) is ∙ ap (λ (xs : List ℕ). (xs, None)) (append-nil bytes)) in
    (added line old new slot cut.0 pushes (here ∙ ap slot_of (sym (ap (λ (c : Cut). c.0) all))), ap (λ (c : Cut). c.1) all)
step_closed line cut inner bytes old new slot Other e is pushes here = refl

-- ---- the field that begins at a place

opened : (separator : ℕ) (xs : List ℕ) → is_opened xs ≡ true → first_field separator true xs ≡ quoted_field separator (drop 1 xs)
unfolding first_field
opened separator [] is = absurd cc
opened separator (b ∷ bs) is = rw is refl

unopened : (separator : ℕ) (quotes : Bool) (xs : List ℕ) → (quotes && is_opened xs) ≡ false → first_field separator quotes xs ≡ plain_field separator xs
unfolding first_field plain_field
unopened separator quotes [] other = refl
unopened separator quotes (b ∷ bs) other = rw other refl

pub first_quoted : (separator : ℕ) (quotes : Bool) (line : List ℕ) (at : ℕ) (old new : List Slot) (step : Step) → quotes ≡ true → is_opened (drop at line) ≡ true
    → IsStep true (quoted_field separator (drop (at + 1) line)) line old new step → IsStep quotes (first_field separator quotes (drop at line)) line old new step
first_quoted separator quotes line at old new step quoted is took =
    subst (λ (q : Bool). IsStep q (first_field separator q (drop at line)) line old new step) (sym quoted)
    (subst (λ (cut : Cut). IsStep true cut line old new step) (sym (opened separator (drop at line) is ∙ ap (quoted_field separator) (drop-drop 1 at line))) took)

pub first_plain : (separator : ℕ) (quotes : Bool) (line : List ℕ) (at : ℕ) (old new : List Slot) (step : Step) → (quotes && is_opened (drop at line)) ≡ false → IsStep false (plain_field separator (drop at line)) line old new step
    → IsStep quotes (first_field separator quotes (drop at line)) line old new step
first_plain separator quotes line at old new step other took =
    subst (λ (cut : Cut). IsStep quotes cut line old new step) (sym (unopened separator quotes (drop at line) other)) (whatever step took)
  where
    whatever : (step : Step) → IsStep false (plain_field separator (drop at line)) line old new step → IsStep quotes (plain_field separator (drop at line)) line old new step
    whatever (Next next) is = is
    whatever Last is = is
    whatever Other is = absurd cc

-- the place behind an opening quote is within the line
pub opened_within : (line : List ℕ) (at : ℕ) → is_opened (drop at line) ≡ true → at + 1 ≤ length line
opened_within line at is = let size = length-drop at line in let some = filled (drop at line) is in omega arith
  where
    filled : (xs : List ℕ) → is_opened xs ≡ true → 0 < length xs
    filled [] is = absurd cc
    filled (b ∷ bs) is = omega arith
