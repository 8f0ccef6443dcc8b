-- The spans of a log follow each other: each begins where the one before it ended, at an end of a line.
use Rattle.std.proofs.Common.{◌≡◌, ◌⊎◌, ⊎_elim, ℕ, ◌+◌, ◌<◌, ◌≤◌, Bool, true, false, List, [], ◌∷◌, ◌++◌, count_by, refl, sym, ◌∙◌, ap, arith, inl, inr, nat_le, subst, Some}
use Rattle.std.specs.Prelude.{if◌then◌else◌}
use Rattle.std.specs.List.{AllByRecursion}
use Rattle.std.specs.Bool.{⊤}
use Rattle.std.proofs.lemmas.Bool.{cases_lt, cases_Bool, le-leb, false≢true}
use Rattle.std.proofs.lemmas.List.Sums.{sum_by-cons}
use Rattle.lp_model.specs.Lines.{Line}
use Rattle.lp_model.specs.Reading.{Format}
use Rattle.lp_model.specs.Following.{IsLineEnd}
use Rattle.lp_model.proofs.Ordered.{leb_false}
use Rattle.disk_model.specs.Disk.{Files}
use Rattle.ledger_model.specs.Entries.{Entry, Span}
use Rattle.run_model.specs.Logs.{Written, IsLastEnd}
use Rattle.lp_model.specs.Complete.{IsAmong, IsLine}
use Rattle.run_model.specs.Kept.{spans_of, is_of, place_after, kept_place, HasSpan, lies_in, IsTakenOnce, IsLeft}
use Rattle.run_model.specs.Meanings.{Meaning}
use Rattle.run_model.specs.Right.{AreApart, GoesOn, FollowFrom, IsSettled}
use Rattle.run_model.proofs.Spans.{of_or_not, kept_place-push}
use Rattle.lp_model.proofs.CompleteLines.{line_ends, line_order, line_clears}

-- a span of a log begins at a place and goes on to an end of a line
pub record GoesFrom (bytes : List ℕ) (place : ℕ) (span : Span) : Type 0 where
  pub from_is : span.from ≡ place
  pub forward : place ≤ span.to
  pub ends : IsLineEnd bytes span.to

abbrev pub IsChain : List ℕ → List ℕ → ℕ → List Span → Type 0
IsChain bytes identity place [] = ⊤
IsChain bytes identity place (span ∷ spans) = (is_of identity span ≡ true → GoesFrom bytes place span) × IsChain bytes identity (if is_of identity span then span.to else place) spans

-- its next step, by whether the span is one of the log
chain_step : (bytes identity : List ℕ) (place : ℕ) (span : Span) (spans : List Span) → IsChain bytes identity place (span ∷ spans)
    → ((is_of identity span ≡ true) × GoesFrom bytes place span × IsChain bytes identity span.to spans × (place_after identity place (span ∷ spans) ≡ place_after identity span.to spans))
    ⊎ ((is_of identity span ≡ false) × IsChain bytes identity place spans × (place_after identity place (span ∷ spans) ≡ place_after identity place spans))
chain_step bytes identity place span spans (goes, more) = elim (cases_Bool (is_of identity span)) [
  | inl holds ↦ inl (holds, goes holds, rw holds at more, rw holds refl)
  | inr fails ↦ inr (fails, rw fails at more, rw fails refl)
]

chain_append : (bytes identity : List ℕ) (place : ℕ) (xs ys : List Span) → IsChain bytes identity place xs → IsChain bytes identity (place_after identity place xs) ys → IsChain bytes identity place (xs ++ ys)
chain_append bytes identity place [] ys a b = b
chain_append bytes identity place (x ∷ xs) ys (goes, more) b = (goes, chain_append bytes identity (if is_of identity x then x.to else place) xs ys more b)

chain_none : (bytes identity : List ℕ) (place : ℕ) (spans : List Span) → (HasSpan identity spans → ⊥) → IsChain bytes identity place spans
chain_none bytes identity place [] none = tt
chain_none bytes identity place (span ∷ spans) none = ⊎_elim
    (λ of. absurd (none (record { span = span; among = inl refl; same = of.0 })))
    (λ off. ((λ is. absurd (false≢true (sym off.1 ∙ is))), rw off.1 (chain_none bytes identity place spans (λ has. none (record { span = has.span; among = inr has.among; same = has.same })))))
    (of_or_not identity span)

-- the spans of one entry, of which at most one is of the log
chain_entry : (format : Format) (written : Written) (before : List Entry) (bytes identity : List ℕ) → written identity ≡ Some bytes → (spans : List Span) → AreApart spans → AllByRecursion (GoesOn format written before) spans → IsChain bytes identity (kept_place identity before) spans
chain_entry format written before bytes identity is [] apart go = tt
chain_entry format written before bytes identity is (span ∷ spans) (first, apart) (g, go) = ⊎_elim
    (λ of.
    let same : Some g.bytes ≡ Some bytes = sym g.is ∙ ap written of.0 ∙ is in
    let bytes_are : g.bytes ≡ bytes = cc in
    let from : span.from ≡ kept_place identity before = g.from_is ∙ ap (λ i. kept_place i before) of.0 in
    let forward = g.forward in (
      (λ _. record { from_is = from; forward = omega arith; ends = subst (λ (b : List ℕ). IsLineEnd b span.to) bytes_are g.ends }),
      rw of.1 (chain_none bytes identity span.to spans (λ has. first (record { span = has.span; among = has.among; same = has.same ∙ sym of.0 }))),
    ))
    (λ off. ((λ holds. absurd (false≢true (sym off.1 ∙ holds))), rw off.1 (chain_entry format written before bytes identity is spans apart go)))
    (of_or_not identity span)

chain_follow : (meaning : Meaning) (written : Written) (bytes identity : List ℕ) → written identity ≡ Some bytes → (before : List Entry) (files : Files) (entries : List Entry) (after : Files) → FollowFrom meaning written before files entries after
    → IsChain bytes identity (kept_place identity before) (spans_of entries)
chain_follow meaning written bytes identity is before files [] after f = tt
chain_follow meaning written bytes identity is before files (entry ∷ entries) after (next, here, more) =
    chain_append bytes identity (kept_place identity before) entry.spans (spans_of entries)
    (chain_entry (meaning.format entry.input) written before bytes identity is entry.spans here.right.reads.apart here.right.reads.go_on)
    (subst (λ (p : ℕ). IsChain bytes identity p (spans_of entries)) (kept_place-push identity before entry) (chain_follow meaning written bytes identity is (before ++ entry ∷ []) next entries after more))

pub settled_chain : (meaning : Meaning) (written : Written) (start : Files) (entries : List Entry) (files : Files) (bytes identity : List ℕ) → written identity ≡ Some bytes → IsSettled meaning written start entries files → IsChain bytes identity 0 (spans_of entries)
settled_chain meaning written start entries files bytes identity is s = chain_follow meaning written bytes identity is [] start entries files s

chain_forward : (bytes identity : List ℕ) (place : ℕ) (spans : List Span) → IsChain bytes identity place spans → place ≤ place_after identity place spans
chain_forward bytes identity place [] c = omega arith
chain_forward bytes identity place (span ∷ spans) c = ⊎_elim
    (λ of. let more = chain_forward bytes identity span.to spans of.2 in let f = of.1.forward in let e = of.3 in omega arith)
    (λ off. let more = chain_forward bytes identity place spans off.1 in let e = off.2 in omega arith)
    (chain_step bytes identity place span spans c)

-- each span of the log ends by the place where all leave it
pub chain_most : (bytes identity : List ℕ) (place : ℕ) (spans : List Span) → IsChain bytes identity place spans → (span : Span) → IsAmong span spans → span.identity ≡ identity → span.to ≤ place_after identity place spans
chain_most bytes identity place [] c span among same = absurd among
chain_most bytes identity place (other ∷ spans) c span among same = ⊎_elim
    (λ of. let e = of.3 in ⊎_elim
    (λ is. let more = chain_forward bytes identity other.to spans of.2 in let t : span.to ≡ other.to = ap (λ (s : Span). s.to) is in omega arith)
    (λ later. let more = chain_most bytes identity other.to spans of.2 span later same in omega arith)
    among)
    (λ off. let e = off.2 in ⊎_elim
    (λ is. absurd (⊎_elim (λ of. false≢true (sym off.0 ∙ of.1)) (λ not_of. not_of.0 (sym (ap (λ (s : Span). s.identity) is) ∙ same)) (of_or_not identity other)))
    (λ later. let more = chain_most bytes identity place spans off.1 span later same in omega arith)
    among)
    (chain_step bytes identity place other spans c)

pub chain_ends : (bytes identity : List ℕ) (place : ℕ) (spans : List Span) → IsLineEnd bytes place → IsChain bytes identity place spans → IsLineEnd bytes (place_after identity place spans)
chain_ends bytes identity place [] is c = is
chain_ends bytes identity place (span ∷ spans) is c = ⊎_elim
    (λ of. subst (IsLineEnd bytes) (sym of.3) (chain_ends bytes identity span.to spans of.1.ends of.2))
    (λ off. subst (IsLineEnd bytes) (sym off.2) (chain_ends bytes identity place spans is off.1))
    (chain_step bytes identity place span spans c)

-- the kept place of a log is an end of a line
pub kept_ends : (meaning : Meaning) (written : Written) (start : Files) (entries : List Entry) (files : Files) (bytes identity : List ℕ) → written identity ≡ Some bytes → IsSettled meaning written start entries files → IsLineEnd bytes (kept_place identity entries)
kept_ends meaning written start entries files bytes identity is s = chain_ends bytes identity 0 (spans_of entries) (inl refl) (settled_chain meaning written start entries files bytes identity is s)

abbrev one_count : Bool → ℕ
one_count b = if b then 1 else 0

count_cons : (test : Span → Bool) (span : Span) (spans : List Span) → count_by test (span ∷ spans) ≡ one_count (test span) + count_by test spans
count_cons test span spans = sum_by-cons (λ s. one_count (test s)) span spans

count_skip : (test : Span → Bool) (span : Span) (spans : List Span) → test span ≡ false → count_by test (span ∷ spans) ≡ count_by test spans
count_skip test span spans e = let c = count_cons test span spans in let h : one_count (test span) ≡ 0 = ap one_count e in omega arith

count_hit : (test : Span → Bool) (span : Span) (spans : List Span) → test span ≡ true → count_by test (span ∷ spans) ≡ 1 + count_by test spans
count_hit test span spans e = let c = count_cons test span spans in let h : one_count (test span) ≡ 1 = ap one_count e in omega arith

off_log : (identity : List ℕ) (line : Line) (span : Span) → is_of identity span ≡ false → lies_in identity line span ≡ false
off_log identity line span e = rw e refl

too_early : (identity : List ℕ) (line : Line) (span : Span) → line.start < span.from → lies_in identity line span ≡ false
too_early identity line span lt = let e : nat_le span.from line.start ≡ false = leb_false span.from line.start lt in elim (cases_Bool (is_of identity span)) [
  | inl holds ↦ rw (holds, e) refl
  | inr fails ↦ rw fails refl
]

too_late : (identity : List ℕ) (line : Line) (span : Span) → span.to < line.end → lies_in identity line span ≡ false
too_late identity line span lt = let e : nat_le line.end span.to ≡ false = leb_false line.end span.to lt in elim (cases_Bool (is_of identity span)) [
  | inl holds ↦ elim (cases_Bool (nat_le span.from line.start)) [ inl a ↦ rw (holds, a, e) refl | inr a ↦ rw (holds, a) refl ]
  | inr fails ↦ rw fails refl
]

inside : (identity : List ℕ) (line : Line) (span : Span) → is_of identity span ≡ true → span.from ≤ line.start → line.end ≤ span.to → lies_in identity line span ≡ true
inside identity line span of a b = let e : nat_le span.from line.start ≡ true = le-leb span.from line.start a in let f : nat_le line.end span.to ≡ true = le-leb line.end span.to b in rw (of, e, f) refl

module _ (bytes identity : List ℕ) (line : Line) (order : line.start < line.end) (clears : (place : ℕ) → IsLineEnd bytes place → line.start < place → line.end ≤ place) where
  -- a line before the place at which spans find the log lies in none of them
  none_before : (place : ℕ) (spans : List Span) → IsChain bytes identity place spans → line.start < place → count_by (lies_in identity line) spans ≡ 0
  none_before place [] c before = refl
  none_before place (span ∷ spans) c before = ⊎_elim
      (λ of. let f = of.1.forward in let e = of.1.from_is in count_skip (lies_in identity line) span spans (too_early identity line span (omega arith)) ∙ none_before span.to spans of.2 (omega arith))
      (λ off. count_skip (lies_in identity line) span spans (off_log identity line span off.0) ∙ none_before place spans off.1 before)
      (chain_step bytes identity place span spans c)

  -- one behind the place where they leave it too
  none_behind : (place : ℕ) (spans : List Span) → IsChain bytes identity place spans → place_after identity place spans ≤ line.start → count_by (lies_in identity line) spans ≡ 0
  none_behind place [] c behind = refl
  none_behind place (span ∷ spans) c behind = ⊎_elim
      (λ of. let e = of.3 in let more = chain_forward bytes identity span.to spans of.2 in count_skip (lies_in identity line) span spans (too_late identity line span (omega arith)) ∙ none_behind span.to spans of.2 (omega arith))
      (λ off. let e = off.2 in count_skip (lies_in identity line) span spans (off_log identity line span off.0) ∙ none_behind place spans off.1 (omega arith))
      (chain_step bytes identity place span spans c)

  -- and every other lies in exactly one
  one_between : (place : ℕ) (spans : List Span) → IsChain bytes identity place spans → place ≤ line.start → line.start < place_after identity place spans → count_by (lies_in identity line) spans ≡ 1
  one_between place [] c low high = absurd (omega arith)
  one_between place (span ∷ spans) c low high = ⊎_elim
      (λ of. let e = of.3 in let from = of.1.from_is in elim (cases_lt line.start span.to) [
        | inl within ↦
            let all = clears span.to of.1.ends within in
            let rest = none_before span.to spans of.2 within in
            let hit = count_hit (lies_in identity line) span spans (inside identity line span of.0 (omega arith) all) in omega arith
        | inr later ↦
            count_skip (lies_in identity line) span spans (too_late identity line span (omega arith)) ∙ one_between span.to spans of.2 later (omega arith)
      ])
      (λ off. let e = off.2 in count_skip (lies_in identity line) span spans (off_log identity line span off.0) ∙ one_between place spans off.1 low (omega arith))
      (chain_step bytes identity place span spans c)

-- each complete line of a log lies in exactly one span of one entry, or in none and behind the kept place
pub taken_or_left : (meaning : Meaning) (written : Written) (start : Files) (entries : List Entry) (files : Files) (bytes identity : List ℕ) (line : Line) → written identity ≡ Some bytes → IsSettled meaning written start entries files → IsLine bytes line
    → IsTakenOnce identity line entries ⊎ IsLeft identity line entries
taken_or_left meaning written start entries files bytes identity line is s among =
    let chain = settled_chain meaning written start entries files bytes identity is s in
    let order = line_order bytes line among in
    let clears : (place : ℕ) → IsLineEnd bytes place → line.start < place → line.end ≤ place = λ place is_end before. line_clears bytes line place among is_end before in
    elim (cases_lt line.start (kept_place identity entries)) [
      | inl before ↦ inl (record { once = one_between bytes identity line order clears 0 (spans_of entries) chain (omega arith) before })
      | inr behind ↦ inr (record { behind = behind; none = none_behind bytes identity line order clears 0 (spans_of entries) chain behind })
    ]

-- where all lines of a log are taken, no complete line is left
pub none_left : (bytes : List ℕ) (line : Line) (place : ℕ) → IsLine bytes line → IsLastEnd bytes place → place ≤ line.start → ⊥
none_left bytes line place among last behind = let order = line_order bytes line among in let e = last.last line.end (line_ends bytes line among) in omega arith
