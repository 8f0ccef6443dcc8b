-- Where spans leave a log.
use Rattle.std.proofs.Common.{◌≡◌, ◌≢◌, ◌⊎◌, ⊎_elim, ℕ, true, false, List, [], ◌∷◌, ◌++◌, refl, sym, ◌∙◌, ap, inl, inr, append_assoc}
use Rattle.std.specs.Prelude.{bytes_eq, if◌then◌else◌}
use Rattle.std.proofs.lemmas.Bool.{cases_Bool, false≢true}
use Rattle.std.proofs.lemmas.Slice.Eq.{bytes_eq-Decides}
use Rattle.ledger_model.specs.Entries.{Entry, Span}
use Rattle.lp_model.specs.Complete.{IsAmong}
use Rattle.run_model.specs.Kept.{spans_of, is_of, place_after, kept_place, HasSpan}

-- a span is of a log or isn't
pub of_or_not : (identity : List ℕ) (span : Span) → ((span.identity ≡ identity) × (is_of identity span ≡ true)) ⊎ ((span.identity ≢ identity) × (is_of identity span ≡ false))
of_or_not identity span = elim (cases_Bool (is_of identity span)) [
  | inl holds ↦ inl ((bytes_eq-Decides span.identity identity).0 holds, holds)
  | inr fails ↦ inr ((λ e. false≢true (sym fails ∙ (bytes_eq-Decides span.identity identity).1 e)), fails)
]

pub same_or_not : (a b : List ℕ) → (a ≡ b) ⊎ (a ≢ b)
same_or_not a b = elim (cases_Bool (bytes_eq a b)) [
  | inl holds ↦ inl ((bytes_eq-Decides a b).0 holds)
  | inr fails ↦ inr (λ e. false≢true (sym fails ∙ (bytes_eq-Decides a b).1 e))
]

pub spans_of-append : (xs ys : List Entry) → spans_of (xs ++ ys) ≡ spans_of xs ++ spans_of ys
spans_of-append [] ys = refl
spans_of-append (x ∷ xs) ys = ap (λ t. x.spans ++ t) (spans_of-append xs ys) ∙ sym (append_assoc x.spans (spans_of xs) (spans_of ys))

nil : {X : Type 0} (xs : List X) → xs ++ [] ≡ xs
nil [] = refl
nil (x ∷ xs) = ap (λ t. x ∷ t) (nil xs)

pub spans_of-push : (xs : List Entry) (entry : Entry) → spans_of (xs ++ entry ∷ []) ≡ spans_of xs ++ entry.spans
spans_of-push xs entry = spans_of-append xs (entry ∷ []) ∙ ap (λ t. spans_of xs ++ t) (nil entry.spans)

pub place_after-append : (identity : List ℕ) (place : ℕ) (xs ys : List Span) → place_after identity place (xs ++ ys) ≡ place_after identity (place_after identity place xs) ys
place_after-append identity place [] ys = refl
place_after-append identity place (x ∷ xs) ys = place_after-append identity (if is_of identity x then x.to else place) xs ys

pub kept_place-push : (identity : List ℕ) (xs : List Entry) (entry : Entry) → kept_place identity (xs ++ entry ∷ []) ≡ place_after identity (kept_place identity xs) entry.spans
kept_place-push identity xs entry = ap (place_after identity 0) (spans_of-push xs entry) ∙ place_after-append identity 0 (spans_of xs) entry.spans

-- a log that no span is of stays where it is
pub place_stays : (identity : List ℕ) (place : ℕ) (spans : List Span) → (HasSpan identity spans → ⊥) → place_after identity place spans ≡ place
place_stays identity place [] none = refl
place_stays identity place (span ∷ spans) none = ⊎_elim
    (λ yes. absurd (none (record { span = span; among = inl refl; same = yes.0 })))
    (λ no. rw no.1 (place_stays identity place spans (λ has. none (record { span = has.span; among = inr has.among; same = has.same }))))
    (of_or_not identity span)

-- a log is left where it was, and no span is of it, or where a span of it ends
pub record EndsWith (identity : List ℕ) (spans : List Span) (place : ℕ) : Type 0 where
  pub span : Span
  pub among : IsAmong span spans
  pub same : span.identity ≡ identity
  pub place_is : place ≡ span.to

pub place_cases : (identity : List ℕ) (place : ℕ) (spans : List Span) → ((HasSpan identity spans → ⊥) × (place_after identity place spans ≡ place)) ⊎ EndsWith identity spans (place_after identity place spans)
place_cases identity place [] = inl ((λ has. has.among), refl)
place_cases identity place (span ∷ spans) = ⊎_elim
    (λ yes. let here : place_after identity place (span ∷ spans) ≡ place_after identity span.to spans = rw yes.1 refl in ⊎_elim
    (λ none. inr (record { span = span; among = inl refl; same = yes.0; place_is = here ∙ none.1 }))
    (λ ends. inr (record { span = ends.span; among = inr ends.among; same = ends.same; place_is = here ∙ ends.place_is }))
    (place_cases identity span.to spans))
    (λ no. let here : place_after identity place (span ∷ spans) ≡ place_after identity place spans = rw no.1 refl in ⊎_elim
    (λ none. inl ((λ has. ⊎_elim (λ e. no.0 (sym (ap (λ (s : Span). s.identity) e) ∙ has.same)) (λ more. none.0 (record { span = has.span; among = more; same = has.same })) has.among), here ∙ none.1))
    (λ ends. inr (record { span = ends.span; among = inr ends.among; same = ends.same; place_is = here ∙ ends.place_is }))
    (place_cases identity place spans))
    (of_or_not identity span)
