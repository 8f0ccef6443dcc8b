-- The greatest generation among places, with one place more.
use Rattle.std.proofs.Common.{◌≡◌, ◌⊎◌, ℕ, zero, suc, ◌≤◌, List, [], ◌∷◌, ◌++◌, Contains, Option, Some, None, IsSome, is_some, refl, sym, ◌∙◌, ap, subst, inl, inr, ⊎_elim, arith}
use Rattle.std.proofs.lemmas.Bool.{false≢true}
use Rattle.std.proofs.lemmas.List.{append_cancel_left}
use Rattle.std.proofs.lemmas.List.Elements.{Contains-append_left, Contains-append_right, Contains-append_cases}
use Rattle.run_model.proofs.Generations.{one_text}
use Rattle.generations.specs.Numbers.{IsIdentityOf, IsNoIdentity}
use Rattle.positions.specs.declared.place.Place.{Place}
use Rattle.positions.specs.Places.{Places}
use Rattle.positions.specs.SpanSteps.{IsKeptAmong, IsKnownAmong, KnowsMore}

abbrev Entry : Type 0
Entry = List ℕ × Option Place

only_entry : (entry other : Entry) → Contains (entry ∷ []) other → other ≡ entry
only_entry entry other (zero, within, is) = sym is
only_entry entry other (suc k, within, is) = absurd (omega (arith, within))

one_identity : (front identity : List ℕ) (a b : ℕ) → IsIdentityOf front identity a → IsIdentityOf front identity b → a ≡ b
one_identity front identity a b f g = one_text a b (sym f.is.is ∙ (append_cancel_left front f.text g.text (sym f.parts ∙ g.parts) ∙ g.is.is))

among_more : (front : List ℕ) (entries : Places) (entry : Entry) (number : ℕ) → IsKeptAmong front entries number → IsKeptAmong front (entries ++ entry ∷ []) number
among_more front entries entry number kept = record { identity = kept.identity; place = kept.place; among = Contains-append_left entries (entry ∷ []) (kept.identity, kept.place) kept.among; is = kept.is; kept = kept.kept }

among_last : (front : List ℕ) (entries : Places) (identity : List ℕ) (place : Option Place) (number : ℕ) → IsIdentityOf front identity number → IsSome place → IsKeptAmong front (entries ++ (identity, place) ∷ []) number
among_last front entries identity place number is some = record { identity = identity; place = place; among = Contains-append_right entries ((identity, place) ∷ []) (identity, place) (0, omega arith, refl); is = is; kept = some }

-- what is kept among these and one more is kept among these, or is the one more
among_cases : (front : List ℕ) (entries : Places) (identity : List ℕ) (place : Option Place) (number : ℕ) → IsKeptAmong front (entries ++ (identity, place) ∷ []) number → IsKeptAmong front entries number ⊎ (IsIdentityOf front identity number × IsSome place)
among_cases front entries identity place number kept = ⊎_elim
    (λ before. inl (record { identity = kept.identity; place = kept.place; among = before; is = kept.is; kept = kept.kept }))
    (λ last.
    let same : (kept.identity, kept.place) ≡ (identity, place) = only_entry (identity, place) (kept.identity, kept.place) last in
    inr (subst (λ (i : List ℕ). IsIdentityOf front i number) (ap (λ (e : Entry). e.0) same) kept.is, subst (λ (p : Option Place). IsSome p) (ap (λ (e : Entry). e.1) same) kept.kept))
    (Contains-append_cases entries ((identity, place) ∷ []) (kept.identity, kept.place) kept.among)

stays_at : (front : List ℕ) (entries : Places) (identity : List ℕ) (place : Option Place) (known : Option ℕ) → ((number : ℕ) → IsIdentityOf front identity number → IsSome place → ⊥) → IsKnownAmong front entries known → IsKnownAmong front (entries ++ (identity, place) ∷ []) known
stays_at front entries identity place None none knows = λ number kept. ⊎_elim (λ before. knows number before) (λ last. none number last.0 last.1) (among_cases front entries identity place number kept)
stays_at front entries identity place (Some known) none knows = (among_more front entries (identity, place) known knows.0, λ other kept. ⊎_elim (λ before. knows.1 other before) (λ last. absurd (none other last.0 last.1)) (among_cases front entries identity place other kept))

-- a place that is none of a generation
pub no_place : (front identity : List ℕ) (place : Option Place) (known : Option ℕ) → place ≡ None → KnowsMore front identity place known known
no_place front identity place known none = λ entries knows. stays_at front entries identity place known (λ number is some. false≢true (sym (ap is_some none) ∙ some)) knows

pub no_number : (front identity : List ℕ) (place : Option Place) (known : Option ℕ) → IsNoIdentity front identity → KnowsMore front identity place known known
no_number front identity place known none = λ entries knows. stays_at front entries identity place known (λ number is some. none number is) knows

-- the first one that is known
pub first_number : (front identity : List ℕ) (place : Option Place) (number : ℕ) → IsSome place → IsIdentityOf front identity number → KnowsMore front identity place None (Some number)
first_number front identity place number some is = λ entries knows. (
  among_last front entries identity place number is some,
  λ other kept. ⊎_elim (λ before. absurd (knows other before)) (λ last. let e = one_identity front identity other number last.0 is in omega (arith, e)) (among_cases front entries identity place other kept),
)

-- the greater one
pub more_number : (front identity : List ℕ) (place : Option Place) (known number greater : ℕ) → IsSome place → IsIdentityOf front identity number → known ≤ greater → number ≤ greater → (greater ≡ known) ⊎ (greater ≡ number) → KnowsMore front identity place (Some known) (Some greater)
more_number front identity place known number greater some is low high one = λ entries knows. (
  ⊎_elim (λ e. subst (λ (n : ℕ). IsKeptAmong front (entries ++ (identity, place) ∷ []) n) (sym e) (among_more front entries (identity, place) known knows.0)) (λ e. subst (λ (n : ℕ). IsKeptAmong front (entries ++ (identity, place) ∷ []) n) (sym e) (among_last front entries identity place number is some)) one,
  λ other kept. ⊎_elim (λ before. let le = knows.1 other before in omega (arith, le, low)) (λ last. let e = one_identity front identity other number last.0 is in omega (arith, e, high)) (among_cases front entries identity place other kept),
)
