-- The first log that a run keeps for itself.
use Rattle.std.proofs.Common.{◌≡◌, ◌∙◌, ◌||◌, ◌++◌, ℕ, Bool, true, false, List, [], ◌∷◌, map, codes, bytes_eq, Option, Some, None, option_map, if◌then◌else◌, refl, ap, sym, inl, inr}
use Rattle.std.proofs.lemmas.Bool.{cases_Bool}
use Rattle.std.specs.List.{find}
use Rattle.log_reading.specs.declared.span.Span.{Span}
use Rattle.subqueries.specs.Listing.{first_own}

module _ (own : List ℕ → Bool) (tells : Span → Bool) (same : (span : Span) → tells span ≡ own span.name) where
  find_own : (spans : List Span) → option_map (λ (span : Span). span.name) (find tells spans) ≡ find own (map (λ (span : Span). span.name) spans)
  find_own [] = refl
  find_own (s ∷ ss) =
      let First : Bool → Option Span = λ b. if b then Some s else find tells ss in
      let Named : Bool → Option (List ℕ) = λ b. if b then Some s.name else find own (map (λ (span : Span). span.name) ss) in
      elim (cases_Bool (tells s)) [
        | inl holds ↦ ap (λ (b : Bool). option_map (λ (span : Span). span.name) (First b)) holds ∙ sym (ap Named (sym (same s) ∙ holds))
        | inr fails ↦ ap (λ (b : Bool). option_map (λ (span : Span). span.name) (First b)) fails ∙ (find_own ss ∙ sym (ap Named (sym (same s) ∙ fails)))
      ]

or_none : (a b : Bool) → (a || b) ≡ (a || (b || false))
or_none true b = refl
or_none false true = refl
or_none false false = refl

-- the name of the first span that is the ledger or the stage
pub own_found : (ledger stage : List ℕ) (spans : List Span) → stage ≡ ledger ++ codes ".stage"
    → option_map (λ (span : Span). span.name) (find (λ (span : Span). bytes_eq span.name ledger || bytes_eq span.name stage) spans) ≡ first_own (Some ledger) (map (λ (span : Span). span.name) spans)
own_found ledger stage spans is =
    find_own (λ name. bytes_eq name ledger || (bytes_eq name stage || false)) (λ (span : Span). bytes_eq span.name ledger || bytes_eq span.name stage) (λ span. or_none (bytes_eq span.name ledger) (bytes_eq span.name stage)) spans
    ∙ ap (λ (s : List ℕ). find (λ name. bytes_eq name ledger || (bytes_eq name s || false)) (map (λ (span : Span). span.name) spans)) is

-- a run without a checkpoint keeps none
pub none_own : (names : List (List ℕ)) → None ≡ first_own None names
none_own [] = refl
none_own (name ∷ names) = none_own names
