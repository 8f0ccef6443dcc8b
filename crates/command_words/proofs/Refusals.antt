-- Words have one refusal at most, and fine words have none.
use Rattle.std.proofs.Common.{◌≡◌, ◌<◌, ℕ, List, Option, Some, None, inl, inr, sym, ap, ◌∙◌, arith}
use Rattle.std.proofs.lemmas.Bool.{cases_lt}
use Rattle.command_words.specs.declared.usage.UsageKind.{UsageKind}
use Rattle.command_words.specs.declared.usage.UsageFault.{UsageFault}
use Rattle.command_words.specs.Usage.{fault_at, IsFirstFault, lack_of, AreFine, IsUsageFault, fault_of}

some_none : {X : Type 0} (x : X) (o : Option X) → o ≡ None → o ≡ Some x → ⊥
some_none x o none some = cc

-- the first fault is the only one
not_before : (words : List (List ℕ)) (f g : UsageFault) → IsFirstFault words f → IsFirstFault words g → f.word < g.word → ⊥
not_before words f g first second before = some_none f.kind (fault_at words f.word) (second.none_before f.word before) first.here

same_place : (words : List (List ℕ)) (f g : UsageFault) → IsFirstFault words f → IsFirstFault words g → f.word ≡ g.word
same_place words f g first second = elim (cases_lt f.word g.word) [
  | inl before ↦ absurd (not_before words f g first second before)
  | inr behind ↦ elim (cases_lt g.word f.word) [
    | inl before ↦ absurd (not_before words g f second first before)
    | inr ahead ↦ omega arith
  ]
]

some_same : {X : Type 0} (x y : X) (o : Option X) → o ≡ Some x → o ≡ Some y → x ≡ y
some_same x y o a b = cc

same_first : (words : List (List ℕ)) (f g : UsageFault) → IsFirstFault words f → IsFirstFault words g → f ≡ g
same_first words f g first second =
    let place = same_place words f g first second in
    let kind : f.kind ≡ g.kind = some_same f.kind g.kind (fault_at words g.word) (ap (fault_at words) (sym place) ∙ first.here) second.here in
    ap (fault_of f.kind) place ∙ ap (λ (k : UsageKind). fault_of k g.word) kind

-- two refusals of the same words are one
pub same_refusal : (words : List (List ℕ)) (f g : UsageFault) → IsUsageFault words f → IsUsageFault words g → f ≡ g
same_refusal words f g (inl first) (inl second) = same_first words f g first second
same_refusal words f g (inl first) (inr second) = absurd (some_none f.kind (fault_at words f.word) (second.0 f.word) first.here)
same_refusal words f g (inr first) (inl second) = absurd (some_none g.kind (fault_at words g.word) (first.0 g.word) second.here)
same_refusal words f g (inr first) (inr second) = some_same f g (lack_of words) first.1 second.1

-- words that are fine have none
pub never_both : (words : List (List ℕ)) (f : UsageFault) → AreFine words → IsUsageFault words f → ⊥
never_both words f fine (inl first) = some_none f.kind (fault_at words f.word) (fine.each f.word) first.here
never_both words f fine (inr second) = some_none f (lack_of words) fine.whole second.1
