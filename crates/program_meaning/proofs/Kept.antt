-- A query has the same lists wherever the same values are kept.
use Rattle.std.proofs.Common.{◌≡◌, ◌*ℤ◌, ℕ, List, [], ◌∷◌, map, pos, refl, sym, ◌∙◌, ap}
use Rattle.std.specs.Prelude.{fold, nat_eq, true}
use Rattle.std.specs.Cmp.Lexicographic.{pointwise}
use Rattle.std.specs.Ordering.{int_eq}
use Rattle.grammar.specs.Filled.{PlacedGiven, asked_places, filled}
use Rattle.grammar.specs.Trees.{Query}
use Rattle.in_set.specs.Facts.{Facts, facts_of, no_facts, with_value}
use Rattle.indexmap.specs.IndexSet.{insert_key}
use Rattle.ledger.specs.Written.{kept_of}
use Rattle.ledger_model.specs.Entries.{Kept, null, int, real, text, stamp}
use Rattle.lp_values.specs.declared.kind.Kind.TheVariants as K
use Rattle.lp_values.specs.declared.value.Value.{Value}
use Rattle.lp_values.specs.declared.value.Value.TheVariants.{Null, Int, Real, Text, Stamp}
use Rattle.program_meaning.specs.Lists.{lists_at, with_lists}

-- what is kept of a value tells its facts
abbrev with_kept : Facts → Kept → Facts
with_kept facts null = record facts { nulls = true }
with_kept facts (int number) = record facts { numbers = insert_key int_eq facts.numbers (number *ℤ pos 1_000_000) }
with_kept facts (real millionths) = record facts { numbers = insert_key int_eq facts.numbers millionths }
with_kept facts (text t) = record facts { texts = insert_key (pointwise nat_eq) facts.texts t }
with_kept facts (stamp part seconds) = record facts { stamps = insert_key int_eq facts.stamps seconds }

value_kept : (facts : Facts) (value : Value) → with_value facts value ≡ with_kept facts (kept_of value)
value_kept facts Null = refl
value_kept facts (Int number) = refl
value_kept facts (Real number) = refl
value_kept facts (Text t) = refl
value_kept facts (Stamp s) = refl

facts_kept : (facts : Facts) (values : List Value) → fold with_value facts values ≡ fold with_kept facts (map kept_of values)
facts_kept facts [] = refl
facts_kept facts (value ∷ values) = facts_kept (with_value facts value) values ∙ ap (λ (f : Facts). fold with_kept f (map kept_of values)) (value_kept facts value)

abbrev kept_at : List ℕ → List (List Kept) → List PlacedGiven
kept_at (at ∷ places) (kept ∷ lists) = record { at = at; given = record { place = at; kind = K.Any; values = fold with_kept no_facts kept; logs = []; bad = 0 } } ∷ kept_at places lists
kept_at places lists = []

all_kept : (places : List ℕ) (lists : List (List Value)) → lists_at places lists ≡ kept_at places (map (map kept_of) lists)
all_kept [] lists = refl
all_kept (at ∷ places) [] = refl
all_kept (at ∷ places) (values ∷ lists) = λ i. record { at = at; given = record { place = at; kind = K.Any; values = facts_kept no_facts values i; logs = []; bad = 0 } } ∷ all_kept places lists i

pub one_filled : (a b : List (List Value)) → map (map kept_of) a ≡ map (map kept_of) b → (q : Query) → with_lists a q ≡ with_lists b q
one_filled a b same q =
    let places : List ℕ = asked_places q in
    ap (λ (givens : List PlacedGiven). filled givens q) (all_kept places a ∙ (ap (kept_at places) same ∙ sym (all_kept places b)))
