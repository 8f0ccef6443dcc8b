-- Values that aren't of one kind.
use Rattle.std.proofs.Common.{◌≡◌, true, ◌||◌, List, [], ◌∷◌, map, length, replicate, Option, Some, None, refl, ◌∙◌, inl, inr, arith, nat_le, le-leb}
use Rattle.std.specs.List.{list_all}
use Rattle.std.proofs.lemmas.Bool.{cases_Bool, and_parts, and_from}
use Rattle.lp_values.specs.declared.kind.Kind.{Kind}
use Rattle.lp_values.specs.declared.kind.Kind.TheVariants as K
use Rattle.lp_values.specs.declared.value.Value.{Value}
use Rattle.lp_values.specs.declared.value.Value.TheVariants as V
use Rattle.lp_values.specs.Kinds.{kind_of}
use Rattle.lp_functions.specs.declared.function.Function.TheVariants as f
use Rattle.lp_functions.specs.declared.place.Place.{Place}
use Rattle.lp_functions.specs.declared.place.Place.TheVariants as P
use Rattle.lp_functions.specs.Choices.{is_of, first_value, chosen, coalesced}
use Rattle.lp_functions.specs.Fitting.{takes, fits, same_kind}
use Rattle.lp_functions.specs.Table.{always, given, given_by, joined, kind_of_call, one_kind}
use Rattle.lp_functions.proofs.FittingLemmas.{fits_all}

open_joined : (a b : Option Kind) → joined a b ≡ None → (a ≡ None) × (b ≡ None)
open_joined None None e = (refl, refl)
open_joined None (Some b) e = cc
open_joined (Some a) None e = cc
open_joined (Some a) (Some b) e = cc

all_taken : (place : Place) (kind : Kind) → ((other : Kind) → (same_kind other K.Any || same_kind other kind) ≡ true → takes place other ≡ true) → (values : List Value) → list_all (is_of kind) values ≡ true → list_all (takes place) (map kind_of values) ≡ true
all_taken place kind covers [] e = refl
all_taken place kind covers (v ∷ values) e =
    let parts = and_parts (is_of kind v) (list_all (is_of kind) values) e in
    and_from (takes place (kind_of v)) (list_all (takes place) (map kind_of values)) (covers (kind_of v) parts.0) (all_taken place kind covers values parts.1)

-- where a row of one kind doesn't fit, some value is of another kind
not_all : (place : Place) (kind : Kind) → ((other : Kind) → (same_kind other K.Any || same_kind other kind) ≡ true → takes place other ≡ true) → (values : List Value)
    → given (always (replicate (length (map kind_of values)) place) kind) (map kind_of values) ≡ None → list_all (is_of kind) values ≡ true → ⊥
not_all place kind covers values none all =
    let fit : fits (replicate (length (map kind_of values)) place) (map kind_of values) ≡ true = fits_all place (map kind_of values) ∙ all_taken place kind covers values all in
    let some = rw fit at none in
    cc

integer : (other : Kind) → (same_kind other K.Any || same_kind other K.Integer) ≡ true → takes P.Integer other ≡ true
integer K.Integer e = refl
integer K.Any e = refl
integer other e = cc

real : (other : Kind) → (same_kind other K.Any || same_kind other K.Real) ≡ true → takes P.Real other ≡ true
real K.Real e = refl
real K.Any e = refl
real other e = cc

text : (other : Kind) → (same_kind other K.Any || same_kind other K.Text) ≡ true → takes P.Text other ≡ true
text K.Text e = refl
text K.Any e = refl
text other e = cc

stamp : (other : Kind) → (same_kind other K.Any || same_kind other K.Stamp) ≡ true → takes P.Stamp other ≡ true
stamp K.Stamp e = refl
stamp K.Any e = refl
stamp other e = cc

-- a choice whose test fails, or that is NULL
refused : (kind : Kind) (first : Value) (values : List Value) → kind_of first ≡ kind → (list_all (is_of kind) values ≡ true → ⊥) → chosen (Some first) values ≡ V.Null
refused kind first values same never =
    rw same
    (elim (cases_Bool (list_all (is_of kind) values)) [
      | inl all ↦ absurd (never all)
      | inr some ↦ rw some refl
    ])

chosen_null : (choice : Option Value) (values : List Value) → given_by (one_kind (length (map kind_of values))) (map kind_of values) ≡ None → chosen choice values ≡ V.Null
chosen_null None values e = refl
chosen_null (Some V.Null) values e = elim (cases_Bool (list_all (is_of K.Any) values)) [ inl all ↦ rw all refl | inr some ↦ rw some refl ]
chosen_null (Some (V.Int n)) values e = refused K.Integer (V.Int n) values refl (not_all P.Integer K.Integer integer values (open_joined _ _ e).0)
chosen_null (Some (V.Real r)) values e = refused K.Real (V.Real r) values refl (not_all P.Real K.Real real values (open_joined _ _ (open_joined _ _ e).1).0)
chosen_null (Some (V.Text t)) values e = refused K.Text (V.Text t) values refl (not_all P.Text K.Text text values (open_joined _ _ (open_joined _ _ (open_joined _ _ e).1).1).0)
chosen_null (Some (V.Stamp s)) values e = refused K.Stamp (V.Stamp s) values refl (not_all P.Stamp K.Stamp stamp values (open_joined _ _ (open_joined _ _ (open_joined _ _ e).1).1).1)

pub coalesce : (a b : Value) (values : List Value) → kind_of_call f.Coalesce (map kind_of (a ∷ b ∷ values)) ≡ None → coalesced (a ∷ b ∷ values) ≡ V.Null
coalesce a b values e =
    let kinds = map kind_of (a ∷ b ∷ values) in
    let many : nat_le 2 (length kinds) ≡ true = le-leb 2 (length kinds) (omega arith) in
    chosen_null (first_value (a ∷ b ∷ values)) (a ∷ b ∷ values) (rw many at e)
