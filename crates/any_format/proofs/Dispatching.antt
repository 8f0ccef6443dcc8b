-- A fact of the format that is held is one of the format.
use Rattle.std.proofs.Common.{◌≡◌, ℕ, Bool, List, [], ◌∷◌, ◌++◌, Result, OnOk, OnErr, ap, sym, ◌∙◌, subst}
use Rattle.lp_model.specs.Outside.{Begins}
use Rattle.lp_model.proofs.Results.{on_err_map}
use Rattle.lp_values.specs.declared.value.Value.{Value}
use Rattle.any_format.specs.declared.format.Format.{Format}
use Rattle.any_format.specs.Formats.{text_of, HasText}

pub begin_err : {T E : Type 0} (r : Result T E) (held format : Format) (fresh : Bool) (names : List (List ℕ)) (old new : List ℕ) → format ≡ held
    → OnErr r ((part : List ℕ) × (new ≡ old ++ part) × ((rows : List (List Value)) → Begins part (text_of held fresh names rows)))
    → OnErr r ((part : List ℕ) × (new ≡ old ++ part) × ((rows : List (List Value)) → Begins part (text_of format fresh names rows)))
begin_err r held format fresh names old new is given =
    let P : Format → Type 0 = λ s. OnErr r ((part : List ℕ) × (new ≡ old ++ part) × ((rows : List (List Value)) → Begins part (text_of s fresh names rows))) in
    subst P (sym is) given

pub row_ok : {T E : Type 0} (r : Result T E) (held format now : Format) (values : List Value) (old new : List ℕ) → format ≡ held
    → OnOk r ((added : List ℕ) × (new ≡ old ++ added) × ((fresh : Bool) (names : List (List ℕ)) (rows : List (List Value)) (so_far : List ℕ) → HasText held fresh names rows so_far → HasText now fresh names (rows ++ values ∷ []) (so_far ++ added)))
    → OnOk r ((added : List ℕ) × (new ≡ old ++ added) × ((fresh : Bool) (names : List (List ℕ)) (rows : List (List Value)) (so_far : List ℕ) → HasText format fresh names rows so_far → HasText now fresh names (rows ++ values ∷ []) (so_far ++ added)))
row_ok r held format now values old new is given =
    let P : Format → Type 0 =
    λ s. OnOk r ((added : List ℕ) × (new ≡ old ++ added) × ((fresh : Bool) (names : List (List ℕ)) (rows : List (List Value)) (so_far : List ℕ) → HasText s fresh names rows so_far → HasText now fresh names (rows ++ values ∷ []) (so_far ++ added))) in
    subst P (sym is) given

pub row_err : {T E : Type 0} (r : Result T E) (held format : Format) (values : List Value) (old new : List ℕ) → format ≡ held
    → OnErr r ((part : List ℕ) × (new ≡ old ++ part) × ((fresh : Bool) (names : List (List ℕ)) (rows more : List (List Value)) (so_far : List ℕ) → HasText held fresh names rows so_far → Begins (so_far ++ part) (text_of held fresh names (rows ++ (values ∷ more)))))
    → OnErr r ((part : List ℕ) × (new ≡ old ++ part) × ((fresh : Bool) (names : List (List ℕ)) (rows more : List (List Value)) (so_far : List ℕ) → HasText format fresh names rows so_far → Begins (so_far ++ part) (text_of format fresh names (rows ++ (values ∷ more)))))
row_err r held format values old new is given =
    let P : Format → Type 0 =
    λ s. OnErr r ((part : List ℕ) × (new ≡ old ++ part) × ((fresh : Bool) (names : List (List ℕ)) (rows more : List (List Value)) (so_far : List ℕ) → HasText s fresh names rows so_far → Begins (so_far ++ part) (text_of s fresh names (rows ++ (values ∷ more))))) in
    subst P (sym is) given

-- a shape that is as it was leaves the format as it was
pub same_held : {A : Type 0} {T E : Type 0} (r : Result T E) (hold : A → Format) (old new : A) (format : Format) → format ≡ hold old → OnErr r (new ≡ old) → OnErr r (hold new ≡ format)
same_held r hold old new format is given = on_err_map _ _ r (λ same. ap hold same ∙ sym is) given

pub end_ok : {T E : Type 0} (r : Result T E) (held format : Format) (old new : List ℕ) → format ≡ held
    → OnOk r ((added : List ℕ) × (new ≡ old ++ added) × ((fresh : Bool) (names : List (List ℕ)) (rows : List (List Value)) (so_far : List ℕ) → HasText held fresh names rows so_far → text_of held fresh names rows ≡ so_far ++ added))
    → OnOk r ((added : List ℕ) × (new ≡ old ++ added) × ((fresh : Bool) (names : List (List ℕ)) (rows : List (List Value)) (so_far : List ℕ) → HasText format fresh names rows so_far → text_of format fresh names rows ≡ so_far ++ added))
end_ok r held format old new is given =
    let P : Format → Type 0 =
    λ s. OnOk r ((added : List ℕ) × (new ≡ old ++ added) × ((fresh : Bool) (names : List (List ℕ)) (rows : List (List Value)) (so_far : List ℕ) → HasText s fresh names rows so_far → text_of s fresh names rows ≡ so_far ++ added)) in
    subst P (sym is) given

pub end_err : {T E : Type 0} (r : Result T E) (held format : Format) (old new : List ℕ) → format ≡ held
    → OnErr r ((part : List ℕ) × (new ≡ old ++ part) × ((fresh : Bool) (names : List (List ℕ)) (rows : List (List Value)) (so_far : List ℕ) → HasText held fresh names rows so_far → Begins (so_far ++ part) (text_of held fresh names rows)))
    → OnErr r ((part : List ℕ) × (new ≡ old ++ part) × ((fresh : Bool) (names : List (List ℕ)) (rows : List (List Value)) (so_far : List ℕ) → HasText format fresh names rows so_far → Begins (so_far ++ part) (text_of format fresh names rows)))
end_err r held format old new is given =
    let P : Format → Type 0 =
    λ s. OnErr r ((part : List ℕ) × (new ≡ old ++ part) × ((fresh : Bool) (names : List (List ℕ)) (rows : List (List Value)) (so_far : List ℕ) → HasText s fresh names rows so_far → Begins (so_far ++ part) (text_of s fresh names rows))) in
    subst P (sym is) given
