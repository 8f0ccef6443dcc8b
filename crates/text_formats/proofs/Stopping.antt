-- What a buffer holds where a text stopped short.
use Rattle.std.proofs.Common.{◌≡◌, ℕ, ℤ, Bool, true, List, [], ◌∷◌, ◌++◌, take, drop, map, flat_map, ap, sym, ◌∙◌, refl, append_assoc, Result, Ok, Err, OnOk}
use Rattle.std.proofs.lemmas.List.{take-append-drop, map-append}
use Rattle.lp_model.specs.Outside.{Begins, GrowsIn}
use Rattle.lp_model.proofs.Buffers.{grows_along}
use Rattle.lp_model.proofs.Growing.{append-nil}
use Rattle.lp_values.specs.Printed.{printed}
use Rattle.lp_values.specs.declared.value.Value.{Value}
use Rattle.output_formats.specs.declared.csv.Headers.{Headers}
use Rattle.output_formats.specs.Headers.{is_headed}
use Rattle.text_formats.specs.declared.style.Style.{Style}
use Rattle.text_formats.specs.Lined.{lined, lined_more}
use Rattle.text_formats.specs.Styles.{line_of}
use Rattle.text_formats.specs.Tsv.{TsvWanted, tsv_style, tsv_line, tsv_head, tsv_of}
use Rattle.text_formats.specs.W3c.{w3c_line, w3c_head, w3c_of}

-- within a text that is made of each item of a list
pub grows_mapped : {X : Type 0} (f : X → ℕ) (xs : List X) (i : ℕ) (start before after : List ℕ) → before ≡ start ++ map f (take i xs) → after ≡ before → GrowsIn start after (map f xs)
grows_mapped f xs i start before after so_far same =
    (map f (take i xs), same ∙ so_far, (map f (drop i xs), ap (map f) (sym (take-append-drop i xs)) ∙ map-append f (take i xs) (drop i xs)))

-- within the head
pub stopped_in_head : {X : Type 0} (head : List ℕ) (line : X → List ℕ) (old new : List ℕ) → GrowsIn old new head → (part : List ℕ) × (new ≡ old ++ part) × ((rows : List X) → Begins part (lined head line rows))
stopped_in_head head line old new (part, added, (rest, whole)) =
    (part, added, λ rows. (rest ++ flat_map line rows, ap (λ t. t ++ flat_map line rows) whole ∙ append_assoc part rest (flat_map line rows)))

-- within a row
pub stopped_in_row : {X : Type 0} (head : List ℕ) (line : X → List ℕ) (row : X) (rows more : List X) (part rest so_far : List ℕ) → line row ≡ part ++ rest → so_far ≡ lined head line rows → Begins (so_far ++ part) (lined head line (rows ++ (row ∷ more)))
stopped_in_row head line row rows more part rest so_far whole is =
    let later = flat_map line more in
    let text : lined head line (rows ++ (row ∷ more)) ≡ so_far ++ (line row ++ later) = lined_more head line rows (row ∷ more) ∙ ap (λ t. t ++ (line row ++ later)) (sym is) in
    let here : line row ++ later ≡ part ++ (rest ++ later) = ap (λ t. t ++ later) whole ∙ append_assoc part rest later in
    (rest ++ later, text ∙ (ap (λ t. so_far ++ t) here ∙ sym (append_assoc so_far part (rest ++ later))))

-- one text behind another
pub behind : (old mid new first second : List ℕ) → mid ≡ old ++ first → new ≡ mid ++ second → new ≡ old ++ (first ++ second)
behind old mid new first second one two = two ∙ (ap (λ t. t ++ second) one ∙ append_assoc old first second)

pub on_ok_map : {T E : Type 0} (P Q : Type 0) (r : Result T E) → (P → Q) → OnOk r P → OnOk r Q
on_ok_map P Q (Ok value) h p = h p
on_ok_map P Q (Err fault) h p = tt

tsv_headed : (headers : Headers) (separator : ℕ) (fresh : Bool) (names : List (List ℕ)) → is_headed headers fresh ≡ true → line_of (tsv_style separator) names ≡ tsv_head headers separator fresh names
tsv_headed headers separator fresh names headed = rw headed refl

-- within the line of names
pub tsv_in_names : (wanted : TsvWanted) (style : Style) (fresh : Bool) (names : List (List ℕ)) (old new : List ℕ) → style ≡ tsv_style wanted.separator → is_headed wanted.headers fresh ≡ true → GrowsIn old new (line_of style names)
    → (part : List ℕ) × (new ≡ old ++ part) × ((rows : List (List Value)) → Begins part (tsv_of wanted fresh names rows))
tsv_in_names wanted style fresh names old new same headed grows =
    stopped_in_head (tsv_head wanted.headers wanted.separator fresh names) (tsv_line wanted.separator) old new
    (grows_along old new _ _ (ap (λ st. line_of st names) same ∙ tsv_headed wanted.headers wanted.separator fresh names headed) grows)

-- within a row
pub tsv_in_row : (wanted : TsvWanted) (style : Style) (values : List Value) (old new : List ℕ) → style ≡ tsv_style wanted.separator → GrowsIn old new (line_of style (map printed values))
    → (part : List ℕ) × (new ≡ old ++ part) × ((fresh : Bool) (names : List (List ℕ)) (rows more : List (List Value)) (so_far : List ℕ) → so_far ≡ tsv_of wanted fresh names rows
    → Begins (so_far ++ part) (tsv_of wanted fresh names (rows ++ (values ∷ more))))
tsv_in_row wanted style values old new same (part, added, (rest, whole)) = (
  part,
  added,
  λ fresh names rows more so_far is.
      stopped_in_row (tsv_head wanted.headers wanted.separator fresh names) (tsv_line wanted.separator) values rows more part rest so_far (sym (ap (λ st. line_of st (map printed values)) same) ∙ whole) is,
)

-- within the directives
pub w3c_in_head : (moment own : ℤ) (fresh : Bool) (names : List (List ℕ)) (old new : List ℕ) → own ≡ moment → GrowsIn old new (w3c_head own names)
    → (part : List ℕ) × (new ≡ old ++ part) × ((rows : List (List Value)) → Begins part (w3c_of moment fresh names rows))
w3c_in_head moment own fresh names old new same grows =
    stopped_in_head (w3c_head moment names) w3c_line old new (grows_along old new _ _ (ap (λ m. w3c_head m names) same) grows)

pub w3c_in_row : (moment : ℤ) (values : List Value) (old new : List ℕ) → GrowsIn old new (w3c_line values)
    → (part : List ℕ) × (new ≡ old ++ part) × ((fresh : Bool) (names : List (List ℕ)) (rows more : List (List Value)) (so_far : List ℕ) → so_far ≡ w3c_of moment fresh names rows
    → Begins (so_far ++ part) (w3c_of moment fresh names (rows ++ (values ∷ more))))
w3c_in_row moment values old new (part, added, (rest, whole)) =
    (part, added, λ fresh names rows more so_far is. stopped_in_row (w3c_head moment names) w3c_line values rows more part rest so_far whole is)

-- nothing stands behind the rows
pub w3c_done : (moment : ℤ) (old new : List ℕ) → new ≡ old
    → (added : List ℕ) × (new ≡ old ++ added) × ((fresh : Bool) (names : List (List ℕ)) (rows : List (List Value)) (so_far : List ℕ) → so_far ≡ w3c_of moment fresh names rows → w3c_of moment fresh names rows ≡ so_far ++ added)
w3c_done moment old new same = ([], same ∙ append-nil old, λ fresh names rows so_far is. sym is ∙ append-nil so_far)

pub on_ok_both : {T E : Type 0} (P Q R : Type 0) (r : Result T E) → (P → Q → R) → OnOk r P → OnOk r Q → OnOk r R
on_ok_both P Q R (Ok value) h p q = h p q
on_ok_both P Q R (Err fault) h p q = tt
