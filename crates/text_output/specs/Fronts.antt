-- A text that is under way: the front of it is written.
use Rattle.std.specs.Prelude.{◌≡◌, ℕ, Bool, List, [], ◌∷◌, ◌++◌}
use Rattle.std.proofs.Common.{ap, sym, ◌∙◌, subst, append_assoc}
use Rattle.lp_model.specs.Outside.{Begins}
use Rattle.lp_values.specs.declared.value.Value.{Value}
use Rattle.text_output.specs.Output.{StageKind, OutputAt, GainsFront, IsUnderWay}
use Rattle.text_output.specs.Gaining.{front_all, front_later, front_front}

-- the text of named rows by a shape, for an output that begins empty or not
abbrev pub TextOf : Type 0 → Type 0
TextOf F = F → Bool → List (List ℕ) → List (List Value) → List ℕ

-- these bytes are that text as far as it has come
abbrev pub HasTextOf : Type 0 → Type 1
HasTextOf F = F → Bool → List (List ℕ) → List (List Value) → List ℕ → Type 0

-- what is out begins the whole text, whatever rows follow
abbrev pub BeginsOf : {F : Type 0} → TextOf F → HasTextOf F → Type 0
BeginsOf {F} text has_text = (s : F) (fresh : Bool) (names : List (List ℕ)) (rows more : List (List Value)) (so_far : List ℕ) → has_text s fresh names rows so_far → Begins so_far (text s fresh names (rows ++ more))

-- what is under way has written the front of what it begins
pub front_of : {F : Type 0} {S : Type 0} {kind : StageKind S} (text : TextOf F) (has_text : HasTextOf F) (begins : BeginsOf text has_text)
    (shape : F) (fresh : Bool) (names : List (List ℕ)) (rows more : List (List Value)) (start now : OutputAt kind) (buffer : List ℕ) → IsUnderWay (has_text shape fresh names rows) start now buffer → GainsFront start now.stage (text shape fresh names (rows ++ more))
front_of text has_text begins shape fresh names rows more start now buffer (done, gains, so_far) =
    let whole = begins shape fresh names rows more (done ++ buffer) so_far in
    subst (λ (t : List ℕ). GainsFront start now.stage t) (sym (whole.1 ∙ append_assoc done buffer whole.0)) (front_all start now done (buffer ++ whole.0) gains)

-- a row went to the buffer, of which some was written
pub front_failed : {F : Type 0} {S : Type 0} {kind : StageKind S} (text : TextOf F) (has_text : HasTextOf F) (begins : BeginsOf text has_text)
    (old new : F) (fresh : Bool) (names : List (List ℕ)) (rows : List (List Value)) (row : List Value) (more : List (List Value)) (start a : OutputAt kind) (b : S) (before mid added : List ℕ)
    → mid ≡ before ++ added → ((so_far : List ℕ) → has_text old fresh names rows so_far → has_text new fresh names (rows ++ row ∷ []) (so_far ++ added)) → text new ≡ text old
    → IsUnderWay (has_text old fresh names rows) start a before → GainsFront a b mid → GainsFront start b (text old fresh names (rows ++ (row ∷ more)))
front_failed text has_text begins old new fresh names rows row more start a b before mid added appended step format (done, gains, so_far) some =
    let whole = begins new fresh names (rows ++ row ∷ []) more ((done ++ before) ++ added) (step (done ++ before) so_far) in
    let here : (done ++ before) ++ added ≡ done ++ mid = append_assoc done before added ∙ ap (λ t. done ++ t) (sym appended) in
    let same : text old fresh names (rows ++ (row ∷ more)) ≡ (done ++ mid) ++ whole.0 =
    ap (text old fresh names) (sym (append_assoc rows (row ∷ []) more)) ∙ (ap (λ t. t fresh names ((rows ++ row ∷ []) ++ more)) (sym format)
    ∙ (whole.1 ∙ ap (λ t. t ++ whole.0) here)) in
    subst (λ (t : List ℕ). GainsFront start b t) (sym same) (front_front start b (done ++ mid) whole.0 (front_later start a b done mid gains some))

-- some of what was held was written
pub front_moved : {F : Type 0} {S : Type 0} {kind : StageKind S} (text : TextOf F) (has_text : HasTextOf F) (begins : BeginsOf text has_text)
    (shape : F) (fresh : Bool) (names : List (List ℕ)) (rows more : List (List Value)) (start a : OutputAt kind) (b : S) (before : List ℕ)
    → IsUnderWay (has_text shape fresh names rows) start a before → GainsFront a b before → GainsFront start b (text shape fresh names (rows ++ more))
front_moved text has_text begins shape fresh names rows more start a b before (done, gains, so_far) some =
    let whole = begins shape fresh names rows more (done ++ before) so_far in
    subst (λ (t : List ℕ). GainsFront start b t) (sym whole.1) (front_front start b (done ++ before) whole.0 (front_later start a b done before gains some))
