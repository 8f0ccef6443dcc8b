-- Bytes on their way to an output.
use Rattle.std.proofs.Common.{Result, Ok, Err, OnOk, ◌≡◌, ℕ, List, [], ◌++◌, take, drop, sym, ◌∙◌, ap, append_assoc, subst, take-append-drop}
use Rattle.lp_model.proofs.Growing.{append-nil}
use Rattle.text_output.specs.Output.{StageKind, OutputAt, GainsText, GainsFront, MovesText, IsUnderWay}
use Rattle.text_output.specs.Gaining.{gains_nothing, gains_trans, front_all, front_later, front_front}

-- a turn that appends to the buffer, and then moves some of it
pub UnderWay_step : {S : Type 0} {kind : StageKind S} (Old New : List ℕ → Type 0) (start a b : OutputAt kind) (before between after added : List ℕ) → between ≡ before ++ added → MovesText a b between after
    → ((so_far : List ℕ) → Old so_far → New (so_far ++ added)) → IsUnderWay Old start a before → IsUnderWay New start b after
UnderWay_step Old New start a b before between after added appended (moved, gains, parts) step (done, front, text) =
    let same : (done ++ before) ++ added ≡ (done ++ moved) ++ after =
    append_assoc done before added ∙ (ap (λ t. done ++ t) (sym appended ∙ parts) ∙ sym (append_assoc done moved after)) in
    (done ++ moved, gains_trans start a b done moved front gains, subst New same (step (done ++ before) text))

-- some of the buffer was moved
pub UnderWay_move : {S : Type 0} {kind : StageKind S} (HasText : List ℕ → Type 0) (start a b : OutputAt kind) (before after : List ℕ) → MovesText a b before after → IsUnderWay HasText start a before → IsUnderWay HasText start b after
UnderWay_move HasText start a b before after (moved, gains, parts) (done, front, text) =
    (done ++ moved, gains_trans start a b done moved front gains, subst HasText (ap (λ t. done ++ t) parts ∙ sym (append_assoc done moved after)) text)

-- what stands before the rows
pub UnderWay_start : {S : Type 0} {kind : StageKind S} (HasText : List ℕ → Type 0) (start : OutputAt kind) (buffer : List ℕ) → HasText buffer → IsUnderWay HasText start start buffer
UnderWay_start HasText start buffer text = ([], gains_nothing start, text)

-- what stands behind the rows, and all is written
pub UnderWay_end : {S : Type 0} {kind : StageKind S} (HasText : List ℕ → Type 0) (start a b : OutputAt kind) (before between added text : List ℕ) → between ≡ before ++ added
    → ((so_far : List ℕ) → HasText so_far → text ≡ so_far ++ added) → GainsText a b between → IsUnderWay HasText start a before → GainsText start b text
UnderWay_end HasText start a b before between added text appended whole rest (done, front, so_far) =
    let same : text ≡ done ++ between = whole (done ++ before) so_far ∙ (append_assoc done before added ∙ ap (λ t. done ++ t) (sym appended)) in
    rw same (gains_trans start a b done between front rest)

-- what stands behind the rows, of which some is written
pub UnderWay_stop : {S : Type 0} {kind : StageKind S} (HasText : List ℕ → Type 0) (start a : OutputAt kind) (b : S) (before between added text : List ℕ) → between ≡ before ++ added
    → ((so_far : List ℕ) → HasText so_far → text ≡ so_far ++ added) → GainsFront a b between → IsUnderWay HasText start a before → GainsFront start b text
UnderWay_stop HasText start a b before between added text appended whole some (done, front, so_far) =
    let same : text ≡ done ++ between = whole (done ++ before) so_far ∙ (append_assoc done before added ∙ ap (λ t. done ++ t) (sym appended)) in
    subst (λ (t : List ℕ). GainsFront start b t) (sym same) (front_later start a b done between front some)

-- some of the front of a text is some of it
pub front_take : {S : Type 0} {kind : StageKind S} (a : OutputAt kind) (b : S) (count : ℕ) (text front : List ℕ) → front ≡ take count text → GainsFront a b front → GainsFront a b text
front_take a b count text front is_front some =
    let Of : List ℕ → Type 0 = λ t. GainsFront a b t in
    subst Of (take-append-drop count text) (front_front a b (take count text) (drop count text) (subst Of is_front some))

-- all of the front of a text is some of it
pub all_take : {S : Type 0} {kind : StageKind S} (a b : OutputAt kind) (count : ℕ) (text front : List ℕ) → front ≡ take count text → GainsText a b front → GainsFront a b.stage text
all_take a b count text front is_front all =
    let Of : List ℕ → Type 0 = λ t. GainsFront a b.stage t in
    subst Of (take-append-drop count text) (front_all a b (take count text) (drop count text) (subst (λ (t : List ℕ). GainsText a b t) is_front all))

pub on_ok_map : {T E : Type 0} (P Q : Type 0) (r : Result T E) → (P → Q) → OnOk r P → OnOk r Q
on_ok_map P Q (Ok value) h p = h p
on_ok_map P Q (Err fault) h p = tt
