-- Where a run stands in a text, found by small letters in a part of it.
use Rattle.std.specs.Char.{to_ascii_lowercase}
use Rattle.std.proofs.Common.{◌≡◌, ℕ, zero, suc, ◌+◌, ◌-◌, ◌<◌, ◌≤◌, List, [], ◌∷◌, length, take, drop, refl, sym, ap, subst, ◌∙◌, arith, ⊎_elim}
use Rattle.std.proofs.lemmas.Bool.{cases_lt}
use Rattle.std.proofs.lemmas.List.{length-map, length-take, length-drop, drop-map, take-map, drop-take, drop-drop}
use Rattle.memchr.specs.Find.{OccursAt, Nowhere, NoneBefore}
use Rattle.memchr.proofs.lemmas.MatchLemmas.{OccursAt-part, OccursAt-from_part}
use Rattle.text_functions.specs.Runs.{StandsAt, IsFirstStand}
use Rattle.text_functions.proofs.CaseLemmas.{small}

-- the small letters of so many bytes of a text from a place on
abbrev pub window_of : List ℕ → ℕ → ℕ → List ℕ
window_of text at size = small (take size (drop at text))

-- a run stands nowhere before a place
abbrev pub NoStandBefore : List ℕ → List ℕ → ℕ → Type 0
NoStandBefore run text at = (before : ℕ) → before < at → ¬ (StandsAt run text before)

take_less : (m n : ℕ) (xs : List ℕ) → m ≤ n → take m (take n xs) ≡ take m xs
take_less zero n xs le = refl
take_less (suc m) zero xs le = absurd (omega arith)
take_less (suc m) (suc n) [] le = refl
take_less (suc m) (suc n) (x ∷ xs) le = ap (λ t. x ∷ t) (take_less m n xs (omega arith))

-- so many bytes of a window from a place of it on
window_part : (text : List ℕ) (at size k m : ℕ) → k + m ≤ size → take m (drop k (window_of text at size)) ≡ small (take m (drop (at + k) text))
window_part text at size k m fits =
    let rest : List ℕ = drop at text in
    let room : k + (size - k) ≡ size = omega arith in
    let behind : drop k (take size rest) ≡ take (size - k) (drop k rest) = ap (λ (n : ℕ). drop k (take n rest)) (sym room) ∙ drop-take k (size - k) rest in
    let less : take m (take (size - k) (drop k rest)) ≡ take m (drop k rest) = take_less m (size - k) (drop k rest) (omega arith) in
    let there : take m (drop k (take size rest)) ≡ take m (drop (at + k) text) = ap (take m) behind ∙ (less ∙ ap (take m) (drop-drop k at text)) in
    ap (take m) (drop-map to_ascii_lowercase k (take size rest)) ∙ (take-map to_ascii_lowercase m (drop k (take size rest)) ∙ ap small there)

-- an occurrence in a window is a stand in the text
pub occurs_stands : (run text : List ℕ) (at size k : ℕ) → OccursAt (window_of text at size) (small run) k → (k + length run ≤ size) × StandsAt run text (at + k)
occurs_stands run text at size k occurs =
    let rest : List ℕ = drop at text in
    let sizes : length (small run) ≡ length run = length-map run to_ascii_lowercase in
    let whole : length (window_of text at size) ≡ length (take size rest) = length-map (take size rest) to_ascii_lowercase in
    let fits : k + length (small run) ≤ length (window_of text at size) = occurs.fits in
    let room : k + length run ≤ size = omega (arith, length-take size rest) in (
      room,
      sym (window_part text at size k (length run) room)
          ∙ (ap (λ (n : ℕ). take n (drop k (window_of text at size))) (sym sizes) ∙ OccursAt-part (window_of text at size) (small run) k occurs),
    )

-- and the other way round
pub stands_occurs : (run text : List ℕ) (at size k : ℕ) → at + size ≤ length text → k + length run ≤ size → StandsAt run text (at + k) → OccursAt (window_of text at size) (small run) k
stands_occurs run text at size k within fits stands =
    let rest : List ℕ = drop at text in
    let sizes : length (small run) ≡ length run = length-map run to_ascii_lowercase in
    let whole : length (window_of text at size) ≡ length (take size rest) = length-map (take size rest) to_ascii_lowercase in
    let room : k + length (small run) ≤ length (window_of text at size) = omega (arith, length-take size rest, length-drop at text) in
    OccursAt-from_part (window_of text at size) (small run) k room
    (ap (λ (n : ℕ). take n (drop k (window_of text at size))) sizes ∙ (window_part text at size k (length run) fits ∙ stands))

-- no stand before the first occurrence
none_before_occurrence : (run text : List ℕ) (at size bound : ℕ) → at + size ≤ length text → bound + length run ≤ size + 1 → NoStandBefore run text at
    → Nowhere (OccursAt (window_of text at size) (small run)) 0 bound → NoStandBefore run text (at + bound)
none_before_occurrence run text at size bound within fits none nowhere before lt stands = ⊎_elim
    (λ low. none before low stands)
    (λ high.
    let k : ℕ = before - at in
    let there : before ≡ at + k = omega arith in
    nowhere k (omega arith) (omega arith) (stands_occurs run text at size k within (omega arith) (subst (StandsAt run text) there stands)))
    (cases_lt before at)

pub first_in_window : (run text : List ℕ) (at size k : ℕ) → at + size ≤ length text → NoStandBefore run text at
    → NoneBefore (OccursAt (window_of text at size) (small run)) 0 (length (window_of text at size) + 1) k → OccursAt (window_of text at size) (small run) k → IsFirstStand run text (at + k)
first_in_window run text at size k within none before occurs =
    let here = occurs_stands run text at size k occurs in
    record {
      here = here.1;
      first = none_before_occurrence run text at size k within (omega (arith, here.0)) none before.before;
    }

pub none_in_window : (run text : List ℕ) (at size : ℕ) → at + size ≤ length text → length run ≤ size → NoStandBefore run text at
    → Nowhere (OccursAt (window_of text at size) (small run)) 0 (length (window_of text at size) + 1) → NoStandBefore run text (at + (size - length run + 1))
none_in_window run text at size within fits none nowhere =
    let rest : List ℕ = drop at text in
    let whole : length (window_of text at size) ≡ length (take size rest) = length-map (take size rest) to_ascii_lowercase in
    none_before_occurrence run text at size (size - length run + 1) within (omega arith) none
    (λ k low lt. nowhere k low (omega (arith, length-take size rest, length-drop at text)))

-- small letters that were put into a buffer are a window
pub window_is : (text behind part buffer hay : List ℕ) (at size : ℕ) → at + size ≤ length text → behind ≡ drop at text → part ≡ take size behind → take (length part) buffer ≡ small part → hay ≡ take size buffer
    → hay ≡ window_of text at size
window_is text behind part buffer hay at size within from cut put is =
    let whole : part ≡ take size (drop at text) = cut ∙ ap (take size) from in
    let many : length part ≡ length (take size (drop at text)) = ap length whole in
    let sizes : length part ≡ size = omega (arith, length-take size (drop at text), length-drop at text) in
    is ∙ (ap (λ (n : ℕ). take n buffer) (sym sizes) ∙ (put ∙ ap small whole))
