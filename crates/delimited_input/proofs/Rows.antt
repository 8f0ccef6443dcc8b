-- Rows of the fields that were cut.
use Rattle.std.proofs.Common.{◌≡◌, ℕ, suc, ◌+◌, ◌-◌, ◌<◌, ◌≤◌, Bool, true, false, nat_le, List, [], ◌∷◌, ◌++◌, length, map, replicate, None, refl, sym, ap, ◌∙◌, arith, append_assoc}
use Rattle.std.proofs.lemmas.Bool.{leb-true}
use Rattle.std.proofs.lemmas.List.{append-nil, length-map, take_all}
use Rattle.lp_model.specs.Reading.{Slots, bad, rows}
use Rattle.line_input.specs.declared.slot.Slot.{Slot}
use Rattle.line_input.specs.Taken.{slot_bytes, slots_of}
use Rattle.delimited_input.specs.Cuts.{IsCut}
use Rattle.delimited_input.specs.Lines.{slot_of, row_reading}

pub padded_more : (many : ℕ) (xs : Slots) (n m : ℕ) → n < many → m ≡ n + 1 → xs ++ replicate (many - n) None ≡ (xs ++ None ∷ []) ++ replicate (many - m) None
padded_more many xs n m below e =
    let one : many - n ≡ suc (many - m) = omega arith in
    rw one (sym (append_assoc xs (None ∷ []) (replicate (many - m) None)))

pub padded_all : (many : ℕ) (xs : Slots) (n : ℕ) → many ≤ n → xs ++ replicate (many - n) None ≡ xs
padded_all many xs n full = let none : many - n ≡ 0 = omega arith in rw none (append-nil xs)

-- all fields were cut
pub cut_whole : (line : List ℕ) (fields : List (List ℕ)) (most : ℕ) (row : List Slot) (all : Bool) → IsCut line fields most row all → all ≡ true
    → (length fields ≤ most) × (slots_of line row ≡ map slot_of fields) × (length row ≡ length fields)
cut_whole line fields most row all is whole =
    let few : length fields ≤ most = leb-true (length fields) most (sym is.whole ∙ whole) in
    let same : slots_of line row ≡ map slot_of fields = is.kept ∙ ap (map slot_of) (take_all most fields few) in
    (few, same, sym (length-map row (slot_bytes line)) ∙ (ap length same ∙ length-map fields slot_of))

pub whole_row : (line : List ℕ) (fields : List (List ℕ)) (many : ℕ) (row padded : List Slot) (all : Bool) → IsCut line fields many row all → all ≡ true
    → slots_of line padded ≡ slots_of line row ++ replicate (many - length row) None → rows (slots_of line padded ∷ []) ≡ row_reading many fields
whole_row line fields many row padded all is whole padding =
    let parts = cut_whole line fields many row all is whole in
    let fits : nat_le (length fields) many ≡ true = sym is.whole ∙ whole in
    rw fits (ap (λ slots. rows (slots ∷ [])) (padding ∙ (ap (λ s. s ++ replicate (many - length row) None) parts.1 ∙ ap (λ n. map slot_of fields ++ replicate (many - n) None) parts.2)))

pub long_row : (line : List ℕ) (fields : List (List ℕ)) (many : ℕ) (row : List Slot) (all : Bool) → IsCut line fields many row all → all ≡ false → bad ≡ row_reading many fields
long_row line fields many row all is whole =
    let long : nat_le (length fields) many ≡ false = sym is.whole ∙ whole in
    rw long refl
