-- The cells and the widths of a table.
use Rattle.std.proofs.Common.{◌≡◌, ℕ, zero, suc, ◌+◌, ◌-◌, ◌<◌, ◌≤◌, ◌⊎◌, inl, inr, Bool, true, false, ◌||◌, List, [], ◌∷◌, ◌++◌, length, take, drop, get_or, map, flat_map, max, replicate, ap, sym, ◌∙◌, refl, append_assoc, arith, add-zero, Some, None}
use Rattle.std.specs.List.{list_any, slice_get, filter}
use Rattle.std.proofs.lemmas.Bool.Decides.{nat_tests}
use Rattle.std.proofs.lemmas.List.Sums.{length-filter}
use Rattle.std.proofs.lemmas.List.{take-append-drop, drop_more, replicate-append-replicate}
use Rattle.std.proofs.lemmas.Grind.{flat_map-append, replicate_next}
use Rattle.lp_model.specs.Outside.{Begins, GrowsIn}
use Rattle.lp_model.proofs.Growing.{append-nil}
use Rattle.text_formats.specs.Tables.{Cells, begins_scalar, scalars, is_control, shown_byte, width_at, width_in}
use Rattle.text_formats.specs.Noted.{is_odd}
use Rattle.text_formats.specs.Widths.{AreWidths}

either_false : (a b : Bool) → (a || b) ≡ false → (a ≡ false) × (b ≡ false)
either_false true b is = absurd (cc)
either_false false b is = (refl, is)

-- a text without control characters stays
pub shown_whole : (xs : List ℕ) → list_any is_control xs ≡ false → map shown_byte xs ≡ xs
shown_whole [] none = refl
shown_whole (x ∷ xs) none =
    let parts = either_false (is_control x) (list_any is_control xs) none in
    rw parts.0 (ap (λ t. x ∷ t) (shown_whole xs parts.1))

-- a byte that isn't odd is a whole character and stays
even_stays : (x : ℕ) → is_odd x ≡ false → is_control x ≡ false
even_stays x even = grind (arith, nat_tests)

even_counts : (x : ℕ) → is_odd x ≡ false → begins_scalar x ≡ true
even_counts x even = grind (arith, nat_tests)

-- a text without odd bytes stays, and has as many characters as bytes
pub even_shown : (xs : List ℕ) → list_any is_odd xs ≡ false → map shown_byte xs ≡ xs
even_shown [] none = refl
even_shown (x ∷ xs) none =
    let parts = either_false (is_odd x) (list_any is_odd xs) none in
    rw (even_stays x parts.0) (ap (λ t. x ∷ t) (even_shown xs parts.1))

even_whole : (xs : List ℕ) → list_any is_odd xs ≡ false → filter begins_scalar xs ≡ xs
even_whole [] none = refl
even_whole (x ∷ xs) none =
    let parts = either_false (is_odd x) (list_any is_odd xs) none in
    rw (even_counts x parts.0) (ap (λ t. x ∷ t) (even_whole xs parts.1))

pub even_scalars : (xs : List ℕ) → list_any is_odd xs ≡ false → scalars xs ≡ length xs
even_scalars xs none = sym (length-filter begins_scalar xs) ∙ ap length (even_whole xs none)

begins_replicate : (i k byte : ℕ) → Begins (replicate i byte) (replicate (i + k) byte)
begins_replicate i zero byte = ([], rw add-zero (append-nil (replicate i byte)))
begins_replicate i (suc k) byte =
    let before = begins_replicate i k byte in
    let more : i + suc k ≡ (i + k) + 1 = omega arith in
    (before.0 ++ byte ∷ [], ap (λ n. replicate n byte) more ∙ (replicate_next (i + k) byte ∙ (ap (λ t. t ++ byte ∷ []) before.1 ∙ append_assoc (replicate i byte) before.0 (byte ∷ []))))

-- within equal bytes
pub grows_replicate : (count i byte : ℕ) (start before after : List ℕ) → i ≤ count → before ≡ start ++ replicate i byte → after ≡ before → GrowsIn start after (replicate count byte)
grows_replicate count i byte start before after le so_far same =
    let all : count ≡ i + (count - i) = omega arith in
    let begun = begins_replicate i (count - i) byte in
    (replicate i byte, same ∙ so_far, (begun.0, ap (λ n. replicate n byte) all ∙ begun.1))

-- some more equal bytes
pub replicate_next_run : (i more all byte : ℕ) (start before after : List ℕ) → i + more ≡ all → before ≡ start ++ replicate i byte → after ≡ before ++ replicate more byte → after ≡ start ++ replicate all byte
replicate_next_run i more all byte start before after is so_far next =
    next
    ∙ (ap (λ t. t ++ replicate more byte) so_far
    ∙ (append_assoc start (replicate i byte) (replicate more byte) ∙ ap (λ t. start ++ t) (replicate-append-replicate i more byte ∙ ap (λ n. replicate n byte) is)))

-- a column with one row more
pub width_in-push : (rows : List Cells) (row : Cells) (column : ℕ) → width_in (rows ++ row ∷ []) column ≡ max (width_in rows column) (width_at column row)
unfolding width_in
width_in-push [] row column = omega arith
width_in-push (other ∷ rows) row column = rw (width_in-push rows row column) (omega arith)

slice_get_push : (ws : List ℕ) (w k x : ℕ) → slice_get (ws ++ w ∷ []) k ≡ Some x → (slice_get ws k ≡ Some x) ⊎ ((k ≡ length ws) × (x ≡ w))
slice_get_push [] w zero x is = inr (refl, cc)
slice_get_push [] w (suc k) x is = inl is
slice_get_push (y ∷ ws) w zero x is = inl is
slice_get_push (y ∷ ws) w (suc k) x is = elim (slice_get_push ws w k x is) [ inl old ↦ inl old | inr new ↦ inr (ap suc new.0, new.1) ]

pub widths_none : (table : List Cells) → AreWidths table []
widths_none table = record { each = λ column width is. absurd (let no : None ≡ Some width = is in cc) }

-- the width of the next column is noted
pub widths_push : (table : List Cells) (widths : List ℕ) (width : ℕ) → AreWidths table widths → width ≡ width_in table (length widths) → AreWidths table (widths ++ width ∷ [])
widths_push table widths width are is = record {
  each = λ column other got. elim (slice_get_push widths width column other got) [ inl old ↦ are.each column other old | inr new ↦ new.1 ∙ (is ∙ ap (width_in table) (sym new.0)) ];
}

-- the lines of the first rows, and of all
pub grows_rows : {X : Type 0} (f : X → List ℕ) (xs : List X) (i : ℕ) (x : X) (start before after : List ℕ) → i < length xs → x ≡ get_or xs i x → before ≡ start ++ flat_map f (take i xs) → GrowsIn before after (f x)
    → GrowsIn start after (flat_map f xs)
grows_rows f xs i x start before after lt is so_far (part, added, (rest, whole)) =
    let behind = flat_map f (drop (i + 1) xs) in
    let all : flat_map f xs ≡ flat_map f (take i xs) ++ flat_map f (drop i xs) = ap (flat_map f) (sym (take-append-drop i xs)) ∙ flat_map-append f (take i xs) (drop i xs) in
    let here : flat_map f (drop i xs) ≡ f x ++ behind = ap (flat_map f) (drop_more xs i x lt) ∙ ap (λ y. f y ++ behind) (sym is) in
    let front = flat_map f (take i xs) in (
      front ++ part,
      added ∙ (ap (λ t. t ++ part) so_far ∙ append_assoc start front part),
      (
        rest ++ behind,
        all ∙ (ap (λ t. front ++ t) (here ∙ (ap (λ t. t ++ behind) whole ∙ append_assoc part rest behind)) ∙ sym (append_assoc front part (rest ++ behind))),
      ),
    )
