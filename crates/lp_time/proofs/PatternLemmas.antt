-- The pieces of a text, one at a time.
use Rattle.std.proofs.Common.{◌≡◌, ℕ, zero, suc, ◌+◌, ◌-◌, ◌<◌, ◌≤◌, Bool, true, false, ◌&&◌, List, [], ◌∷◌, ◌++◌, length, drop, Option, Some, None, Ok, Err, refl, sym, ◌∙◌, ap, arith, length-append, length-drop, nat_lt, lt-ltb, if◌then◌else◌}
use Rattle.std.proofs.lemmas.Bool.Decides.{nat_tests}
use Rattle.std.proofs.lemmas.List.{drop-drop}
use Rattle.std.proofs.Math.ListN.{drop_of_length-le}
use Rattle.std.specs.Cmp.{first_so, second_so}
use Rattle.std.specs.Option.{option_map_or, option_to_list}
use Rattle.lp_time.specs.declared.piece.Piece.{Piece}
use Rattle.lp_time.specs.Patterns.{front_piece, front_size, is_new, takes, has_items, pieces_from, pattern_in}

ltb_below : (a b : ℕ) → nat_lt a b ≡ true → a < b
ltb_below a b h = grind (arith, nat_tests)

one_more : (before : List Piece) (o : Option Piece) → option_map_or (is_new before) o false ≡ true → length (before ++ option_to_list o) ≡ length before + 1
one_more before None good = cc
one_more before (Some piece) good = length-append before (piece ∷ [])

-- a piece that is taken
pub piece_taken : (before : List Piece) (at : ℕ) (left : List ℕ) → 0 < length left → takes before left ≡ true
    → (length (before ++ option_to_list (front_piece left)) ≤ 64)
    × (pieces_from (64 - length before) before at left
    ≡ pieces_from (64 - length (before ++ option_to_list (front_piece left))) (before ++ option_to_list (front_piece left)) (at + front_size left) (drop (front_size left) left))
unfolding pieces_from
piece_taken before at [] some good_one = absurd (omega arith)
piece_taken before at (c ∷ cs) some good_one =
    let below : length before < 64 = ltb_below (length before) 64 (first_so (nat_lt (length before) 64) (option_map_or (is_new before) (front_piece (c ∷ cs)) false) good_one) in
    let good = second_so (nat_lt (length before) 64) (option_map_or (is_new before) (front_piece (c ∷ cs)) false) good_one in
    let more = one_more before (front_piece (c ∷ cs)) good in
    let room : 64 - length before ≡ suc (63 - length before) = omega arith in
    let left : 64 - length (before ++ option_to_list (front_piece (c ∷ cs))) ≡ 63 - length before = omega arith in
    (omega arith, ap (λ n. pieces_from n before at (c ∷ cs)) room ∙ (rw good refl ∙ ap (λ n. pieces_from n (before ++ option_to_list (front_piece (c ∷ cs))) (at + front_size (c ∷ cs)) (drop (front_size (c ∷ cs)) (c ∷ cs))) (sym left)))

behind_true : (a b : Bool) → a ≡ true → (a && b) ≡ false → b ≡ false
behind_true true b h both = both
behind_true false b h both = cc

refused : (room : ℕ) (before : List Piece) (at c : ℕ) (cs : List ℕ) → (nat_lt 0 room && option_map_or (is_new before) (front_piece (c ∷ cs)) false) ≡ false → pieces_from room before at (c ∷ cs) ≡ Err at
unfolding pieces_from
refused zero before at c cs not_so = refl
refused (suc room) before at c cs not_so =
    let there : nat_lt 0 (suc room) ≡ true = lt-ltb 0 (suc room) (omega arith) in
    let bad = behind_true (nat_lt 0 (suc room)) (option_map_or (is_new before) (front_piece (c ∷ cs)) false) there not_so in
    rw bad refl

-- a piece that isn't
pub piece_refused : (before : List Piece) (at : ℕ) (left : List ℕ) → 0 < length left → takes before left ≡ false → pieces_from (64 - length before) before at left ≡ Err at
piece_refused before at [] some not_so = absurd (omega arith)
piece_refused before at (c ∷ cs) some not_so =
    let same : nat_lt 0 (64 - length before) ≡ nat_lt (length before) 64 = grind (arith, nat_tests) in
    refused (64 - length before) before at c cs (ap (λ b. b && option_map_or (is_new before) (front_piece (c ∷ cs)) false) same ∙ not_so)

-- nothing left
pub none_left : (room : ℕ) (before : List Piece) (at : ℕ) → pieces_from room before at [] ≡ (if has_items before then Ok before else Err at)
unfolding pieces_from
none_left zero before at = refl
none_left (suc room) before at = refl

module _ (text : List ℕ) (pattern : List Piece) (at : ℕ) (so_far : pattern_in text ≡ pieces_from (64 - length pattern) pattern at (drop at text)) where
  -- a turn that takes a piece
  pub read_step : (front : List ℕ) (next : List Piece) (size : ℕ) → at < length text → front ≡ drop at text → takes pattern front ≡ true → size ≡ front_size front
      → next ≡ pattern ++ option_to_list (front_piece front) → size ≤ length front
      → (at + size ≤ length text) × (length next ≤ 64) × (pattern_in text ≡ pieces_from (64 - length next) next (at + size) (drop (at + size) text))
  read_step front next size below is good size_is next_is fits =
      let long : length (drop at text) ≡ length text - at = length-drop at text in
      let front_long : length front ≡ length (drop at text) = ap length is in
      let some : 0 < length front = omega arith in
      let step = piece_taken pattern at front some good in
      let rest : drop (front_size front) front ≡ drop (at + size) text = sym (ap (λ n. drop n front) size_is) ∙ (ap (drop size) is ∙ drop-drop size at text) in
      let go = step.1 in
      (omega arith, rw next_is step.0, so_far ∙ (ap (pieces_from (64 - length pattern) pattern at) (sym is) ∙ (go ∙ rw (next_is, size_is) (ap (pieces_from (64 - length (pattern ++ option_to_list (front_piece front))) (pattern ++ option_to_list (front_piece front)) (at + front_size front)) (rw size_is at rest)))))

  -- a turn that meets a fault
  pub read_fault : (front : List ℕ) → at < length text → front ≡ drop at text → takes pattern front ≡ false → pattern_in text ≡ Err at
  read_fault front below is bad =
      let long : length (drop at text) ≡ length text - at = length-drop at text in
      let front_long : length front ≡ length (drop at text) = ap length is in
      so_far ∙ (ap (pieces_from (64 - length pattern) pattern at) (sym is) ∙ piece_refused pattern at front (omega arith) bad)

  -- the text's end
  pub read_end : length text ≤ at → pattern_in text ≡ (if has_items pattern then Ok pattern else Err at)
  read_end past = so_far ∙ (ap (pieces_from (64 - length pattern) pattern at) (drop_of_length-le text past) ∙ none_left (64 - length pattern) pattern at)
