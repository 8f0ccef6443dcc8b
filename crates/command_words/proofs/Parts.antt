-- A word's parts round its first colon.
use Rattle.std.proofs.Common.{◌≡◌, ℕ, suc, ◌<◌, ◌≤◌, ◌+◌, Bool, true, false, cond, not, ◌||◌, List, [], ◌∷◌, length, Option, Some, None, MatchOption, Bor, refl, arith}
use Rattle.std.specs.List.{list_any, before_first, after_first, position_or_len}
use Rattle.std.proofs.lemmas.Bool.{true≢false}
use Rattle.std.proofs.lemmas.List.{drop_all}
use Rattle.command_words.specs.Words.{is_colon, value_in}

any_at : (p : ℕ → Bool) (xs : List ℕ) (b : Bool) → (position_or_len p xs < length xs → list_any p xs ≡ true) → cond (not b) (1 + position_or_len p xs) 0 < suc (length xs) → (b || list_any p xs) ≡ true
any_at p xs true rest within = refl
any_at p xs false rest within = rest (omega arith)

pub any_from_place : (p : ℕ → Bool) (s : List ℕ) → position_or_len p s < length s → list_any p s ≡ true
any_from_place p [] within = absurd (omega arith)
any_from_place p (x ∷ xs) within = any_at p xs (p x) (any_from_place p xs) within

none_at : (p : ℕ → Bool) (xs : List ℕ) (b : Bool) → (position_or_len p xs ≡ length xs → list_any p xs ≡ false) → cond (not b) (1 + position_or_len p xs) 0 ≡ suc (length xs) → (b || list_any p xs) ≡ false
none_at p xs true rest end = absurd (omega arith)
none_at p xs false rest end = rest (omega arith)

pub none_from_place : (p : ℕ → Bool) (s : List ℕ) → position_or_len p s ≡ length s → list_any p s ≡ false
none_from_place p [] end = refl
none_from_place p (x ∷ xs) end = none_at p xs (p x) (none_from_place p xs) end

place_at : (p : ℕ → Bool) (xs : List ℕ) (b : Bool) → (list_any p xs ≡ false → position_or_len p xs ≡ length xs) → (b || list_any p xs) ≡ false → cond (not b) (1 + position_or_len p xs) 0 ≡ suc (length xs)
place_at p xs true rest none = absurd (true≢false none)
place_at p xs false rest none = let e = rest none in omega arith

pub place_from_none : (p : ℕ → Bool) (s : List ℕ) → list_any p s ≡ false → position_or_len p s ≡ length s
place_from_none p [] none = refl
place_from_none p (x ∷ xs) none = place_at p xs (p x) (place_from_none p xs) none

-- what `split_once` says, of whether a colon stands there
pub parts_split : (s : List ℕ) (r : Option (Bor (List ℕ) × Bor (List ℕ))) → MatchOption r (position_or_len is_colon s ≡ length s) (λ x. (x.0.now ≡ before_first is_colon s) × (x.1.now ≡ after_first is_colon s) × (position_or_len is_colon s < length s)) → MatchOption r (list_any is_colon s ≡ false) (λ parts. (list_any is_colon s ≡ true) × (parts.0.now ≡ before_first is_colon s) × (parts.1.now ≡ value_in s))
parts_split s None h = none_from_place is_colon s h
parts_split s (Some x) h = (any_from_place is_colon s h.2, h.0, h.1)

-- behind no colon stands nothing
pub nothing_behind : (s : List ℕ) → list_any is_colon s ≡ false → [] ≡ value_in s
nothing_behind s none = let e = place_from_none is_colon s none in let all : length s ≤ position_or_len is_colon s + 1 = omega arith in rw (drop_all _ s all)
