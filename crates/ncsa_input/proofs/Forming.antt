-- What is formed as a line is read as its parts.
use Rattle.std.proofs.Common.{◌≡◌, ℕ, zero, suc, ◌+◌, ◌<◌, true, false, cond, ◌==◌, List, [], ◌∷◌, ◌++◌, length, drop, replicate, Option, Some, None, option_map, position, nat_lt, refl, sym, ap, ◌∙◌, subst, arith, rules, tests, eq-eqb, append_assoc}
use Rattle.std.proofs.Math.Seq.{take-append_seam, drop-append_seam, drop-append-add}
use Rattle.std.proofs.lemmas.List.{append-nil, length-append}
use Rattle.std.proofs.lemmas.List.Elements.{recursion_from_All}
use Rattle.std.specs.Bool.{⊤}
use Rattle.std.specs.List.{AllByRecursion, position_or_len, prefix_len, concat}
use Rattle.std.specs.Prelude.{◌≢◌}
use Rattle.ncsa_input.specs.declared.shape.Shape.{Shape}
use Rattle.ncsa_input.specs.declared.shape.Shape.TheVariants.{Word, Bracketed, Quoted}
use Rattle.ncsa_input.specs.Form.{IsWord, IsInBrackets, IsQuotedByte, IsInQuotes}
use Rattle.ncsa_input.specs.Lines.{is_space, is_of_spaces, may_end, behind_spaces, fields_behind}
use Rattle.ncsa_input.specs.Shapes.{closed_at, closing, taken}
use Rattle.ncsa_input.proofs.Fitting.{Fits}
use Rattle.ncsa_input.proofs.Rows.{ends_there, goes_on}
use Rattle.ncsa_input.proofs.Spelling.{spelled, IsJoined, AreFit}
use Rattle.ncsa_input.proofs.Taking.{one_more, word_taken, bracket_taken, quote_taken, closing_quote, closing_back, closing_other}

differs : (b c : ℕ) → b ≢ c → (b == c) ≡ false
differs b c e = search (rules, tests)

-- a text ends, or begins with this byte
abbrev pub IsEndOr : ℕ → List ℕ → Type 0
IsEndOr c [] = ⊤
IsEndOr c (b ∷ bs) = b ≡ c

-- a text begins with another byte
abbrev pub BeginsOther : ℕ → List ℕ → Type 0
BeginsOther c [] = ⊥
BeginsOther c (b ∷ bs) = b ≢ c

-- the first of some byte stands behind bytes that are others
first_there : (c : ℕ) (field rest : List ℕ) → AllByRecursion (λ b. b ≢ c) field → IsEndOr c rest → position_or_len (λ b. b == c) (field ++ rest) ≡ length field
first_there c [] [] all there = refl
first_there c [] (b ∷ bs) all there = let is : (b == c) ≡ true = eq-eqb b c there in rw is refl
first_there c (f ∷ fs) rest all there =
    let no : (f == c) ≡ false = differs f c all.0 in
    rw (no, one_more) (ap suc (first_there c fs rest all.1 there))

word_back : (field rest : List ℕ) → IsWord field → IsEndOr 32 rest → taken Word (field ++ rest) ≡ Some (field, rest)
word_back field rest word there =
    let size : position_or_len is_space (field ++ rest) ≡ length field = first_there 32 field rest (recursion_from_All (λ b. b ≢ 32) field word.whole) there in
    let some : length field ≢ 0 = omega (arith, word.filled) in
    word_taken (field ++ rest) (length field) (sym size) some ∙ rw (take-append_seam field rest, drop-append_seam field rest) refl

-- the byte that closes a part
closed_back : (close : ℕ) (field rest : List ℕ) → closed_at ((field ++ close ∷ []) ++ rest) (Some (length field)) ≡ Some (field, rest)
closed_back close field rest = rw (append_assoc field (close ∷ []) rest) (rw (take-append_seam field (close ∷ rest), drop-append-add field (close ∷ rest) 1) refl)

bracketed_back : (field rest : List ℕ) → IsInBrackets field → taken Bracketed ((91 ∷ (field ++ 93 ∷ [])) ++ rest) ≡ Some (field, rest)
bracketed_back field rest fits =
    let inner : List ℕ = (field ++ 93 ∷ []) ++ rest in
    let place : position_or_len (λ b. b == 93) inner ≡ length field =
    ap (position_or_len (λ b. b == 93)) (append_assoc field (93 ∷ []) rest) ∙ first_there 93 field (93 ∷ rest) (recursion_from_All (λ b. b ≢ 93) field fits) refl in
    bracket_taken (91 ∷ inner) inner (Some (length field)) refl (sym (found inner (length field) place (within field rest))) ∙ closed_back 93 field rest
  where
    within : (field rest : List ℕ) → length field < length ((field ++ 93 ∷ []) ++ rest)
    within field rest = omega (arith, length-append (field ++ 93 ∷ []) rest, length-append field (93 ∷ []))

    found : (inner : List ℕ) (size : ℕ) → position_or_len (λ b. b == 93) inner ≡ size → size < length inner → position (λ b. b == 93) inner ≡ Some size
    found inner size e fits =
        let below : nat_lt (position_or_len (λ b. b == 93) inner) (length inner) ≡ true = search (rules, tests) in
        rw below (ap Some e)

sums : (k : ℕ) (n : ℕ) (r : Option ℕ) → r ≡ Some n → option_map (λ m. m + k) r ≡ Some (k + n)
sums k n r e = ap (option_map (λ m. m + k)) e ∙ ap Some (omega arith)

closing_there : (bytes : List (List ℕ)) (rest : List ℕ) → AllByRecursion IsQuotedByte bytes → closing (concat bytes ++ 34 ∷ rest) ≡ Some (length (concat bytes))
closing_there [] rest all = closing_quote 34 rest refl
closing_there ([] ∷ bytes) rest all = absurd all.0
closing_there ((b ∷ []) ∷ bytes) rest all =
    closing_other b (concat bytes ++ 34 ∷ rest) all.0.0 all.0.1 ∙ (sums 1 (length (concat bytes)) (closing (concat bytes ++ 34 ∷ rest)) (closing_there bytes rest all.1) ∙ ap Some (one_more (length (concat bytes))))
closing_there ((b ∷ c ∷ []) ∷ bytes) rest all =
    closing_back b (c ∷ (concat bytes ++ 34 ∷ rest)) all.0 ∙ (sums 2 (length (concat bytes)) (closing (concat bytes ++ 34 ∷ rest)) (closing_there bytes rest all.1) ∙ ap Some (two_more (length (concat bytes))))
  where
    two_more : (n : ℕ) → 2 + n ≡ suc (suc n)
    two_more n = omega arith
closing_there ((b ∷ c ∷ d ∷ bs) ∷ bytes) rest all = absurd all.0

quoted_back : (field rest : List ℕ) → IsInQuotes field → taken Quoted ((34 ∷ (field ++ 34 ∷ [])) ++ rest) ≡ Some (field, rest)
quoted_back field rest fits =
    let inner : List ℕ = (field ++ 34 ∷ []) ++ rest in
    let place : closing inner ≡ Some (length field) =
    ap closing (append_assoc field (34 ∷ []) rest)
    ∙ (ap (λ f. closing (f ++ 34 ∷ rest)) fits.all
    ∙ (closing_there fits.bytes rest (recursion_from_All IsQuotedByte fits.bytes fits.each)
    ∙ ap (λ f. Some (length f)) (sym fits.all))) in
    quote_taken (34 ∷ inner) inner (Some (length field)) refl (sym place) ∙ closed_back 34 field rest

taken_back : (shape : Shape) (field rest : List ℕ) → Fits shape field → IsEndOr 32 rest → taken shape (spelled shape field ++ rest) ≡ Some (field, rest)
taken_back Word field rest fits there = word_back field rest fits there
taken_back Bracketed field rest fits there = bracketed_back field rest fits
taken_back Quoted field rest fits there = quoted_back field rest fits

-- ---- spaces

front_there : (more : ℕ) (rest : List ℕ) → BeginsOther 32 rest → drop (prefix_len is_space (replicate more 32 ++ rest)) (replicate more 32 ++ rest) ≡ rest
front_there zero [] begins = absurd begins
front_there zero (b ∷ bs) begins = let no : (b == 32) ≡ false = differs b 32 begins in rw no refl
front_there (suc more) rest begins = rw one_more (front_there more rest begins)

spaces_back : (more : ℕ) (rest : List ℕ) → BeginsOther 32 rest → behind_spaces (replicate (more + 1) 32 ++ rest) ≡ Some rest
spaces_back more rest begins = let one : more + 1 ≡ suc more = omega arith in rw one (ap Some (front_there more rest begins))

spelled_other : (shape : Shape) (field rest : List ℕ) → Fits shape field → BeginsOther 32 (spelled shape field ++ rest)
spelled_other Word [] rest fits = absurd (omega (arith, fits.filled))
spelled_other Word (b ∷ bs) rest fits = (recursion_from_All (λ c. c ≢ 32) (b ∷ bs) fits.whole).0
spelled_other Bracketed field rest fits = omega arith
spelled_other Quoted field rest fits = omega arith

pub joined_other : (shapes : List Shape) (field : List ℕ) (fields : List (List ℕ)) (text : List ℕ) → AreFit shapes (field ∷ fields) → IsJoined shapes (field ∷ fields) text → BeginsOther 32 text
joined_other [] field fields text fit joined = absurd joined
joined_other (shape ∷ shapes) field [] text fit joined = subst (BeginsOther 32) (append-nil (spelled shape field) ∙ sym joined) (spelled_other shape field [] fit.0)
joined_other (shape ∷ shapes) field (next ∷ fields) text fit joined =
    subst (BeginsOther 32) (sym joined.1.1.0) (spelled_other shape field (replicate (joined.0 + 1) 32 ++ joined.1.0) fit.0)

pub other_no_spaces : (text : List ℕ) → BeginsOther 32 text → is_of_spaces text ≡ false
other_no_spaces [] begins = absurd begins
other_no_spaces (b ∷ bs) begins = let no : (b == 32) ≡ false = differs b 32 begins in rw no refl

-- ---- the fields of a line

space_first : (more : ℕ) (rest : List ℕ) → IsEndOr 32 (replicate (more + 1) 32 ++ rest)
space_first more rest = let one : more + 1 ≡ suc more = omega arith in rw one refl

spaces_some : (more : ℕ) (rest : List ℕ) → length (replicate (more + 1) 32 ++ rest) ≢ 0
spaces_some more rest e = let one : more + 1 ≡ suc more = omega arith in let h : suc (length (replicate more 32 ++ rest)) ≡ 0 = rw one at e in omega arith

pub joined_read : (parts : ℕ) (shapes : List Shape) (fields : List (List ℕ)) (text : List ℕ) → AreFit shapes fields → IsJoined shapes fields text → may_end (parts + length fields) ≡ true → fields_behind parts shapes text ≡ Some fields
joined_read parts [] fields text fit joined ends = absurd joined
joined_read parts (shape ∷ shapes) [] text fit joined ends = absurd joined
joined_read parts (shape ∷ shapes) (field ∷ []) text fit joined ends =
    let whole : text ≡ spelled shape field ++ [] = joined ∙ sym (append-nil (spelled shape field)) in
    ends_there parts shape shapes text field [] (ap (taken shape) whole ∙ taken_back shape field [] fit.0 tt) refl ∙ ap (λ b. cond b (Some (field ∷ [])) None) ends
joined_read parts (shape ∷ shapes) (field ∷ next ∷ fields) text fit joined ends =
    let more : ℕ = joined.0 in
    let rest : List ℕ = joined.1.0 in
    let others : fields_behind (parts + 1) shapes rest ≡ Some (next ∷ fields) = joined_read (parts + 1) shapes (next ∷ fields) rest fit.1 joined.1.1.1 (ap may_end (counts parts (length fields)) ∙ ends) in
    goes_on parts shape shapes text field (replicate (more + 1) 32 ++ rest) rest
    (ap (taken shape) joined.1.1.0 ∙ taken_back shape field (replicate (more + 1) 32 ++ rest) fit.0 (space_first more rest)) (spaces_some more rest)
    (spaces_back more rest (joined_other shapes next fields rest fit.1 joined.1.1.1))
    ∙ ap (option_map (λ f. field ∷ f)) others
  where
    counts : (parts n : ℕ) → parts + 1 + suc n ≡ parts + suc (suc n)
    counts parts n = omega arith
