-- The pattern of a stem's rotated files matches each of them.
use Rattle.std.proofs.Common.{◌≡◌, ◌≢◌, ◌⊎◌, ⊎_elim, inl, inr, ℕ, zero, suc, ◌-◌, ◌<◌, ◌≤◌, ◌==◌, List, [], ◌∷◌, ◌++◌, length, take, drop, refl, sym, ◌∙◌, ap, subst, arith, Option, Some, None, IsSome, slice_get, All, length-append, append_assoc}
use Rattle.std.specs.List.{AllByRecursion}
use Rattle.std.specs.BTreeSet.{BTreeSet}
use Rattle.std.specs.Int.Digits.{digits_of}
use Rattle.std.proofs.lemmas.Bool.{cases_Bool}
use Rattle.std.proofs.lemmas.Bool.Decides.{nat_tests, eqb_tells}
use Rattle.std.proofs.lemmas.List.{take-append-le, drop-append-le, drop_all}
use Rattle.std.proofs.lemmas.List.Elements.{All-append, All-from_recursion}
use Rattle.std.proofs.Math.Seq.{take-append_seam}
use Rattle.lp_model.specs.Outside.{Folder, Told}
use Rattle.lp_outside.specs.Matching.{MatchesPart, IsPartStart, Matches, AreMatches}
use Rattle.run_model.specs.Logs.{number_text, generation_name}
use Rattle.run_model.proofs.Generations.{digits_high}
use Rattle.generations.specs.There.{AreNumbers, AreThere}

-- what stands behind a stem in the pattern, and the dot of a generation
abbrev pub behind : List ℕ
behind = 46 ∷ 42 ∷ []

part_matches : (stem rest : List ℕ) → MatchesPart (stem ++ behind) (stem ++ 46 ∷ rest)
unfolding MatchesPart
part_matches [] rest = (inr refl, (length rest, drop_all (length rest) rest (omega arith)))
part_matches (b ∷ stem) rest = elim (cases_Bool (b == 42)) [
  | inl e ↦ rw e (1, part_matches stem rest)
  | inr e ↦ rw e (inr refl, part_matches stem rest)
]

-- the last part of a name begins somewhere
record Starts (name : List ℕ) : Type 0 where
  start : ℕ
  within : start ≤ length name
  behind_slash : (start ≡ 0) ⊎ ((0 < start) × (slice_get name (start - 1) ≡ Some 47))
  no_slash : AllByRecursion (λ byte. byte ≢ 47) (drop start name)

starts_later : (b : ℕ) (name : List ℕ) (start : ℕ) → start ≤ length name → 0 < start → slice_get name (start - 1) ≡ Some 47 → AllByRecursion (λ byte. byte ≢ 47) (drop start name) → Starts (b ∷ name)
starts_later b name zero within some slash none = absurd (omega (arith, some))
starts_later b name (suc k) within some slash none =
    let here : suc (suc k) - 1 ≡ suc k = omega arith in
    let there : k ≡ suc k - 1 = omega arith in
    record { start = suc (suc k); within = omega (arith, within); behind_slash = inr (omega arith, ap (λ i. slice_get (b ∷ name) i) here ∙ (ap (λ i. slice_get name i) there ∙ slash)); no_slash = none }

slash_here : (b : ℕ) (name : List ℕ) → AllByRecursion (λ byte. byte ≢ 47) name → b ≡ 47 → Starts (b ∷ name)
slash_here b name none slash = record { start = 1; within = omega arith; behind_slash = inr (omega arith, ap Some slash); no_slash = none }

starts_here : (b : ℕ) (name : List ℕ) → AllByRecursion (λ byte. byte ≢ 47) name → Starts (b ∷ name)
starts_here b name none = elim (cases_Bool (b == 47)) [
  | inl e ↦ slash_here b name none (grind (arith, nat_tests, eqb_tells))
  | inr e ↦ record { start = 0; within = omega arith; behind_slash = inl refl; no_slash = ((λ slash. grind (arith, nat_tests, eqb_tells)), none) }
]

starts_more : (b : ℕ) (name : List ℕ) → Starts name → Starts (b ∷ name)
starts_more b name more = ⊎_elim
    (λ none. starts_here b name (subst (λ (k : ℕ). AllByRecursion (λ byte. byte ≢ 47) (drop k name)) none more.no_slash))
    (λ some. starts_later b name more.start more.within some.0 some.1 more.no_slash)
    more.behind_slash

starts : (name : List ℕ) → Starts name
starts [] = record { start = 0; within = omega arith; behind_slash = inl refl; no_slash = tt }
starts (b ∷ name) = starts_more b name (starts name)

slice_get_left : (xs ys : List ℕ) (k x : ℕ) → slice_get xs k ≡ Some x → slice_get (xs ++ ys) k ≡ Some x
slice_get_left [] ys k x is = absurd (cc)
slice_get_left (y ∷ xs) ys zero x is = is
slice_get_left (y ∷ xs) ys (suc k) x is = slice_get_left xs ys k x is

-- it begins there too behind bytes without a slash
part_start : (stem rest : List ℕ) (s : Starts stem) → AllByRecursion (λ byte. byte ≢ 47) rest → IsPartStart (stem ++ rest) s.start
part_start stem rest s none = record {
  within = let low = s.within in omega (arith, length-append stem rest);
  behind = ⊎_elim (λ e. inl e) (λ some. inr (slice_get_left stem rest (s.start - 1) 47 some.1)) s.behind_slash;
  no_slash = subst (λ (t : List ℕ). All (λ byte. byte ≢ 47) t) (sym (drop-append-le s.start stem rest s.within)) (All-append (λ byte. byte ≢ 47) (drop s.start stem) rest (All-from_recursion (λ byte. byte ≢ 47) (drop s.start stem) s.no_slash) (All-from_recursion (λ byte. byte ≢ 47) rest none));
}

high_no_slash : (bytes : List ℕ) → AllByRecursion (λ c. 47 < c) bytes → AllByRecursion (λ byte. byte ≢ 47) bytes
high_no_slash [] all = tt
high_no_slash (b ∷ bytes) (h, all) = ((λ e. omega (arith, h, e)), high_no_slash bytes all)

-- the pattern matches a generation
matches : (stem : List ℕ) (number : ℕ) → Matches (stem ++ behind) (generation_name stem number)
unfolding generation_name
matches stem number =
    let s = starts stem in
    let digits = high_no_slash (number_text number) (digits_high (digits_of 10 number)) in record {
      start = s.start;
      of_pattern = part_start stem behind s ((λ e. omega (arith, e)), ((λ e. omega (arith, e)), tt));
      of_name = part_start stem (46 ∷ number_text number) s ((λ e. omega (arith, e)), digits);
      folder = take-append-le s.start stem (46 ∷ number_text number) s.within ∙ sym (take-append-le s.start stem behind s.within);
      part = subst (λ (t : List ℕ). MatchesPart t (drop s.start (stem ++ 46 ∷ number_text number))) (sym (drop-append-le s.start stem behind s.within)) (subst (λ (t : List ℕ). MatchesPart (drop s.start stem ++ behind) t) (sym (drop-append-le s.start stem (46 ∷ number_text number) s.within)) (part_matches (drop s.start stem) (number_text number)));
    }

-- the numbers of the names that match are those of the files that are there
pub are_there : (folder : Folder) (stem front : List ℕ) (names : List (List ℕ)) (numbers : BTreeSet ℕ) → front ≡ stem ++ 46 ∷ [] → AreMatches folder (stem ++ behind) names → AreNumbers front names numbers → AreThere folder stem numbers
unfolding generation_name
are_there folder stem front names numbers is found are = λ number. (
  λ has.
      let there = (are number).0 has in
      let of = there.of_name in
      let name : there.name ≡ generation_name stem number = of.parts ∙ (λ i. is i ++ of.is.is i) ∙ append_assoc stem (46 ∷ []) (number_text number) in
      (of.is.some, of.is.small, subst (λ (n : List ℕ). IsSome (folder n)) name ((found.each there.name).0 there.among).0),
  λ there. (are number).1 (record {
    name = generation_name stem number;
    among = (found.each (generation_name stem number)).1 (there.2, matches stem number);
    of_name = record { text = number_text number; parts = sym ((λ i. is i ++ number_text number) ∙ append_assoc stem (46 ∷ []) (number_text number)); is = record { some = there.0; small = there.1; is = refl } };
  }),
)

pub front_is : (stem pattern bytes front : List ℕ) → bytes ≡ pattern → pattern ≡ stem ++ behind → front ≡ take (length bytes - 1) bytes → front ≡ stem ++ 46 ∷ []
front_is stem pattern bytes front same is cut =
    let whole : bytes ≡ (stem ++ 46 ∷ []) ++ 42 ∷ [] = same ∙ (is ∙ sym (append_assoc stem (46 ∷ []) (42 ∷ []))) in
    let size : length bytes - 1 ≡ length (stem ++ 46 ∷ []) = omega (arith, ap length whole, length-append (stem ++ 46 ∷ []) (42 ∷ [])) in
    cut ∙ ((λ i. take (size i) (whole i)) ∙ take-append_seam (stem ++ 46 ∷ []) (42 ∷ []))

pub told_there : (told : Option Folder) (stem pattern bytes front : List ℕ) (names : List (List ℕ)) (numbers : BTreeSet ℕ) → bytes ≡ pattern → pattern ≡ stem ++ behind → front ≡ take (length bytes - 1) bytes → Told told (λ folder. AreMatches folder pattern names) → AreNumbers front names numbers
    → Told told (λ folder. AreThere folder stem numbers)
told_there None stem pattern bytes front names numbers same is cut found are = tt
told_there (Some folder) stem pattern bytes front names numbers same is cut found are =
    are_there folder stem front names numbers (front_is stem pattern bytes front same is cut) (subst (λ (p : List ℕ). AreMatches folder p names) is found) are
