-- Names at their first places, one more at a time.
use Rattle.std.proofs.Common.{◌≡◌, ℕ, ◌+◌, ◌<◌, ◌≤◌, Bool, true, false, not, cond, ◌||◌, List, [], ◌∷◌, ◌++◌, length, filter, take, drop, get_or, Contains, bytes_eq, refl, sym, ap, ◌∙◌, subst, inl, inr, arith, append_assoc, length-append}
use Rattle.std.specs.BTreeSet.{BTreeSet, contains}
use Rattle.std.specs.Cmp.Lexicographic.{slice_cmp, nat_list_eq_equiv}
use Rattle.std.proofs.lemmas.Map.Views.{Contains-from_any, list_any-from_Contains}
use Rattle.std.specs.Ordering.{nat_cmp, is_eq}
use Rattle.std.proofs.lemmas.Bool.{cases_Bool, both_ways, not-true}
use Rattle.std.proofs.lemmas.List.{append-nil, take-append-drop}
use Rattle.std.proofs.lemmas.List.Sums.{fold_more}
use Rattle.std.proofs.lemmas.List.Folds.{list_any-append}
use Rattle.std.proofs.lemmas.Map.Text.{is_eq-slice_cmp}
use Rattle.std.proofs.lemmas.Slice.Eq.{bytes_eq-Decides}
use Rattle.log_listing.specs.Firsts.{is_among, firsts, with_name, with_names, Knows}

abbrev Name : Type 0
Name = List ℕ

same_is : (a b : Name) → bytes_eq a b ≡ true → a ≡ b
same_is a b e = (bytes_eq-Decides a b).0 e

is_same : (a b : Name) → a ≡ b → bytes_eq a b ≡ true
is_same a b e = (bytes_eq-Decides a b).1 e

swapped : (a b : Name) → bytes_eq a b ≡ bytes_eq b a
swapped a b = elim (cases_Bool (bytes_eq a b)) [
  | inl e ↦ e ∙ sym (is_same b a (sym (same_is a b e)))
  | inr e ↦ elim (cases_Bool (bytes_eq b a)) [
    | inl f ↦ absurd (both_ways (bytes_eq a b) e (is_same a b (sym (same_is b a f))))
    | inr f ↦ e ∙ sym f
  ]
]

-- names other than one
abbrev other_than : Name → Name → Bool
other_than name other = not (bytes_eq other name)

any_filter_at : (n x y : Name) (ys kept : List Name) → bytes_eq n x ≡ false → is_among kept n ≡ is_among ys n → (b : Bool) → bytes_eq y x ≡ b → is_among (cond (not b) (y ∷ kept) kept) n ≡ (bytes_eq n y || is_among ys n)
any_filter_at n x y ys kept off rest true is =
    let apart : bytes_eq n y ≡ false = elim (cases_Bool (bytes_eq n y)) [
      | inl e ↦ absurd (both_ways (bytes_eq n x) off (is_same n x (same_is n y e ∙ same_is y x is)))
      | inr e ↦ e
    ] in
    rest ∙ sym (ap (λ b. b || is_among ys n) apart)
any_filter_at n x y ys kept off rest false is = ap (λ b. bytes_eq n y || b) rest

-- a name stands among the others just where it stands among all, unless it is the one left out
any_filter : (n x : Name) (ys : List Name) → bytes_eq n x ≡ false → is_among (filter (other_than x) ys) n ≡ is_among ys n
any_filter n x [] off = refl
any_filter n x (y ∷ ys) off = any_filter_at n x y ys (filter (other_than x) ys) off (any_filter n x ys off) (bytes_eq y x) refl

among_firsts : (names : List Name) (name : Name) → is_among (firsts names) name ≡ is_among names name
among_firsts [] name = refl
among_firsts (x ∷ xs) name = elim (cases_Bool (bytes_eq name x)) [
  | inl e ↦ ap (λ b. b || is_among (filter (other_than x) (firsts xs)) name) e ∙ sym (ap (λ b. b || is_among xs name) e)
  | inr e ↦ ap (λ b. bytes_eq name x || b) (any_filter name x (firsts xs) e ∙ among_firsts xs name)
]

filter_at : (x : Name) (xs ys all : List Name) → all ≡ xs ++ ys → (b : Bool) → cond b (x ∷ all) all ≡ cond b (x ∷ xs) xs ++ ys
filter_at x xs ys all is true = ap (λ t. x ∷ t) is
filter_at x xs ys all is false = is

filter-append : (p : Name → Bool) (xs ys : List Name) → filter p (xs ++ ys) ≡ filter p xs ++ filter p ys
filter-append p [] ys = refl
filter-append p (x ∷ xs) ys = filter_at x (filter p xs) (filter p ys) (filter p (xs ++ ys)) (filter-append p xs ys) (p x)

-- one more name, with the first one left out of the others
step_at : (x n : Name) (ys : List Name) (c d : Bool) → is_among ys n ≡ c → bytes_eq n x ≡ d → x ∷ filter (other_than x) (with_name ys n) ≡ with_name (x ∷ filter (other_than x) ys) n
step_at x n ys true true among is =
    ap (λ b. x ∷ filter (other_than x) (cond b ys (ys ++ n ∷ []))) among
    ∙ sym (ap (λ b. cond (b || is_among (filter (other_than x) ys) n) (x ∷ filter (other_than x) ys) ((x ∷ filter (other_than x) ys) ++ n ∷ [])) is)
step_at x n ys false true among is =
    ap (λ b. x ∷ filter (other_than x) (cond b ys (ys ++ n ∷ []))) among
    ∙ ap (λ t. x ∷ t) (filter-append (other_than x) ys (n ∷ []) ∙ ap (λ b. filter (other_than x) ys ++ cond (not b) (n ∷ []) []) is ∙ append-nil (filter (other_than x) ys))
    ∙ sym (ap (λ b. cond (b || is_among (filter (other_than x) ys) n) (x ∷ filter (other_than x) ys) ((x ∷ filter (other_than x) ys) ++ n ∷ [])) is)
step_at x n ys true false among is =
    let kept : is_among (filter (other_than x) ys) n ≡ true = any_filter n x ys is ∙ among in
    ap (λ b. x ∷ filter (other_than x) (cond b ys (ys ++ n ∷ []))) among
    ∙ sym (ap (λ b. cond (b || is_among (filter (other_than x) ys) n) (x ∷ filter (other_than x) ys) ((x ∷ filter (other_than x) ys) ++ n ∷ [])) is
    ∙ ap (λ b. cond b (x ∷ filter (other_than x) ys) ((x ∷ filter (other_than x) ys) ++ n ∷ [])) kept)
step_at x n ys false false among is =
    let kept : is_among (filter (other_than x) ys) n ≡ false = any_filter n x ys is ∙ among in
    ap (λ b. x ∷ filter (other_than x) (cond b ys (ys ++ n ∷ []))) among
    ∙ ap (λ t. x ∷ t) (filter-append (other_than x) ys (n ∷ []) ∙ ap (λ b. filter (other_than x) ys ++ cond (not b) (n ∷ []) []) is)
    ∙ sym (ap (λ b. cond (b || is_among (filter (other_than x) ys) n) (x ∷ filter (other_than x) ys) ((x ∷ filter (other_than x) ys) ++ n ∷ [])) is
    ∙ ap (λ b. cond b (x ∷ filter (other_than x) ys) ((x ∷ filter (other_than x) ys) ++ n ∷ [])) kept)

-- one more name behind others
pub firsts_push : (names : List Name) (name : Name) → firsts (names ++ name ∷ []) ≡ with_name (firsts names) name
firsts_push [] name = refl
firsts_push (x ∷ xs) name = ap (λ ys. x ∷ filter (other_than x) ys) (firsts_push xs name) ∙ step_at x name (firsts xs) (is_among (firsts xs) name) (bytes_eq name x) refl refl

-- more names behind others
pub firsts-append : (names more : List Name) → firsts (names ++ more) ≡ with_names (firsts names) more
firsts-append names [] = ap firsts (append-nil names)
firsts-append names (x ∷ more) =
    ap firsts (sym (append_assoc names (x ∷ []) more)) ∙ (firsts-append (names ++ x ∷ []) more ∙ ap (λ ns. with_names ns more) (firsts_push names x))

or_swapped : (a b c : Bool) → b ≡ c → (a || (b || false)) ≡ cond c true a
or_swapped true true c is = ap (λ d. cond d true true) is
or_swapped true false c is = ap (λ d. cond d true true) is
or_swapped false true c is = ap (λ d. cond d true false) is
or_swapped false false c is = ap (λ d. cond d true false) is

-- a name more in the list
among_with_at : (names : List Name) (name q : Name) (c : Bool) → is_among names name ≡ c → is_among (cond c names (names ++ name ∷ [])) q ≡ cond (bytes_eq name q) true (is_among names q)
among_with_at names name q true among = elim (cases_Bool (bytes_eq name q)) [
  | inl e ↦ ap (is_among names) (sym (same_is name q e)) ∙ among ∙ sym (ap (λ b. cond b true (is_among names q)) e)
  | inr e ↦ sym (ap (λ b. cond b true (is_among names q)) e)
]
among_with_at names name q false among = list_any-append (bytes_eq q) names (name ∷ []) ∙ or_swapped (is_among names q) (bytes_eq q name) (bytes_eq name q) (swapped q name)

-- the set and the list take the same name
pub knows_more : (old new : BTreeSet Name) (names : List Name) (name : Name) → ((q : Name) → contains (slice_cmp nat_cmp) new q ≡ cond (is_eq (slice_cmp nat_cmp name q)) true (contains (slice_cmp nat_cmp) old q)) → Knows old names → Knows new (with_name names name)
knows_more old new names name updates knows = λ q.
    updates q ∙ ap (λ b. cond b true (contains (slice_cmp nat_cmp) old q)) (is_eq-slice_cmp name q)
    ∙ ap (cond (bytes_eq name q) true) (knows q) ∙ sym (among_with_at names name q (is_among names name) refl)

pub with_name-there : (names : List Name) (name : Name) → is_among names name ≡ true → with_name names name ≡ names
with_name-there names name e = ap (λ b. cond b names (names ++ name ∷ [])) e

pub with_name-new : (names : List Name) (name : Name) → is_among names name ≡ false → with_name names name ≡ names ++ name ∷ []
with_name-new names name e = ap (λ b. cond b names (names ++ name ∷ [])) e

longer_at : (names : List Name) (name : Name) (c : Bool) → length names ≤ length (cond c names (names ++ name ∷ []))
longer_at names name true = omega arith
longer_at names name false = omega (arith, length-append names (name ∷ []))

-- more names make no list shorter
pub with_names-longer : (more names : List Name) → length names ≤ length (with_names names more)
with_names-longer [] names = omega arith
with_names-longer (x ∷ more) names = let one = longer_at names x (is_among names x) in let rest = with_names-longer more (with_name names x) in omega arith

pub with_names-append : (first second names : List Name) → with_names names (first ++ second) ≡ with_names (with_names names first) second
with_names-append [] second names = refl
with_names-append (x ∷ first) second names = with_names-append first second (with_name names x)

-- where some names are too many, more are
pub too_many_more : (names found : List Name) (i : ℕ) (most : ℕ) → most < length (with_names names (take i found)) → most < length (with_names names found)
too_many_more names found i most many =
    let whole : with_names names found ≡ with_names (with_names names (take i found)) (drop i found) = ap (with_names names) (sym (take-append-drop i found)) ∙ with_names-append (take i found) (drop i found) names in
    let more = with_names-longer (drop i found) (with_names names (take i found)) in
    omega (arith, ap length whole)

-- a name at its first place stands among all
pub in_joined : (names : List Name) (name : Name) → Contains (firsts names) name → Contains names name
in_joined names name here = Contains-from_any same_is name names (sym (among_firsts names name) ∙ list_any-from_Contains (nat_list_eq_equiv) name (firsts names) here)

-- a name that the set hasn't had is behind the others in the list
pub knows_pushed : (old new : BTreeSet Name) (names pushed : List Name) (name : Name) (added : Bool) → ((q : Name) → contains (slice_cmp nat_cmp) new q ≡ cond (is_eq (slice_cmp nat_cmp name q)) true (contains (slice_cmp nat_cmp) old q)) → Knows old names → added ≡ not (contains (slice_cmp nat_cmp) old name) → added ≡ true → pushed ≡ names ++ name ∷ [] → Knows new pushed
knows_pushed old new names pushed name added updates knows is fresh push =
    let absent : is_among names name ≡ false = sym (knows name) ∙ not-true (contains (slice_cmp nat_cmp) old name) (sym is ∙ fresh) in
    subst (λ (ns : List Name). Knows new ns) (with_name-new names name absent ∙ sym push) (knows_more old new names name updates knows)

-- at one name they are too many, and so they are at all
pub too_many_at : (names so_far found : List Name) (i : ℕ) (name : Name) → so_far ≡ with_names names (take i found) → i < length found → name ≡ get_or found i name → 100000 < length (with_name so_far name) → 100000 < length (with_names names found)
too_many_at names so_far found i name is within at many =
    let here : with_names names (take (i + 1) found) ≡ with_name so_far name = fold_more with_name names found i name within ∙ ap (with_name (with_names names (take i found))) (sym at) ∙ ap (λ ns. with_name ns name) (sym is) in
    too_many_more names found (i + 1) 100000 (omega (arith, ap length here))
