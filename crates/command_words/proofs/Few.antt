-- How many words can be without a fault: a query, and one for each option.
use Rattle.std.proofs.Common.{◌≡◌, ℕ, zero, suc, ◌+◌, ◌<◌, ◌≤◌, Bool, true, false, not, cond, eqb, List, [], ◌∷◌, ◌++◌, length, take, get_or, map, find, Option, Some, None, slice_get, refl, sym, ap, ◌∙◌, lit<, arith, append_assoc, ◌||◌}
use Rattle.std.specs.Bool.{⊤}
use Rattle.std.specs.List.{list_any, IsDistinct, AllByRecursion}
use Rattle.std.proofs.lemmas.Bool.{ne_eqb, eqb-true, true≢false}
use Rattle.std.proofs.lemmas.List.{length-append}
use Rattle.std.proofs.lemmas.List.Folds.{list_any-append}
use Rattle.std.proofs.lemmas.Map.Steps.{length-le_from_distinct_below}
use Rattle.std.proofs.Math.Seq.{take-append_seam}
use Rattle.command_words.specs.declared.setting.Setting.{Setting}
use Rattle.command_words.specs.declared.setting.Setting.TheVariants as S
use Rattle.command_words.specs.declared.usage.UsageKind.{UsageKind}
use Rattle.command_words.specs.declared.usage.UsageKind.TheVariants as U
use Rattle.command_words.specs.Settings.{settings, accepts}
use Rattle.command_words.specs.Words.{is_option, is_query, gives, setting_of, value_in}
use Rattle.command_words.specs.Usage.{setting_fault, word_fault, fault_at}

abbrev Word : Type 0
Word = List ℕ

abbrev place : Setting → ℕ
place S.Input = 0
place S.Output = 1
place S.Errors = 2
place S.Stats = 3
place S.Checkpoint = 4
place S.Rotation = 5
place S.HeaderRow = 6
place S.SampleLines = 7
place S.TimeFormat = 8
place S.Separator = 9
place S.RowsToPage = 10
place S.Headers = 11
place S.OutSeparator = 12
place S.FileMode = 13
place S.Template = 14

abbrev setting_at : ℕ → Setting
setting_at k = get_or settings k S.Input

at_place : (s : Setting) → (place s < 15) × (setting_at (place s) ≡ s)
at_place S.Input = (lit< tt, refl)
at_place S.Output = (lit< tt, refl)
at_place S.Errors = (lit< tt, refl)
at_place S.Stats = (lit< tt, refl)
at_place S.Checkpoint = (lit< tt, refl)
at_place S.Rotation = (lit< tt, refl)
at_place S.HeaderRow = (lit< tt, refl)
at_place S.SampleLines = (lit< tt, refl)
at_place S.TimeFormat = (lit< tt, refl)
at_place S.Separator = (lit< tt, refl)
at_place S.RowsToPage = (lit< tt, refl)
at_place S.Headers = (lit< tt, refl)
at_place S.OutSeparator = (lit< tt, refl)
at_place S.FileMode = (lit< tt, refl)
at_place S.Template = (lit< tt, refl)

place_same : (s t : Setting) → place t ≡ place s → t ≡ s
place_same s t e = sym (at_place t).1 ∙ ap setting_at e ∙ (at_place s).1

-- the query's class is 0, an option's the next ones, and that of a word with a fault the last
abbrev setting_class : Option Setting → ℕ
setting_class None = 16
setting_class (Some s) = place s + 1

abbrev class_of : Bool → Option Setting → ℕ
class_of option setting = cond option (setting_class setting) 0

abbrev class : Word → ℕ
class word = class_of (is_option word) (setting_of word)

class_zero : (option : Bool) (setting : Option Setting) → class_of option setting ≡ 0 → option ≡ false
class_zero true None e = absurd (omega arith)
class_zero true (Some s) e = absurd (omega arith)
class_zero false setting e = refl

class_more : (option : Bool) (setting : Option Setting) (s : Setting) → class_of option setting ≡ place s + 1 → setting ≡ Some s
class_more true None s e = let below = (at_place s).0 in absurd (omega arith)
class_more true (Some t) s e = let same : place t ≡ place s = omega arith in ap Some (place_same s t same)
class_more false setting s e = absurd (omega arith)

found_at : {X : Type 0} (p : X → Bool) (y x : X) (rest : Option X) (b : Bool) → p y ≡ b → (rest ≡ Some x → p x ≡ true) → cond b (Some y) rest ≡ Some x → p x ≡ true
found_at p y x rest true is more e = let same : y ≡ x = cc in ap p (sym same) ∙ is
found_at p y x rest false is more e = more e

-- what finds an element is passed by it
found : {X : Type 0} (p : X → Bool) (xs : List X) (x : X) → find p xs ≡ Some x → p x ≡ true
found p [] x e = absurd (cc)
found p (y ∷ ys) x e = found_at p y x (find p ys) (p y) refl (found p ys x) e

-- where a word has no fault it is the first query, or the first word to give its option
query_first : (option query : Bool) (other : Option UsageKind) → cond option other (cond query (Some U.SecondQuery) None) ≡ None → option ≡ false → query ≡ false
query_first true query other e is = absurd (true≢false is)
query_first false true other e is = absurd (cc)
query_first false false other e is = refl

option_fits : (option query : Bool) (other : Option UsageKind) → cond option other (cond query (Some U.SecondQuery) None) ≡ None → option ≡ true → other ≡ None
option_fits true query other e is = e
option_fits false query other e is = absurd (true≢false (sym is))

not_repeated : (repeated accepted : Bool) → cond repeated (Some U.Repeated) (cond accepted None (Some U.BadValue)) ≡ None → repeated ≡ false
not_repeated true accepted e = absurd (cc)
not_repeated false accepted e = refl

is_first : (before : List Word) (word : Word) (setting : Option Setting) → setting_fault before word setting ≡ None → (s : Setting) × (setting ≡ Some s) × (list_any (gives s) before ≡ false)
is_first before word None e = absurd (cc)
is_first before word (Some s) e = (s, refl, not_repeated (list_any (gives s) before) (accepts s (value_in word)) e)

-- a word stands among others
abbrev IsAmong : Word → List Word → Type 0
IsAmong word words = (p : Word → Bool) → p word ≡ true → list_any p words ≡ true

apart_at : (before : List Word) (earlier word : Word) → IsAmong earlier before → word_fault before word ≡ None → class earlier ≡ class word → (option : Bool) → is_option word ≡ option → ⊥
apart_at before earlier word among none same false is =
    let first = query_first (is_option word) (list_any is_query before) _ none is in
    let zero_class : class word ≡ 0 = ap (λ b. class_of b (setting_of word)) is in
    let query = class_zero (is_option earlier) (setting_of earlier) (same ∙ zero_class) in
    true≢false (sym (among is_query (ap not query)) ∙ first)
apart_at before earlier word among none same true is =
    let fits = option_fits (is_option word) (list_any is_query before) _ none is in
    let first = is_first before word (setting_of word) fits in
    let class_is : class word ≡ place first.0 + 1 = ap (λ b. class_of b (setting_of word)) is ∙ ap setting_class first.1 in
    let gives_it = class_more (is_option earlier) (setting_of earlier) first.0 (same ∙ class_is) in
    let given = found (λ setting. gives setting earlier) settings first.0 gives_it in
    true≢false (sym (among (gives first.0) given) ∙ first.2)

-- a word without a fault is of another class than each before it
apart : (before : List Word) (earlier word : Word) → IsAmong earlier before → word_fault before word ≡ None → class earlier ≡ class word → ⊥
apart before earlier word among none same = apart_at before earlier word among none same (is_option word) refl

class_below_at : (before : List Word) (word : Word) → word_fault before word ≡ None → (option : Bool) → is_option word ≡ option → class word < 16
class_below_at before word none false is = let e : class word ≡ 0 = ap (λ b. class_of b (setting_of word)) is in omega arith
class_below_at before word none true is =
    let first = is_first before word (setting_of word) (option_fits (is_option word) (list_any is_query before) _ none is) in
    let e : class word ≡ place first.0 + 1 = ap (λ b. class_of b (setting_of word)) is ∙ ap setting_class first.1 in
    let below = (at_place first.0).0 in
    omega arith

class_below : (before : List Word) (word : Word) → word_fault before word ≡ None → class word < 16
class_below before word none = class_below_at before word none (is_option word) refl

-- words without a fault behind others
abbrev AreFaultless : List Word → List Word → Type 0
AreFaultless before [] = ⊤
AreFaultless before (word ∷ words) = (word_fault before word ≡ None) × AreFaultless (before ++ word ∷ []) words

among_more : (word : Word) (before : List Word) (next : Word) → IsAmong word before → IsAmong word (before ++ next ∷ [])
among_more word before next among p is = list_any-append p before (next ∷ []) ∙ ap (λ b. b || list_any p (next ∷ [])) (among p is)

or_true : (a b : Bool) → b ≡ true → (a || (b || false)) ≡ true
or_true true b is = refl
or_true false b is = ap (λ c. c || false) is

among_last : (word : Word) (before : List Word) → IsAmong word (before ++ word ∷ [])
among_last word before p is = list_any-append p before (word ∷ []) ∙ or_true (list_any p before) (p word) is

others : (before : List Word) (earlier : Word) (words : List Word) → IsAmong earlier before → AreFaultless before words → AllByRecursion (λ y. eqb (class earlier) y ≡ false) (map class words)
others before earlier [] among fine = tt
others before earlier (word ∷ words) among fine =
    (ne_eqb _ _ (apart before earlier word among fine.0), others (before ++ word ∷ []) earlier words (among_more earlier before word among) fine.1)

distinct : (before words : List Word) → AreFaultless before words → IsDistinct eqb (map class words)
unfolding IsDistinct
distinct before [] fine = tt
distinct before (word ∷ words) fine =
    (others (before ++ word ∷ []) word words (among_last word before) fine.1, distinct (before ++ word ∷ []) words fine.1)

below_at : (q k : ℕ) (b c : Bool) → eqb q k ≡ b → k < 16 → (c ≡ true → q < 16) → (b || c) ≡ true → q < 16
below_at q k true c same small rest is = let e = eqb-true q k same in omega arith
below_at q k false c same small rest is = rest is

below : (before words : List Word) → AreFaultless before words → (q : ℕ) → list_any (eqb q) (map class words) ≡ true → q < 16
below before [] fine q is = absurd (true≢false (sym is))
below before (word ∷ words) fine q is = below_at q (class word) (eqb q (class word)) _ refl (class_below before word fine.0) (below (before ++ word ∷ []) words fine.1 q) is

length_map : {X Y : Type 0} (f : X → Y) (xs : List X) → length (map f xs) ≡ length xs
length_map f [] = refl
length_map f (x ∷ xs) = ap suc (length_map f xs)

slice_get-seam : (before : List Word) (word : Word) (rest : List Word) → slice_get (before ++ word ∷ rest) (length before) ≡ Some word
slice_get-seam [] word rest = refl
slice_get-seam (x ∷ before) word rest = slice_get-seam before word rest

head_fits : (before : List Word) (word : Word) (rest : List Word) → fault_at (before ++ word ∷ rest) (length before) ≡ None → word_fault before word ≡ None
head_fits before word rest none = rw (take-append_seam before (word ∷ rest), slice_get-seam before word rest) at none

tail_fits : (before : List Word) (word : Word) (rest : List Word) (count : ℕ) → ((at : ℕ) → at < length before + suc count → fault_at (before ++ word ∷ rest) at ≡ None) → (at : ℕ) → at < length (before ++ word ∷ []) + count → fault_at ((before ++ word ∷ []) ++ rest) at ≡ None
tail_fits before word rest count fits at within = rw (append_assoc before (word ∷ []) rest) (fits at (let e = length-append before (word ∷ []) in omega arith))

-- the words up to a place are without a fault, by places
faultless_from : (before rest : List Word) (count : ℕ) → ((at : ℕ) → at < length before + count → fault_at (before ++ rest) at ≡ None) → AreFaultless before (take count rest)
faultless_from before [] zero fits = tt
faultless_from before [] (suc count) fits = tt
faultless_from before (word ∷ rest) zero fits = tt
faultless_from before (word ∷ rest) (suc count) fits =
    (head_fits before word rest (fits (length before) (omega arith)), faultless_from (before ++ word ∷ []) rest count (tail_fits before word rest count fits))

length_take : (words : List Word) (count : ℕ) → count ≤ length words → length (take count words) ≡ count
length_take words zero within = refl
length_take [] (suc count) within = absurd (omega arith)
length_take (word ∷ words) (suc count) within = ap suc (length_take words count (omega arith))

-- at most sixteen words are without a fault
pub few : (words : List Word) (count : ℕ) → count ≤ length words → ((at : ℕ) → at < count → fault_at words at ≡ None) → count ≤ 16
few words count within fits =
    let fine = faultless_from [] words count (λ at within. fits at (omega arith)) in
    let short = length-le_from_distinct_below (map class (take count words)) 16 (distinct [] (take count words) fine) (below [] (take count words) fine) in
    let e = length_map class (take count words) in
    let t = length_take words count within in
    omega arith
