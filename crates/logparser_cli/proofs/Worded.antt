-- Words that are fine and ask for output by a template name one.
use Rattle.std.proofs.Common.{◌≡◌, ◌≢◌, ◌∙◌, ◌+◌, ◌≤◌, ℕ, zero, suc, Bool, true, false, not, ◌&&◌, ◌||◌, ◌⊎◌, List, [], ◌∷◌, ◌++◌, codes, length, map, take, get_or, slice_get, find, position, option_map, option_and_then, if◌then◌else◌, is_some, nat_lt, nat_eq, unwrap_or, Option, Some, None, refl, ap, sym, subst, inl, inr, arith}
use Rattle.std.proofs.lemmas.Bool.{cases_Bool, ltb-false, true≢false, false≢true}
use Rattle.std.specs.Char.{to_ascii_lowercase}
use Rattle.std.specs.List.{list_any, before_first, ends_with, position_or_len}
use Rattle.std.specs.Option.{option_or}
use Rattle.std.specs.Cmp.Lexicographic.{bytes_decides}
use Rattle.grammar.specs.Trees as model
use Rattle.grammar.specs.Trees.{Placed}
use Rattle.checkpointed_command.specs.Texts.{has_text, into_in, output_by_into, output_of}
use Rattle.command_words.specs.declared.setting.Setting.{Setting}
use Rattle.command_words.specs.declared.setting.Setting.TheVariants as S
use Rattle.command_words.specs.declared.formats.OutputFormat.{OutputFormat}
use Rattle.command_words.specs.declared.formats.OutputFormat.TheVariants as O
use Rattle.command_words.specs.declared.spec.Spec.{Spec}
use Rattle.command_words.specs.declared.usage.UsageFault.{UsageFault}
use Rattle.command_words.specs.declared.usage.UsageKind.{UsageKind}
use Rattle.command_words.specs.declared.usage.UsageKind.TheVariants as U
use Rattle.command_words.specs.Formats.{output_in}
use Rattle.command_words.specs.Settings.{accepts, setting_name, settings}
use Rattle.command_words.specs.Table.{IsAsked}
use Rattle.command_words.specs.Texts.{same_text}
use Rattle.command_words.specs.Usage.{AreFine, asks_template, fault_at, fault_of, is_template, lacking, setting_fault, word_fault}
use Rattle.command_words.specs.Values.{name_in}
use Rattle.command_words.specs.Words.{given, gives, is_colon, is_option, is_query, setting_of, value_in}

abbrev Word : Type 0
Word = List ℕ

-- ---- what finds, tells

found_at : {X : Type 0} (p : X → Bool) (y x : X) (rest : Option X) (b : Bool) → p y ≡ b → (rest ≡ Some x → p x ≡ true) → (if b then Some y else rest) ≡ Some x → p x ≡ true
found_at p y x rest true is more e = let same : y ≡ x = cc in ap p (sym same) ∙ is
found_at p y x rest false is more e = more e

found : {X : Type 0} (p : X → Bool) (xs : List X) (x : X) → find p xs ≡ Some x → p x ≡ true
found p [] x e = absurd (cc)
found p (y ∷ ys) x e = found_at p y x (find p ys) (p y) refl (found p ys x) e

any_or : (a b : Bool) → b ≡ true → (a || b) ≡ true
any_or true b e = refl
any_or false b e = e

-- one that is found passes any test that it passes
among_at : {X : Type 0} (p q : X → Bool) (y x : X) (ys : List X) (b : Bool) → q x ≡ true → (find p ys ≡ Some x → list_any q ys ≡ true) → (if b then Some y else find p ys) ≡ Some x → (q y || list_any q ys) ≡ true
among_at p q y x ys true is more e = let same : y ≡ x = cc in ap (λ (b : Bool). b || list_any q ys) (ap q same ∙ is)
among_at p q y x ys false is more e = any_or (q y) (list_any q ys) (more e)

among : {X : Type 0} (p q : X → Bool) (xs : List X) (x : X) → find p xs ≡ Some x → q x ≡ true → list_any q xs ≡ true
among p q [] x e is = absurd (cc)
among p q (y ∷ ys) x e is = among_at p q y x ys (p y) is (λ more. among p q ys x more is) e

some_of : {X Y : Type 0} (f : X → Y) (o : Option X) (y : Y) → option_map f o ≡ Some y → (x : X) × (o ≡ Some x) × (f x ≡ y)
some_of f None y e = absurd (cc)
some_of f (Some x) y e = (x, refl, cc)

then_some : {X Y : Type 0} (f : X → Option Y) (o : Option X) (y : Y) → option_and_then f o ≡ Some y → (x : X) × (o ≡ Some x) × (f x ≡ Some y)
then_some f None y e = absurd (cc)
then_some f (Some x) y e = (x, refl, e)

then_none : {X Y : Type 0} (f : X → Option Y) (o : Option X) (x : X) → o ≡ Some x → is_some (f x) ≡ true → option_and_then f o ≢ None
then_none f None x is some e = absurd (cc)
then_none f (Some y) x is some e =
    let same : y ≡ x = cc in
    let none : f x ≡ None = ap f (sym same) ∙ e in
    false≢true (sym (ap is_some none) ∙ some)

find_any : {X : Type 0} (p : X → Bool) (xs : List X) → list_any p xs ≡ true → (x : X) × (find p xs ≡ Some x)
find_any p [] e = absurd (cc)
find_any p (y ∷ ys) e = elim (cases_Bool (p y)) [
  | inl holds ↦ (y, ap (λ (b : Bool). if b then Some y else find p ys) holds)
  | inr fails ↦
      let more = find_any p ys (sym (ap (λ (b : Bool). b || list_any p ys) fails) ∙ e) in
      (more.0, ap (λ (b : Bool). if b then Some y else find p ys) fails ∙ more.1)
]

-- ---- the place of the first that passes

place_none : (n len : ℕ) → (if nat_lt n len then Some n else None) ≡ None → len ≤ n
place_none n len e = elim (cases_Bool (nat_lt n len)) [
  | inl holds ↦ absurd (let some : Some n ≡ None = sym (ap (λ (b : Bool). if b then Some n else None) holds) ∙ e in cc)
  | inr fails ↦ ltb-false n len fails
]

place_step : (b : Bool) (n len : ℕ) → suc len ≤ (if not b then 1 + n else 0) → (b ≡ false) × (len ≤ n)
place_step true n len e = absurd (omega (arith, e))
place_step false n len e = (refl, omega (arith, e))

no_place : {X : Type 0} (p : X → Bool) (xs : List X) → length xs ≤ position_or_len p xs → list_any p xs ≡ false
no_place p [] e = refl
no_place p (x ∷ xs) e =
    let step = place_step (p x) (position_or_len p xs) (length xs) e in
    ap (λ (b : Bool). b || list_any p xs) step.0 ∙ no_place p xs step.1

-- ---- an option's word

template_first : (n : ℕ) → n ≡ 116 → nat_eq n 116 ≡ false → ⊥
template_first n e other = true≢false (sym (ap (λ (m : ℕ). nat_eq m 116) e) ∙ other)

-- no other option is named as `-tpl` is
abbrev second : Word → ℕ
second word = get_or word 1 0

abbrev lower : Word → Word
lower text = map to_ascii_lowercase text

named_template : (s : Setting) → lower (setting_name s) ≡ lower (codes "-tpl") → s ≡ S.Template
named_template S.Input e = absurd (template_first 105 (ap second e) refl)
named_template S.Output e = absurd (template_first 111 (ap second e) refl)
named_template S.Errors e = absurd (template_first 101 (ap second e) refl)
named_template S.Stats e = absurd (template_first 115 (ap second e) refl)
named_template S.Checkpoint e = absurd (template_first 105 (ap second e) refl)
named_template S.Rotation e = absurd (template_first 105 (ap second e) refl)
named_template S.HeaderRow e = absurd (template_first 104 (ap second e) refl)
named_template S.SampleLines e = absurd (template_first 100 (ap second e) refl)
named_template S.TimeFormat e = absurd (template_first 105 (ap second e) refl)
named_template S.Separator e = absurd (template_first 105 (ap second e) refl)
named_template S.RowsToPage e = absurd (template_first 114 (ap second e) refl)
named_template S.Headers e = absurd (template_first 104 (ap second e) refl)
named_template S.OutSeparator e = absurd (template_first 111 (ap second e) refl)
named_template S.FileMode e = absurd (template_first 102 (ap second e) refl)
named_template S.Template e = refl

both : (a b : Bool) → (a && b) ≡ true → (a ≡ true) × (b ≡ true)
both true b e = (refl, e)
both false b e = absurd (cc)

gives_name : (s : Setting) (word : Word) → gives s word ≡ true → lower (before_first is_colon word) ≡ lower (setting_name s)
gives_name s word e = (bytes_decides (lower (before_first is_colon word)) (lower (setting_name s))).0 (both (list_any is_colon word) (same_text (before_first is_colon word) (setting_name s)) e).1

-- a letter that is `-` in lower case
dash : (b : ℕ) → to_ascii_lowercase b ≡ 45 → b ≡ 45
dash b e = elim (cases_Bool (nat_lt b 65)) [
  | inl low ↦ rw low at e
  | inr more ↦ elim (cases_Bool (nat_lt b 91)) [
    | inl letter ↦ let sum : b + 32 ≡ 45 = rw (more, letter) at e in
        let least : 65 ≤ b = ltb-false b 65 more in
        absurd (omega (arith, least, sum))
    | inr high ↦ rw (more, high) at e
  ]
]

begins : (n b : ℕ) (bs : Word) → lower (take n (b ∷ bs)) ≡ lower (codes "-tpl") → to_ascii_lowercase b ≡ 45
begins zero b bs e = absurd (let none : 0 ≡ 4 = ap length e in omega (arith, none))
begins (suc n) b bs e = ap (λ (l : Word). get_or l 0 0) e

is_option_word : (word : Word) → gives S.Template word ≡ true → is_option word ≡ true
is_option_word [] e = absurd (cc)
is_option_word (b ∷ bs) e =
    let is : b ≡ 45 = dash b (begins (position_or_len is_colon (b ∷ bs)) b bs (gives_name S.Template (b ∷ bs) e)) in
    ap (λ (byte : ℕ). nat_eq byte 45) is

or_false : (a : Bool) → a ≡ true → (a || false) ≡ true
or_false true e = refl
or_false false e = e

any_setting : (word : Word) → gives S.Template word ≡ true → list_any (λ (s : Setting). gives s word) settings ≡ true
any_setting word e = any_or (gives S.Input word) (gives S.Output word || (gives S.Errors word || (gives S.Stats word || (gives S.Checkpoint word || (gives S.Rotation word || (gives S.HeaderRow word || (gives S.SampleLines word || (gives S.TimeFormat word || (gives S.Separator word || (gives S.RowsToPage word || (gives S.Headers word || (gives S.OutSeparator word || (gives S.FileMode word || (gives S.Template word || false)))))))))))))) (any_or (gives S.Output word) (gives S.Errors word || (gives S.Stats word || (gives S.Checkpoint word || (gives S.Rotation word || (gives S.HeaderRow word || (gives S.SampleLines word || (gives S.TimeFormat word || (gives S.Separator word || (gives S.RowsToPage word || (gives S.Headers word || (gives S.OutSeparator word || (gives S.FileMode word || (gives S.Template word || false))))))))))))) (any_or (gives S.Errors word) (gives S.Stats word || (gives S.Checkpoint word || (gives S.Rotation word || (gives S.HeaderRow word || (gives S.SampleLines word || (gives S.TimeFormat word || (gives S.Separator word || (gives S.RowsToPage word || (gives S.Headers word || (gives S.OutSeparator word || (gives S.FileMode word || (gives S.Template word || false)))))))))))) (any_or (gives S.Stats word) (gives S.Checkpoint word || (gives S.Rotation word || (gives S.HeaderRow word || (gives S.SampleLines word || (gives S.TimeFormat word || (gives S.Separator word || (gives S.RowsToPage word || (gives S.Headers word || (gives S.OutSeparator word || (gives S.FileMode word || (gives S.Template word || false))))))))))) (any_or (gives S.Checkpoint word) (gives S.Rotation word || (gives S.HeaderRow word || (gives S.SampleLines word || (gives S.TimeFormat word || (gives S.Separator word || (gives S.RowsToPage word || (gives S.Headers word || (gives S.OutSeparator word || (gives S.FileMode word || (gives S.Template word || false)))))))))) (any_or (gives S.Rotation word) (gives S.HeaderRow word || (gives S.SampleLines word || (gives S.TimeFormat word || (gives S.Separator word || (gives S.RowsToPage word || (gives S.Headers word || (gives S.OutSeparator word || (gives S.FileMode word || (gives S.Template word || false))))))))) (any_or (gives S.HeaderRow word) (gives S.SampleLines word || (gives S.TimeFormat word || (gives S.Separator word || (gives S.RowsToPage word || (gives S.Headers word || (gives S.OutSeparator word || (gives S.FileMode word || (gives S.Template word || false)))))))) (any_or (gives S.SampleLines word) (gives S.TimeFormat word || (gives S.Separator word || (gives S.RowsToPage word || (gives S.Headers word || (gives S.OutSeparator word || (gives S.FileMode word || (gives S.Template word || false))))))) (any_or (gives S.TimeFormat word) (gives S.Separator word || (gives S.RowsToPage word || (gives S.Headers word || (gives S.OutSeparator word || (gives S.FileMode word || (gives S.Template word || false)))))) (any_or (gives S.Separator word) (gives S.RowsToPage word || (gives S.Headers word || (gives S.OutSeparator word || (gives S.FileMode word || (gives S.Template word || false))))) (any_or (gives S.RowsToPage word) (gives S.Headers word || (gives S.OutSeparator word || (gives S.FileMode word || (gives S.Template word || false)))) (any_or (gives S.Headers word) (gives S.OutSeparator word || (gives S.FileMode word || (gives S.Template word || false))) (any_or (gives S.OutSeparator word) (gives S.FileMode word || (gives S.Template word || false)) (any_or (gives S.FileMode word) (gives S.Template word || false) (or_false (gives S.Template word) e))))))))))))))

-- the option that a word gives is the one that it gives
given_setting : (word : Word) → gives S.Template word ≡ true → setting_of word ≡ Some S.Template
given_setting word e =
    let some = find_any (λ (s : Setting). gives s word) settings (any_setting word e) in
    let gives_it = found (λ (s : Setting). gives s word) settings some.0 some.1 in
    some.1 ∙ ap (λ (s : Setting). Some s) (named_template some.0 (sym (gives_name some.0 word gives_it) ∙ gives_name S.Template word e))

-- ---- a word without a fault

fits_option : (before : List Word) (word : Word) → word_fault before word ≡ None → is_option word ≡ true → setting_fault before word (setting_of word) ≡ None
fits_option before word e option = rw option at e

accepted : (repeated accepts : Bool) → (if repeated then Some U.Repeated else if accepts then None else Some U.BadValue) ≡ None → accepts ≡ true
accepted true accepts e = absurd (cc)
accepted false true e = refl
accepted false false e = absurd (cc)

fits_template : (before : List Word) (word : Word) → word_fault before word ≡ None → gives S.Template word ≡ true → is_some (name_in (value_in word)) ≡ true
fits_template before word none e =
    let fits = fits_option before word none (is_option_word word e) in
    let taken : setting_fault before word (Some S.Template) ≡ None = subst (λ (o : Option Setting). setting_fault before word o ≡ None) (given_setting word e) fits in
    accepted (list_any (gives S.Template) before) (accepts S.Template (value_in word)) taken

append_one : (xs : List Word) (y : Word) (ys : List Word) → (xs ++ y ∷ []) ++ ys ≡ xs ++ y ∷ ys
append_one [] y ys = refl
append_one (x ∷ xs) y ys = ap (λ (l : List Word). x ∷ l) (append_one xs y ys)

at_seam : (before : List Word) (word : Word) (rest : List Word) → slice_get (before ++ word ∷ rest) (length before) ≡ Some word
at_seam [] word rest = refl
at_seam (x ∷ xs) word rest = at_seam xs word rest

take_seam : (before : List Word) (word : Word) (rest : List Word) → take (length before) (before ++ word ∷ rest) ≡ before
take_seam [] word rest = refl
take_seam (x ∷ xs) word rest = ap (λ (l : List Word). x ∷ l) (take_seam xs word rest)

here : (before : List Word) (word : Word) (rest : List Word) → fault_at (before ++ word ∷ rest) (length before) ≡ None → word_fault before word ≡ None
here before word rest e = sym (ap (option_and_then (word_fault (take (length before) (before ++ word ∷ rest)))) (at_seam before word rest) ∙ ap (λ (l : List Word). word_fault l word) (take_seam before word rest)) ∙ e

-- of words without faults each has none behind those before it
each_one : (before words : List Word) (p : Word → Bool) (word : Word) → ((at : ℕ) → fault_at (before ++ words) at ≡ None) → find p words ≡ Some word → (front : List Word) × (word_fault front word ≡ None)
each_one before [] p word fits e = absurd (cc)
each_one before (w ∷ ws) p word fits e = elim (cases_Bool (p w)) [
  | inl holds ↦
      let same : w ≡ word = (let s : Some w ≡ Some word = sym (ap (λ (b : Bool). if b then Some w else find p ws) holds) ∙ e in cc) in
      (before, subst (λ (x : Word). word_fault before x ≡ None) same (here before w ws (fits (length before))))
  | inr fails ↦ each_one (before ++ w ∷ []) ws p word (subst (λ (l : List Word). (at : ℕ) → fault_at l at ≡ None) (sym (append_one before w ws)) fits) (sym (ap (λ (b : Bool). if b then Some w else find p ws) fails) ∙ e)
]

-- ---- what words lack

lacks_none : (query : Bool) (first second : Option UsageFault) (other : UsageFault) → (if query then option_or first second else Some other) ≡ None → second ≡ None
lacks_none true None second other e = e
lacks_none true (Some fault) second other e = absurd (cc)
lacks_none false first second other e = absurd (cc)

none_lacking : (given : Bool) (kind : UsageKind) (place : Option ℕ) → (if given then None else option_map (fault_of kind) place) ≡ None → (given ≡ true) ⊎ (place ≡ None)
none_lacking true kind place e = inl refl
none_lacking false kind None e = inr refl
none_lacking false kind (Some at) e = absurd (cc)

asks_it : (word : Word) → gives S.Output word ≡ true → output_in (value_in word) ≡ Some O.Tpl → asks_template word ≡ true
asks_it word given is = ap (λ (b : Bool). b && is_template (output_in (value_in word))) given ∙ ap is_template is

template_word : (words : List Word) → AreFine words → (word : Word) → find (gives S.Output) words ≡ Some word → output_in (value_in word) ≡ Some O.Tpl → list_any (gives S.Template) words ≡ true
template_word words fine word first is =
    let asks = among (gives S.Output) asks_template words word first (asks_it word (found (gives S.Output) words word first) is) in
    let second = lacks_none (list_any is_query words) (lacking (gives S.Rotation) S.Checkpoint U.NeedsCheckpoint words) (lacking asks_template S.Template U.NeedsTemplate words) (fault_of U.NoQuery (length words)) fine.whole in
    elim (none_lacking (list_any (gives S.Template) words) U.NeedsTemplate (position asks_template words) second) [
      | inl given ↦ given
      | inr none ↦ absurd (true≢false (sym asks ∙ no_place asks_template words (place_none (position_or_len asks_template words) (length words) none)))
    ]

template_given : (words : List Word) (spec : Spec) → AreFine words → IsAsked words spec → spec.output ≡ Some O.Tpl → spec.tpl ≢ None
template_given words spec fine asked tpl none =
    let value = then_some output_in (given S.Output words) O.Tpl (sym asked.output ∙ tpl) in
    let word = some_of value_in (find (gives S.Output) words) value.0 value.1 in
    let any = template_word words fine word.0 word.1 (ap output_in word.2 ∙ value.2) in
    let named = find_any (gives S.Template) words any in
    let fits = each_one [] words (gives S.Template) named.0 fine.each named.1 in
    then_none name_in (given S.Template words) (value_in named.0) (ap (option_map value_in) named.1) (fits_template fits.0 named.0 fits.1 (found (gives S.Template) words named.0 named.1)) (sym asked.tpl ∙ none)

-- ---- the text of each run

has_template : (spec : Spec) (format : OutputFormat) → is_some spec.tpl ≡ true → has_text spec format ≡ true
has_template spec O.Nat e = refl
has_template spec O.Csv e = refl
has_template spec O.Tsv e = refl
has_template spec O.W3c e = refl
has_template spec O.Tpl e = e

named_text : (spec : Spec) (a b c : Bool) → has_text spec (if a then O.Csv else if b then O.Tsv else if c then O.W3c else O.Nat) ≡ true
named_text spec true b c = refl
named_text spec false true c = refl
named_text spec false false true = refl
named_text spec false false false = refl

-- no name asks for a template
text_by_into : (spec : Spec) (into : Option Placed) → has_text spec (output_by_into into) ≡ true
text_by_into spec None = refl
text_by_into spec (Some name) = named_text spec (ends_with nat_eq name.text (codes ".csv")) (ends_with nat_eq name.text (codes ".tsv")) (ends_with nat_eq name.text (codes ".log"))

module _ (words : List Word) (spec : Spec) (fine : AreFine words) (asked : IsAsked words spec) (q : model.Query) where
  text_as : (output : Option OutputFormat) (tpl : Option Word) → spec.output ≡ output → spec.tpl ≡ tpl → has_text spec (unwrap_or output (if is_some tpl then O.Tpl else output_by_into (into_in q))) ≡ true
  text_as output (Some name) out is = has_template spec (unwrap_or output O.Tpl) (ap is_some is)
  text_as None None out is = text_by_into spec (into_in q)
  text_as (Some O.Nat) None out is = refl
  text_as (Some O.Csv) None out is = refl
  text_as (Some O.Tsv) None out is = refl
  text_as (Some O.W3c) None out is = refl
  text_as (Some O.Tpl) None out is = absurd (template_given words spec fine asked out is)

-- the output of a query is by a template only where words that are fine name one
pub fine_texts : (words : List Word) (spec : Spec) → AreFine words → IsAsked words spec → (q : model.Query) → has_text spec (output_of spec q) ≡ true
fine_texts words spec fine asked q = text_as words spec fine asked q spec.output spec.tpl refl refl
