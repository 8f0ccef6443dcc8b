-- The columns that lines leave in force fit the ledger's form of a standing.
use Rattle.std.proofs.Common.{◌≡◌, ℕ, zero, suc, ◌+◌, ◌-◌, ◌*◌, ◌<◌, ◌≤◌, ◌^◌, Bool, true, false, not, ◌&&◌, ◌||◌, List, [], ◌∷◌, ◌++◌, length, take, drop, map, filter, flat_map, reverse, Option, Some, None, refl, sym, ◌∙◌, ap, subst, arith, inl, inr, nat_lt, nat_le, lit≤, length-append, length-drop}
use Rattle.std.specs.Prelude.{codes, decimal, option_map, option_and_then, ◌==◌}
use Rattle.std.specs.Bool.{⊤}
use Rattle.std.specs.List.{AllByRecursion, find, slice_split, onto_first, enumerate_from, range_with_len}
use Rattle.std.specs.Str.{IsUtf8, is_utf8, chars}
use Rattle.std.specs.Str.Lossy.{valid_len_up_to, utf8_valid_len, utf8_lossy, utf8_invalid_len, utf8_error_len, after_first_chunk, replacement_bytes}
use Rattle.std.proofs.lemmas.Bool.{cases_Bool, cases_lt}
use Rattle.std.proofs.lemmas.Bool.Decides.{nat_tests}
use Rattle.std.proofs.lemmas.Grind.{common_steps, reverse_onto}
use Rattle.std.proofs.lemmas.List.{append-nil, length-map, length-take, length-take-le, take_all}
use Rattle.std.proofs.lemmas.Str.{IsUtf8-append, IsUtf8-nil, IsUtf8-from_is_utf8, IsUtf8-from_ascii, utf8_lossy_step, utf8_lossy-IsUtf8}
use Rattle.std.proofs.lemmas.List.FromFn.{length-enumerate_from, length-map-range_with_len}
use Rattle.std.proofs.lemmas.Fmt.{IsAscii-decimal, length-decimal-le_succ}
use Rattle.std.specs.Option.{option_to_list}
use Rattle.run_entry.specs.Formats.{lines_in}
use Rattle.run_entry.specs.LogFormat.{LogFormat}
use Rattle.run_entry.specs.LogFormat.TheVariants as F
use Rattle.input_tables.specs.declared.format.TableFormat.{TableFormat}
use Rattle.input_tables.specs.declared.format.TableFormat.TheVariants as T
use Rattle.input_tables.specs.Tables.{lines_of as table_lines}
use Rattle.ledger_model.specs.Layouts.{AllFit, spelled}
use Rattle.ledger_model.specs.Numbers.{u16_bytes, u32_bytes, u64_bytes, text_bytes, text_of}
use Rattle.ledger_model.specs.Standings.{AreColumns, columns_bytes, standing_layout}
use Rattle.ledger_model.proofs.Fields.{u16_length, u32_length, u64_length}
use Rattle.line_input.specs.Parts.{parts_by, is_gap, is_filled}
use Rattle.lp_model.specs.Lines.{Line, lines_of, longest, is_overlong}
use Rattle.lp_model.proofs.Ordered.{Ordered, ordered_lines, ends_by}
use Rattle.lp_model.specs.Reading.{Columns, Format, is_in_bounds, lines_before, standing_at, text_lines}
use Rattle.w3c_input.specs.Lines.{w3c_lines, columns_set, names_columns, names_in, is_too_many, sets_columns}
use Rattle.delimited_input.specs.declared.options.DelimitedOptions.{DelimitedOptions}
use Rattle.delimited_input.specs.Fields.{Cut, onto, plain_field, quoted_field, first_field, fields_among, fields_of}
use Rattle.delimited_input.specs.Lines.{delimited_lines, columns_of, fields_in, is_empty, is_broken, may_set}
use Rattle.delimited_input.specs.Lines.{sets_columns as delimited_sets_columns}
use Rattle.delimited_input.specs.Names.{made_name, made_names, header_name, header_names, is_made}
use Rattle.line_input.specs.Words.{text_words}
use Rattle.line_input.specs.declared.gap.Gap.TheVariants.{Spaces}
use Rattle.ncsa_input.specs.Lines.{ncsa_lines}

front_up_to : (bs : List ℕ) (n : ℕ) → IsUtf8 (take (valid_len_up_to bs n) bs)
front_up_to bs zero = IsUtf8-nil
front_up_to bs (suc n) = elim (cases_Bool (is_utf8 (take (suc n) bs))) [
  | inl e ↦ rw e (IsUtf8-from_is_utf8 (take (suc n) bs) e)
  | inr e ↦ rw e (front_up_to bs n)
]

-- the longest front that is text
front_is_text : (bs : List ℕ) → IsUtf8 (take (utf8_valid_len bs) bs)
unfolding utf8_valid_len
front_is_text bs = front_up_to bs (length bs)

-- an invalid sequence has a byte, where there is one
invalid_some : (bs : List ℕ) → 0 < length bs → 0 < utf8_invalid_len bs
unfolding utf8_error_len
invalid_some bs some = grind (arith, common_steps, nat_tests)

replacement_passes : is_utf8 replacement_bytes ≡ true
unfolding is_utf8 chars lib.Utf8.encode
replacement_passes = refl

replacement_is_text : IsUtf8 replacement_bytes
replacement_is_text = IsUtf8-from_is_utf8 replacement_bytes replacement_passes

-- a text that is repaired is text, and has at most three times the bytes
pub record IsRepaired (bytes text : List ℕ) : Type 0 where
  pub utf8 : IsUtf8 text
  pub most : length text ≤ 3 * length bytes

-- the rest is shorter
rest_shorter : (bs : List ℕ) → utf8_valid_len bs < length bs → (length (after_first_chunk bs) < length bs) × (utf8_valid_len bs + length (after_first_chunk bs) < length bs)
rest_shorter bs faulty =
    let v : ℕ = utf8_valid_len bs in
    let i : ℕ = utf8_invalid_len (drop v bs) in
    let some : 0 < i = invalid_some (drop v bs) (omega (arith, length-drop v bs, faulty)) in
    let left : length (after_first_chunk bs) ≡ length bs - (v + i) = length-drop (v + i) bs in
    (omega (arith, left, some, faulty), omega (arith, left, some, faulty))

broken : (bs : List ℕ) → utf8_valid_len bs < length bs → IsRepaired (after_first_chunk bs) (utf8_lossy (after_first_chunk bs)) → IsRepaired bs (utf8_lossy bs)
broken bs faulty rest =
    let v : ℕ = utf8_valid_len bs in
    let shorter = (rest_shorter bs faulty).1 in
    let front : length (take v bs) ≡ v = length-take-le v bs (omega (arith, faulty)) in
    let size : length (take v bs ++ (replacement_bytes ++ utf8_lossy (after_first_chunk bs))) ≡ v + (3 + length (utf8_lossy (after_first_chunk bs))) =
    omega (arith, front, length-append (take v bs) (replacement_bytes ++ utf8_lossy (after_first_chunk bs)), length-append replacement_bytes (utf8_lossy (after_first_chunk bs))) in
    let not_all : ¬ (utf8_valid_len bs ≡ length bs) = λ e. omega (arith, e, faulty) in
    subst (IsRepaired bs) (sym (utf8_lossy_step bs not_all))
    (record {
      utf8 = IsUtf8-append (take v bs) (replacement_bytes ++ utf8_lossy (after_first_chunk bs)) (front_is_text bs) (IsUtf8-append replacement_bytes (utf8_lossy (after_first_chunk bs)) replacement_is_text rest.utf8);
      most = omega (arith, size, rest.most, shorter);
    })

whole : (bs : List ℕ) → length bs ≤ utf8_valid_len bs → IsRepaired bs (utf8_lossy bs)
whole bs all =
    let is : IsUtf8 bs = subst IsUtf8 (take_all (utf8_valid_len bs) bs all) (front_is_text bs) in
    subst (IsRepaired bs) (sym (utf8_lossy-IsUtf8 bs is)) (record { utf8 = is; most = omega arith })

repaired_up_to : (n : ℕ) (bs : List ℕ) → length bs ≤ n → IsRepaired bs (utf8_lossy bs)
repaired_up_to zero bs small = whole bs (omega arith)
repaired_up_to (suc n) bs small = elim (cases_lt (utf8_valid_len bs) (length bs)) [
  | inl faulty ↦ let shorter = (rest_shorter bs faulty).0 in broken bs faulty (repaired_up_to n (after_first_chunk bs) (omega (arith, shorter, small)))
  | inr all ↦ whole bs all
]

pub repaired : (bs : List ℕ) → IsRepaired bs (utf8_lossy bs)
repaired bs = repaired_up_to (length bs) bs (omega arith)

-- ---- parts of a line

-- no text is longer
abbrev pub AreAtMost : ℕ → List (List ℕ) → Type 0
AreAtMost most texts = AllByRecursion (λ (text : List ℕ). length text ≤ most) texts

longer : (m n : ℕ) (texts : List (List ℕ)) → m ≤ n → AreAtMost m texts → AreAtMost n texts
longer m n [] le all = tt
longer m n (t ∷ ts) le (p, all) = (omega arith, longer m n ts le all)

at_most_onto : (most b : ℕ) (parts : List (List ℕ)) → AreAtMost most parts → AreAtMost (most + 1) (onto_first b parts)
at_most_onto most b [] all = (omega arith, tt)
at_most_onto most b (part ∷ parts) (p, all) = (omega arith, longer most (most + 1) parts (omega arith) all)

split_at_most : (gap : ℕ → Bool) (text : List ℕ) → AreAtMost (length text) (slice_split gap text)
split_at_most gap [] = (omega arith, tt)
split_at_most gap (b ∷ bs) =
    let more = split_at_most gap bs in
    let size : length bs + 1 ≡ length (b ∷ bs) = omega arith in
    elim (cases_Bool (gap b)) [
      | inl e ↦ let all : AreAtMost (length (b ∷ bs)) ([] ∷ slice_split gap bs) = (omega arith, longer (length bs) (length (b ∷ bs)) (slice_split gap bs) (omega arith) more) in rw e all
      | inr e ↦ let all : AreAtMost (length (b ∷ bs)) (onto_first b (slice_split gap bs)) = subst (λ (n : ℕ). AreAtMost n (onto_first b (slice_split gap bs))) size (at_most_onto (length bs) b (slice_split gap bs) more) in rw e all
    ]

all_filtered : (P : List ℕ → Type 0) (test : List ℕ → Bool) (texts : List (List ℕ)) → AllByRecursion P texts → AllByRecursion P (filter test texts)
all_filtered P test [] all = tt
all_filtered P test (t ∷ ts) (p, all) = elim (cases_Bool (test t)) [
  | inl e ↦ let both : AllByRecursion P (t ∷ filter test ts) = (p, all_filtered P test ts all) in rw e both
  | inr e ↦ rw e (all_filtered P test ts all)
]

pub parts_at_most : (gap : ℕ → Bool) (text : List ℕ) → AreAtMost (length text) (parts_by gap text)
unfolding parts_by
parts_at_most gap text = all_filtered (λ (part : List ℕ). length part ≤ length text) is_filled (slice_split gap text) (split_at_most gap text)

-- ---- columns

-- a name of a column: a text of at most three times the bytes of a line that is read
pub record IsColumnName (name : List ℕ) : Type 0 where
  pub most : length name ≤ 3_145_728
  pub utf8 : IsUtf8 name

-- columns that are few, each with such a name
abbrev pub AreShort : Option Columns → Type 0
AreShort None = ⊤
AreShort (Some names) = (length names ≤ 1024) × AllByRecursion IsColumnName names

all_fit : (before names : List (List ℕ)) → AllByRecursion IsColumnName names → AllFit (λ (before : List (List ℕ)). text_of IsUtf8) before names
all_fit before [] all = tt
all_fit before (name ∷ names) (is, all) = ((omega (arith, is.most), is.utf8), all_fit (before ++ name ∷ []) names all)

-- such columns fit the ledger's form
columns_as_kept : (columns : Option Columns) → AreShort columns → AreColumns columns
columns_as_kept None short = tt
columns_as_kept (Some names) (few, all) = (omega (arith, few), all_fit [] names all)

pub columns_of_names : (names : List (List ℕ)) → length names ≤ 1024 → AllByRecursion IsColumnName names → AreShort (Some names)
columns_of_names names few all = (few, all)

repaired_name : (bytes : List ℕ) → length bytes ≤ longest → IsColumnName (utf8_lossy bytes)
repaired_name bytes short = let is = repaired bytes in record { most = omega (arith, is.most, short); utf8 = is.utf8 }

repaired_names : (texts : List (List ℕ)) → AreAtMost longest texts → AllByRecursion IsColumnName (map utf8_lossy texts)
repaired_names [] all = tt
repaired_names (t ∷ ts) (p, all) = (repaired_name t p, repaired_names ts all)

-- what a test finds first has what all have
found : (P : List ℕ → Type 0) (test : List ℕ → Bool) (texts : List (List ℕ)) → AllByRecursion P texts → (text : List ℕ) → find test texts ≡ Some text → P text × (test text ≡ true)
found P test [] all text e = absurd (cc)
found P test (t ∷ ts) (p, all) text e = elim (cases_Bool (test t)) [
  | inl yes_here ↦
      let is : Some t ≡ Some text = rw yes_here at e in
      let same : t ≡ text = cc in
      subst (λ (u : List ℕ). P u × (test u ≡ true)) same (p, yes_here)
  | inr other ↦ let rest : find test ts ≡ Some text = rw other at e in found P test ts all text rest
]

all_among : (P : List ℕ → Type 0) (xs ys : List (List ℕ)) → AllByRecursion P xs → AllByRecursion P ys → AllByRecursion P (xs ++ ys)
all_among P [] ys first second = second
all_among P (x ∷ xs) ys (p, first) second = (p, all_among P xs ys first second)

all_reversed : (P : List ℕ → Type 0) (texts : List (List ℕ)) → AllByRecursion P texts → AllByRecursion P (reverse texts)
all_reversed P [] all = tt
all_reversed P (t ∷ ts) (p, all) = subst (AllByRecursion P) (sym (reverse_onto ts t [])) (all_among P (reverse ts) (t ∷ []) (all_reversed P ts all) (p, tt))

-- what a format sets of short texts
abbrev pub SetsColumns : Format → Type 0
SetsColumns format = (texts : List (List ℕ)) → AreAtMost longest texts → AreShort (format.columns_after texts)

by_found : (P : List ℕ → Type 0) (set : List ℕ → Option Columns) (first : Option (List ℕ)) → ((text : List ℕ) → first ≡ Some text → P text) → ((text : List ℕ) → P text → AreShort (set text)) → AreShort (option_and_then set first)
by_found P set None has sets = tt
by_found P set (Some text) has sets = sets text (has text refl)

w3c_set : (text : List ℕ) → length text ≤ longest → AreShort (columns_set text)
w3c_set text short = elim (cases_Bool (names_columns text && not (is_too_many (names_in text)))) [
  | inl e ↦
      let few : length (names_in text) ≤ 1024 = few_names (names_columns text) (length (names_in text)) e in
      let left : length (drop 8 text) ≤ longest = omega (arith, length-drop 8 text, short) in
      let parts = longer (length (drop 8 text)) longest (parts_by (is_gap Spaces) (drop 8 text)) left (parts_at_most (is_gap Spaces) (drop 8 text)) in
      let all : AreShort (Some (names_in text)) = columns_of_names (names_in text) few (repaired_names (parts_by (is_gap Spaces) (drop 8 text)) parts) in
      rw e all
  | inr e ↦ rw e tt
]
  where
    few_names : (named : Bool) (many : ℕ) → (named && not (nat_lt 1024 many)) ≡ true → many ≤ 1024
    few_names named many e = grind (arith, nat_tests)

pub w3c_sets : SetsColumns w3c_lines
unfolding w3c_lines
w3c_sets texts short = by_found (λ (text : List ℕ). length text ≤ longest) columns_set (find sets_columns (reverse texts))
    (λ text e. (found (λ (t : List ℕ). length t ≤ longest) sets_columns (reverse texts) (all_reversed (λ (t : List ℕ). length t ≤ longest) texts short) text e).0) w3c_set

pub ncsa_sets : SetsColumns ncsa_lines
unfolding ncsa_lines
ncsa_sets texts short = tt

pub text_sets : SetsColumns text_lines
text_sets texts short = tt

pub word_sets : SetsColumns text_words
word_sets texts short = tt

-- ---- fields

-- a field and what is left behind it are no longer than the text
abbrev pub Within : List ℕ → Cut → Type 0
Within text cut = (length cut.0 ≤ length text) × ((rest : List ℕ) → cut.1 ≡ Some rest → length rest ≤ length text)

no_rest : (rest bytes : List ℕ) → None ≡ Some rest → length rest ≤ length bytes
no_rest rest bytes e = absurd (cc)

within_none : (field text : List ℕ) → length field ≤ length text → Within text (field, None)
within_none field text le = (le, λ rest e. no_rest rest text e)

within_onto : (b : ℕ) (text : List ℕ) (cut : Cut) → Within text cut → Within (b ∷ text) (onto b cut)
within_onto b text cut (field, rest) = (omega (arith, field), λ left e. let le = rest left e in omega (arith, le))

within_more : (b : ℕ) (text : List ℕ) (cut : Cut) → Within text cut → Within (b ∷ text) cut
within_more b text cut (field, rest) = (omega (arith, field), λ left e. let le = rest left e in omega (arith, le))

within_ended : (b : ℕ) (bs : List ℕ) → Within (b ∷ bs) ([], Some bs)
within_ended b bs = (omega arith, λ rest e. let some : Some bs ≡ Some rest = e in let same : bs ≡ rest = cc in let size : length bs ≡ length rest = ap length same in omega (arith, size))

plain_within : (separator : ℕ) (text : List ℕ) → Within text (plain_field separator text)
unfolding plain_field
plain_within separator [] = within_none [] [] (omega arith)
plain_within separator (b ∷ bs) = elim (cases_Bool (b == separator)) [
  | inl e ↦ rw e (within_ended b bs)
  | inr e ↦ rw e (within_onto b bs (plain_field separator bs) (plain_within separator bs))
]

within_onto_any : (a b : ℕ) (text : List ℕ) (cut : Cut) → Within text cut → Within (b ∷ text) (onto a cut)
within_onto_any a b text cut (field, rest) = (omega (arith, field), λ left e. let le = rest left e in omega (arith, le))

quoted_within : (separator : ℕ) (text : List ℕ) → Within text (quoted_field separator text)
unfolding quoted_field
quoted_within separator [] = within_none [] [] (omega arith)
quoted_within separator (b ∷ []) = elim (cases_Bool (b == 34)) [
  | inl e ↦ rw e (within_none [] (b ∷ []) (omega arith))
  | inr e ↦ rw e (within_none (b ∷ []) (b ∷ []) (omega arith))
]
quoted_within separator (b ∷ c ∷ bs) = elim (cases_Bool (b == 34)) [
  | inl e ↦ elim (cases_Bool (c == 34)) [
    | inl f ↦ rw (e, f) (within_more b (c ∷ bs) (onto 34 (quoted_field separator bs)) (within_onto_any 34 c bs (quoted_field separator bs) (quoted_within separator bs)))
    | inr f ↦ rw (e, f) (within_more b (c ∷ bs) (plain_field separator (c ∷ bs)) (plain_within separator (c ∷ bs)))
  ]
  | inr e ↦ rw e (within_onto b (c ∷ bs) (quoted_field separator (c ∷ bs)) (quoted_within separator (c ∷ bs)))
]

first_within : (separator : ℕ) (quotes : Bool) (text : List ℕ) → Within text (first_field separator quotes text)
unfolding first_field
first_within separator quotes [] = within_none [] [] (omega arith)
first_within separator quotes (b ∷ bs) = elim (cases_Bool (quotes && (b == 34))) [
  | inl e ↦ rw e (within_more b bs (quoted_field separator bs) (quoted_within separator bs))
  | inr e ↦ rw e (plain_within separator (b ∷ bs))
]

-- the fields of what is left behind one
rest_at_most : (text : List ℕ) (more : List ℕ → List (List ℕ)) → ((rest : List ℕ) → AreAtMost (length rest) (more rest)) → (left : Option (List ℕ)) → ((rest : List ℕ) → left ≡ Some rest → length rest ≤ length text) → AreAtMost (length text) (flat_map more (option_to_list left))
rest_at_most text more each None le = tt
rest_at_most text more each (Some rest) le =
    subst (AreAtMost (length text)) (sym (append-nil (more rest))) (longer (length rest) (length text) (more rest) (le rest refl) (each rest))

among_at_most : (most separator : ℕ) (quotes : Bool) (text : List ℕ) → AreAtMost (length text) (fields_among most separator quotes text)
unfolding fields_among
among_at_most zero separator quotes text = tt
among_at_most (suc most) separator quotes text =
    let first = first_within separator quotes text in
    (first.0, rest_at_most text (fields_among most separator quotes) (among_at_most most separator quotes) (first_field separator quotes text).1 first.1)

pub fields_at_most : (separator : ℕ) (quotes : Bool) (text : List ℕ) → AreAtMost (length text) (fields_of separator quotes text)
unfolding fields_of
fields_at_most separator quotes text = among_at_most (suc (length text)) separator quotes text

-- ---- names of columns

word_is_text : is_utf8 (codes "Field") ≡ true
unfolding is_utf8 chars lib.Utf8.encode
word_is_text = refl

made_is : (position : ℕ) → position ≤ 1024 → IsColumnName (made_name position)
made_is position few =
    let small : position < 2 ^ 64 = omega (arith, few) in
    let size = length-append (codes "Field") (decimal position) in
    let digits = length-decimal-le_succ position small in
    record {
      most = omega (arith, size, digits, few);
      utf8 = IsUtf8-append (codes "Field") (decimal position) (IsUtf8-from_is_utf8 (codes "Field") word_is_text) (IsUtf8-from_ascii (decimal position) (IsAscii-decimal position small));
    }

made_are : (first many : ℕ) → first + many ≤ 1025 → AllByRecursion IsColumnName (map made_name (range_with_len first many))
made_are first zero few = tt
made_are first (suc many) few = (made_is first (omega (arith, few)), made_are (first + 1) many (omega (arith, few)))

header_name_is : (earlier : List (List ℕ)) (position : ℕ) (name : List ℕ) → position ≤ 1024 → length name ≤ longest → IsColumnName (header_name earlier position name)
header_name_is earlier position name few short = elim (cases_Bool (is_made earlier name)) [
  | inl e ↦ rw e (made_is position few)
  | inr e ↦ rw e (repaired_name name short)
]

header_are : (all : List (List ℕ)) (place : ℕ) (texts : List (List ℕ)) → place + length texts ≤ 1024 → AreAtMost longest texts
    → AllByRecursion IsColumnName (map (λ (field : ℕ × List ℕ). header_name (take field.0 all) (field.0 + 1) field.1) (enumerate_from place texts))
header_are all place [] few short = tt
header_are all place (t ∷ ts) few (p, short) = (header_name_is (take place all) (place + 1) t (omega (arith, few)) p, header_are all (place + 1) ts (omega (arith, few)) short)

headed : (fields : List (List ℕ)) → length fields ≤ 1024 → AreAtMost longest fields → AreShort (Some (header_names fields))
unfolding header_names
headed fields few short =
    let name : ℕ × List ℕ → List ℕ = λ field. header_name (take field.0 fields) (field.0 + 1) field.1 in
    let many : length (map name (enumerate_from 0 fields)) ≡ length fields = length-map (enumerate_from 0 fields) name ∙ length-enumerate_from 0 fields in
    columns_of_names (map name (enumerate_from 0 fields)) (omega (arith, many, few)) (header_are fields 0 fields (omega (arith, few)) short)

counted : (many : ℕ) → many ≤ 1024 → AreShort (Some (made_names many))
unfolding made_names
counted many few =
    let size : length (map made_name (range_with_len 1 many)) ≡ many = length-map-range_with_len made_name 1 many in
    columns_of_names (map made_name (range_with_len 1 many)) (omega (arith, size, few)) (made_are 1 many (omega (arith, few)))

first_few : (n : ℕ) (texts : List (List ℕ)) (most : ℕ) → AreAtMost most texts → AreAtMost most (take n texts)
first_few zero texts most all = tt
first_few (suc n) [] most all = tt
first_few (suc n) (t ∷ ts) most (p, all) = (p, first_few n ts most all)

delimited_set : (options : DelimitedOptions) (text : List ℕ) → length text ≤ longest → may_set options text ≡ true → AreShort (Some (columns_of options (fields_in options text)))
delimited_set options text short may =
    let fields : List (List ℕ) = fields_in options text in
    let each : AreAtMost longest fields = longer (length text) longest fields short (fields_at_most options.separator options.quotes text) in
    let sets : delimited_sets_columns options fields ≡ true = last_is (not (is_empty text)) (not (is_broken text)) (delimited_sets_columns options fields) may in
    elim (cases_Bool options.header_row) [
      | inl e ↦ rw e (headed (take 1024 fields) (taken_few 1024 fields) (first_few 1024 fields longest each))
      | inr e ↦ let few : length fields ≤ 1024 = rows_few options.header_row (length fields) e sets in rw e (counted (length fields) few)
    ]
  where
    last_is : (a b c : Bool) → (a && b && c) ≡ true → c ≡ true
    last_is a b c e = grind (arith, nat_tests)

    rows_few : (headed : Bool) (many : ℕ) → headed ≡ false → (headed || nat_le many 1024) ≡ true → many ≤ 1024
    rows_few headed many off e = grind (arith, nat_tests)

    taken_few : (n : ℕ) (fields : List (List ℕ)) → length (take n fields) ≤ n
    taken_few n fields = grind (arith, length-take)

by_mapped : (P : List ℕ → Type 0) (set : List ℕ → Columns) (first : Option (List ℕ)) → ((text : List ℕ) → first ≡ Some text → P text) → ((text : List ℕ) → P text → AreShort (Some (set text))) → AreShort (option_map set first)
by_mapped P set None has sets = tt
by_mapped P set (Some text) has sets = sets text (has text refl)

pub delimited_sets : (options : DelimitedOptions) → SetsColumns (delimited_lines options)
unfolding delimited_lines
delimited_sets options texts short = by_mapped (λ (text : List ℕ). (length text ≤ longest) × (may_set options text ≡ true)) (λ text. columns_of options (fields_in options text)) (find (may_set options) texts)
    (λ text e. found (λ (t : List ℕ). length t ≤ longest) (may_set options) texts short text e) (λ text has. delimited_set options text has.0 has.1)

-- ---- standings

seen_short : (lines : List Line) → AreAtMost longest (map (λ (line : Line). line.text) (filter is_in_bounds lines))
seen_short [] = tt
seen_short (line ∷ lines) = elim (cases_Bool (is_overlong line.text)) [
  | inl e ↦ rw e (seen_short lines)
  | inr e ↦
      let short : length line.text ≤ longest = not_long (length line.text) e in
      let both : AreAtMost longest (line.text ∷ map (λ (line : Line). line.text) (filter is_in_bounds lines)) = (short, seen_short lines) in
      rw e both
]
  where
    not_long : (n : ℕ) → nat_lt longest n ≡ false → n ≤ longest
    not_long n e = grind (arith, nat_tests)

-- the columns at a place
pub columns_short_by : (format : Format) → SetsColumns format → (bytes : List ℕ) (waits : Bool) (place : ℕ) → AreShort ((standing_at format bytes waits place).columns)
columns_short_by format sets bytes waits place = sets (map (λ (line : Line). line.text) (filter is_in_bounds (lines_before bytes waits place))) (seen_short (lines_before bytes waits place))

-- lines have at least one byte each
lines_few : (from place : ℕ) (lines : List Line) → Ordered from lines → length (filter (ends_by place) lines) ≤ place - from
lines_few from place [] ordered = omega arith
lines_few from place (line ∷ lines) (a, b, ordered) =
    let rest = lines_few line.end place lines ordered in
    elim (cases_Bool (nat_le line.end place)) [
      | inl e ↦
          let le : line.end ≤ place = by_test line.end place e in
          let one : length (line ∷ filter (ends_by place) lines) ≤ place - from = omega (arith, rest, le, a, b) in
          rw e one
      | inr e ↦ let less : length (filter (ends_by place) lines) ≤ place - from = omega (arith, rest, a, b) in rw e less
    ]
  where
    by_test : (m n : ℕ) → nat_le m n ≡ true → m ≤ n
    by_test m n e = grind (arith, nat_tests)

pub lines_at_most : (bytes : List ℕ) (waits : Bool) (place : ℕ) → length (lines_before bytes waits place) ≤ place
lines_at_most bytes waits place =
    let few = lines_few 0 place (lines_of bytes waits) (ordered_lines (length bytes) bytes waits 1 0 (omega arith)) in
    omega (arith, few)

-- a standing at a place
pub standing_fits_by : (format : Format) → SetsColumns format → (bytes : List ℕ) (waits : Bool) (place : ℕ) → place < 2 ^ 64 → (standing_layout place).Fits (standing_at format bytes waits place)
standing_fits_by format sets bytes waits place small =
    let few = lines_at_most bytes waits place in
    ((omega (arith, few, small), few), columns_as_kept (standing_at format bytes waits place).columns (columns_short_by format sets bytes waits place))

-- ---- the formats of a run

tabled_sets : (format : TableFormat) → SetsColumns (table_lines format)
tabled_sets T.IisW3c = w3c_sets
tabled_sets T.Ncsa = ncsa_sets
tabled_sets T.TextLine = text_sets
tabled_sets T.TextWord = word_sets

pub log_sets : (format : LogFormat) → SetsColumns (lines_in format)
log_sets (F.Tabled format) = tabled_sets format
log_sets (F.Sampled options limit) = delimited_sets options

-- what a format's lines keep in force fits the ledger's form of a standing
pub standing_fits : (format : LogFormat) (bytes : List ℕ) (place : ℕ) → place < 2 ^ 64 → (standing_layout place).Fits (standing_at (lines_in format) bytes true place)
standing_fits format bytes place small = standing_fits_by (lines_in format) (log_sets format) bytes true place small

-- ---- how many bytes a standing has

names_size : (before names : List (List ℕ)) → AllByRecursion IsColumnName names → length (spelled (λ (before : List (List ℕ)). text_of IsUtf8) before names) ≤ length names * 3_145_732
names_size before [] all = omega arith
names_size before (name ∷ names) (is, all) =
    let rest = names_size (before ++ name ∷ []) names all in
    let here = length-append (u32_bytes (length name)) name in
    let front = u32_length (length name) in
    let whole = length-append (text_bytes name) (spelled (λ (before : List (List ℕ)). text_of IsUtf8) (before ++ name ∷ []) names) in
    omega (arith, rest, here, front, whole, is.most)

columns_size : (columns : Option Columns) → AreShort columns → length (columns_bytes columns) ≤ 3_221_229_571
columns_size None short = lit≤ tt
columns_size (Some names) (few, all) =
    let each = names_size [] names all in
    let front = u16_length (length names) in
    let whole = length-append (u16_bytes (length names)) (spelled (λ (before : List (List ℕ)). text_of IsUtf8) [] names) in
    omega (arith, few, each, front, whole)

pub standing_short : (format : LogFormat) (bytes : List ℕ) (place : ℕ) → length ((standing_layout place).spell (standing_at (lines_in format) bytes true place)) < 2 ^ 32
standing_short format bytes place =
    let standing = standing_at (lines_in format) bytes true place in
    let columns = columns_size standing.columns (columns_short_by (lines_in format) (log_sets format) bytes true place) in
    let lines = u64_length standing.lines in
    let whole = length-append (u64_bytes standing.lines) (columns_bytes standing.columns) in
    omega (arith, columns, lines, whole)
