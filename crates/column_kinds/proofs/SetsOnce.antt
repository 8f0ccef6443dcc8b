-- Where columns stay once they are set, the log of a record has the columns that it has at its end.
use Rattle.std.proofs.Common.{◌≡◌, ℕ, ◌<◌, true, false, List, [], ◌∷◌, ◌++◌, length, map, filter, Option, Some, None, refl, sym, ◌∙◌, ap, subst, arith, inl, inr, append_assoc}
use Rattle.std.proofs.lemmas.Bool.{cases_Bool}
use Rattle.std.proofs.lemmas.List.{append-nil, map-append}
use Rattle.std.proofs.lemmas.List.Elements.{filter-append}
use Rattle.lp_model.specs.Lines.{Line, is_overlong}
use Rattle.lp_model.specs.Reading.{Columns, Format, Record, Slots, columns_behind, is_in_bounds, reading_behind, rows_in}
use Rattle.lp_model.specs.Following.{records_behind, records_following}
use Rattle.log_reading.specs.Found.{Found, found_of}
use Rattle.column_kinds.specs.declared.kept.FirstLog.{FirstLog}
use Rattle.column_kinds.specs.Past.{columns_or, first_seen, log_with, or_first}

pub found_of-append : (identity : List ℕ) (xs ys : List Record) → found_of identity (xs ++ ys) ≡ found_of identity xs ++ found_of identity ys
found_of-append identity xs ys = map-append _ xs ys

pub record SetsOnce (format : Format) : Type 0 where
  -- columns that are set stay
  pub stay : (before : List (List ℕ)) (line : List ℕ) (columns : Columns) → format.columns_after before ≡ Some columns → format.columns_after (before ++ line ∷ []) ≡ Some columns
  -- behind a row there are columns
  pub has : (before : List (List ℕ)) (line : List ℕ) → 0 < length (rows_in (format.reading line (format.columns_after before))) → (columns : Columns) × (format.columns_after (before ++ line ∷ []) ≡ Some columns)

texts_behind : List Line → List (List ℕ)
texts_behind before = map (λ line. line.text) (filter is_in_bounds before)

behind_more : (format : Format) (before : List Line) (line : Line) → is_overlong line.text ≡ false → columns_behind format (before ++ line ∷ []) ≡ format.columns_after (texts_behind before ++ line.text ∷ [])
unfolding texts_behind
behind_more format before line short =
    let one : filter is_in_bounds (line ∷ []) ≡ line ∷ [] = rw short refl in
    ap (λ lines. format.columns_after (map (λ (line : Line). line.text) lines)) (filter-append is_in_bounds before (line ∷ []) ∙ ap (λ t. filter is_in_bounds before ++ t) one)
    ∙ ap format.columns_after (map-append (λ (line : Line). line.text) (filter is_in_bounds before) (line ∷ []))

behind_same : (format : Format) (before : List Line) (line : Line) → is_overlong line.text ≡ true → columns_behind format (before ++ line ∷ []) ≡ columns_behind format before
behind_same format before line long =
    let none : filter is_in_bounds (line ∷ []) ≡ [] = rw long refl in
    ap (λ lines. format.columns_after (map (λ (line : Line). line.text) lines)) (filter-append is_in_bounds before (line ∷ []) ∙ (ap (λ t. filter is_in_bounds before ++ t) none ∙ append-nil (filter is_in_bounds before)))

stay_line : (format : Format) → SetsOnce format → (before : List Line) (line : Line) (columns : Columns) → columns_behind format before ≡ Some columns → columns_behind format (before ++ line ∷ []) ≡ Some columns
unfolding texts_behind
stay_line format sets before line columns set = elim (cases_Bool (is_overlong line.text)) [
  | inl long ↦ behind_same format before line long ∙ set
  | inr short ↦ behind_more format before line short ∙ sets.stay (texts_behind before) line.text columns set
]

stay_lines : (format : Format) → SetsOnce format → (before lines : List Line) (columns : Columns) → columns_behind format before ≡ Some columns → columns_behind format (before ++ lines) ≡ Some columns
stay_lines format sets before [] columns set = ap (columns_behind format) (append-nil before) ∙ set
stay_lines format sets before (line ∷ lines) columns set =
    ap (columns_behind format) (sym (append_assoc before (line ∷ []) lines)) ∙ stay_lines format sets (before ++ line ∷ []) lines columns (stay_line format sets before line columns set)

has_line : (format : Format) → SetsOnce format → (before : List Line) (line : Line) → 0 < length (rows_in (reading_behind format before line)) → (columns : Columns) × (columns_behind format (before ++ line ∷ []) ≡ Some columns)
unfolding texts_behind
has_line format sets before line some = elim (cases_Bool (is_overlong line.text)) [
  | inl long ↦
      let none : length (rows_in (reading_behind format before line)) ≡ 0 = rw long refl in
      absurd (omega (arith, none, some))
  | inr short ↦
      let same : rows_in (reading_behind format before line) ≡ rows_in (format.reading line.text (columns_behind format before)) = rw short refl in
      let found = sets.has (texts_behind before) line.text (subst (λ (rows : List Slots). 0 < length rows) same some) in
      (found.0, behind_more format before line short ∙ found.1)
]

abbrev named : List ℕ → Columns → FirstLog
named identity columns = record { identity = identity; columns = columns }

told_by : (identity : List ℕ) (number : ℕ) (own whole : Option Columns) (slots : List Slots) (rest : List Found) → (0 < length slots → (columns : Columns) × (own ≡ Some columns) × (whole ≡ Some columns))
    → or_first (first_seen None rest) (log_with identity whole) ≡ log_with identity whole
    → or_first (first_seen None (found_of identity (map (λ (s : Slots). record { number = number; slots = s; columns = own }) slots) ++ rest)) (log_with identity whole) ≡ log_with identity whole
told_by identity number own whole [] rest has told = told
told_by identity number own whole (s ∷ slots) rest has told =
    let (columns, own_is, whole_is) = has (omega arith) in
    ap (λ (t : Option Columns). Some (named identity (columns_or t))) own_is ∙ sym (ap (log_with identity) whole_is)

-- the log that the first row tells is the one that the columns at the end tell
pub first_told : (format : Format) → SetsOnce format → (identity : List ℕ) (before lines : List Line)
    → or_first (first_seen None (found_of identity (records_following format before lines))) (log_with identity (columns_behind format (before ++ lines))) ≡ log_with identity (columns_behind format (before ++ lines))
first_told format sets identity before [] = refl
first_told format sets identity before (line ∷ lines) =
    let rest = found_of identity (records_following format (before ++ line ∷ []) lines) in
    let own = columns_behind format (before ++ line ∷ []) in
    let whole = columns_behind format (before ++ line ∷ lines) in
    let same : columns_behind format ((before ++ line ∷ []) ++ lines) ≡ whole = ap (columns_behind format) (append_assoc before (line ∷ []) lines) in
    let Told : Option Columns → Type 0 = λ t. or_first (first_seen None rest) (log_with identity t) ≡ log_with identity t in
    let Is : List Found → Type 0 = λ t. or_first (first_seen None t) (log_with identity whole) ≡ log_with identity whole in
    subst Is (sym (found_of-append identity (records_behind format before line) (records_following format (before ++ line ∷ []) lines)))
    (told_by identity line.number own whole (rows_in (reading_behind format before line)) rest
    (λ some. let found = has_line format sets before line some in (found.0, found.1, sym same ∙ stay_lines format sets (before ++ line ∷ []) lines found.0 found.1))
    (subst Told same (first_told format sets identity (before ++ line ∷ []) lines)))
