-- A plan of which the columns are read in two parts picks what it picks of the whole row.
use Rattle.std.proofs.Common.{◌≡◌, ℕ, ◌+◌, ◌≤◌, Bool, true, false, List, length, get_or, Option, Some, None, is_some, inl, inr, refl, sym, ◌∙◌, ap, arith}
use Rattle.std.proofs.lemmas.Bool.{cases_Bool, cases_lt, or_cases}
use Rattle.std.proofs.lemmas.List.{get_or_past}
use Rattle.lp_values.specs.declared.value.Value.{Value}
use Rattle.lp_values.specs.declared.value.Value.TheVariants.{Null}
use Rattle.query_types.specs.Terms.{Term, any_has_column}
use Rattle.query_types.specs.Conditions.{Filter}
use Rattle.query_types.specs.Planned.{is_mentioned}
use Rattle.row_engine.specs.Rows.{keeps, selected_in}
use Rattle.log_reading.specs.Found.{Found}
use Rattle.slot_reading.specs.declared.reading.SlotReading.{SlotReading}
use Rattle.plan_rows.specs.Picks.{Parted, Put, if_kept, is_among, table_row}
use Rattle.row_engine.proofs.Agreeing.{Agree, keeps_same, selected_same}
use Rattle.plan_rows.proofs.Fields.{fields_length}

-- a row has the log's name, the number and a value for each reading
pub row_length : (readings : List SlotReading) (found : Found) → length (table_row readings found) ≡ length readings + 2
row_length readings found = let size = fields_length readings found.row.slots 0 in omega arith

-- two rows agree past their ends
agree_past : (values row : List Value) (k many : ℕ) → length values ≡ many → length row ≤ many → many ≤ k → get_or values k Null ≡ get_or row k Null
agree_past values row k many size fits past = get_or_past values k Null (omega arith) ∙ sym (get_or_past row k Null (omega arith))

-- once the columns that WHERE asks are read, it tells the truth of the whole row
asked_agree : (many : ℕ) (asked rest : List ℕ) (items : List Term) (condition : Option Filter) (row old values : List Value) → length row ≤ many → length old ≡ many → Parted many asked rest items condition → Put asked row old values
    → Agree values row (λ k. is_mentioned k condition)
asked_agree many asked rest items condition row old values fits size parted put = λ k h. elim (cases_lt k many) [
  | inl within ↦ put.put k (parted.mentioned k within h)
  | inr past ↦ agree_past values row k many (put.size ∙ size) fits past
]

-- once the others are read too, SELECT takes of them what it takes of the whole row
items_agree : (many : ℕ) (asked rest : List ℕ) (items : List Term) (condition : Option Filter) (row old values all : List Value) → length row ≤ many → length old ≡ many → Parted many asked rest items condition → Put asked row old values → Put rest row values all
    → Agree all row (λ k. any_has_column k items)
items_agree many asked rest items condition row old values all fits size parted first second = λ k h. elim (cases_lt k many) [
  | inr past ↦ agree_past all row k many (second.size ∙ (first.size ∙ size)) fits past
  | inl within ↦ elim (cases_Bool (is_among k rest)) [
    | inl waited ↦ second.put k waited
    | inr here ↦ elim (or_cases (is_among k asked) (is_among k rest) (parted.item k within h)) [
      | inl there ↦ second.kept k here ∙ first.put k there
      | inr waited ↦ absurd cc
    ]
  ]
]

-- so WHERE keeps the row
pub kept_same : (many : ℕ) (asked rest : List ℕ) (items : List Term) (condition : Option Filter) (row old values : List Value)
    → length row ≤ many → length old ≡ many → Parted many asked rest items condition → Put asked row old values → keeps condition values ≡ keeps condition row
kept_same many asked rest items condition row old values fits room parted put = keeps_same values row condition (asked_agree many asked rest items condition row old values fits room parted put)

-- a row is given where WHERE keeps it
pub given_kept : (kept : Bool) (row : List Value) → kept ≡ is_some (if_kept kept row)
given_kept true row = refl
given_kept false row = refl

-- a row that WHERE drops
pub picks_none : (kept : Bool) (row : List Value) → kept ≡ false → None ≡ if_kept kept row
picks_none kept row dropped = sym (ap (λ (b : Bool). if_kept b row) dropped)

-- a row that WHERE keeps
pub picks_some : (many : ℕ) (asked rest : List ℕ) (items : List Term) (condition : Option Filter) (row old values all out : List Value)
    → length row ≤ many → length old ≡ many → Parted many asked rest items condition → Put asked row old values → keeps condition row ≡ true
    → Put rest row values all → out ≡ selected_in all items → Some out ≡ if_kept (keeps condition row) (selected_in row items)
picks_some many asked rest items condition row old values all out fits room parted first kept second out_is =
    let made = selected_same all row items (items_agree many asked rest items condition row old values all fits room parted first second) in
    ap Some (out_is ∙ made) ∙ sym (ap (λ (b : Bool). if_kept b (selected_in row items)) kept)
