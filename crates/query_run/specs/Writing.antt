-- What follows from what a writer has put.
use Rattle.std.specs.Prelude.{◌≡◌, ◌⊎◌, true, List, [], ◌∷◌, ◌++◌, Option, Some, IfSome}
use Rattle.std.specs.List.{cons_option}
use Rattle.std.proofs.Common.{inl, inr, ap, ap₂, sym, ◌∙◌, refl, subst, append_assoc}
use Rattle.std.proofs.lemmas.List.{append-nil}
use Rattle.std.proofs.lemmas.List.Elements.{filter_map-append}
use Rattle.lp_values.specs.declared.value.Value.{Value}
use Rattle.log_reading.specs.Found.{Found, Met, rows_met}
use Rattle.log_reading.proofs.RowsMet.{rows_met-append}
use Rattle.text_output.specs.Output.{StageKind}
use Rattle.row_output.specs.Asked.{Asked}
use Rattle.row_output.specs.Kept.{HasRows, asked_of}
use Rattle.row_output.proofs.Stopping.{rows_stop}
use Rattle.row_output.specs.Rows.{IsRefused, IsRefusedEarly, Stops}
use Rattle.row_output.specs.declared.fault.Refused.{Refused}
use Rattle.query_run.specs.Rows.{picked}
use Rattle.query_run.specs.Writer.{PutsRows, StopsWithin, Writes, Halts}
use Rattle.query_run.specs.declared.writer.Writer.{Writer}

abbrev Rows : Type 0
Rows = List (List Value)

abbrev pub PicksOf : Type 0 → Type 0
PicksOf P = P → Found → Option (List Value)

pub picked-append : (picks : Found → Option (List Value)) (xs ys : List Found) → picked picks (xs ++ ys) ≡ picked picks xs ++ picked picks ys
picked-append picks xs ys = filter_map-append picks xs ys

-- no row was put
pub puts_none : {P : Type 0} {S : Type 0} (kind : StageKind S) (s : Writer P) (w : S) → PutsRows kind [] s w s w
puts_none kind s w = record {
  has = λ start rows has.
      let Of : Rows → Type 0 = λ t. HasRows kind s.output start t w in
      subst Of (sym (append-nil rows)) has;
  asked = refl;
  picker = refl;
  refused = refl;
  opened = λ is_open. is_open;
  named = λ start rows has named. named;
}

-- some rows, and then some more
pub puts_on : {P : Type 0} {S : Type 0} (kind : StageKind S) (one two : Rows) (a b c : Writer P) (u v w : S) → PutsRows kind one a u b v → PutsRows kind two b v c w → PutsRows kind (one ++ two) a u c w
puts_on kind one two a b c u v w f s = record {
  has = λ start rows has.
      let Of : Rows → Type 0 = λ t. HasRows kind c.output start t w in
      subst Of (append_assoc rows one two) (s.has start (rows ++ one) (f.has start rows has));
  asked = s.asked ∙ f.asked;
  picker = s.picker ∙ f.picker;
  refused = s.refused ∙ f.refused;
  opened = λ is_open. s.opened (f.opened is_open);
  named = λ start rows has named. s.named start (rows ++ one) (f.has start rows has) (f.named start rows has named);
}

-- where it stopped within rows it stopped within these and more
pub stops_before : {P : Type 0} {S : Type 0} (kind : StageKind S) (one two : Rows) (a c : Writer P) (u w : S) → StopsWithin kind one a u c w → StopsWithin kind (one ++ two) a u c w
stops_before kind one two a c u w s = record {
  stop = λ start rows more has.
      let Of : Rows → Type 0 = λ t. Stops kind (asked_of a.output) start (rows ++ t) w in
      subst Of (sym (append_assoc one two more)) (s.stop start rows (two ++ more) has);
  refused = λ none start rows more has.
      let Of : Rows → Type 0 = λ t. IfSome c.refused (IsRefused (asked_of a.output) (rows ++ t)) in
      subst Of (sym (append_assoc one two more)) (s.refused none start rows (two ++ more) has);
  early = s.early;
}

-- some rows were put, and it stopped within more
pub stops_behind : {P : Type 0} {S : Type 0} (kind : StageKind S) (one two : Rows) (a b c : Writer P) (u v w : S) → PutsRows kind one a u b v → StopsWithin kind two b v c w → StopsWithin kind (one ++ two) a u c w
stops_behind kind one two a b c u v w f s = record {
  stop = λ start rows more has.
      let Of : Rows → Asked → Type 0 = λ t asked. Stops kind asked start t w in
      let here = s.stop start (rows ++ one) more (f.has start rows has) in
      subst (λ (t : Rows). Of t (asked_of a.output)) (append_assoc rows one (two ++ more) ∙ ap (λ t. rows ++ t) (sym (append_assoc one two more))) (subst (Of ((rows ++ one) ++ (two ++ more))) f.asked here);
  refused = λ none start rows more has.
      let Of : Rows → Asked → Type 0 = λ t asked. IfSome c.refused (IsRefused asked t) in
      let here = s.refused (f.refused ∙ none) start (rows ++ one) more (f.has start rows has) in
      subst (λ (t : Rows). Of t (asked_of a.output)) (append_assoc rows one (two ++ more) ∙ ap (λ t. rows ++ t) (sym (append_assoc one two more))) (subst (Of ((rows ++ one) ++ (two ++ more))) f.asked here);
  early = λ none start rows has.
      let Of : Asked → Type 0 = λ asked. IfSome c.refused (IsRefusedEarly asked) in
      subst Of f.asked (s.early (f.refused ∙ none) start (rows ++ one) (f.has start rows has));
}

-- it stopped where rows were put, as far as it came
pub stops_there : {P : Type 0} {S : Type 0} (kind : StageKind S) (one two : Rows) (a b : Writer P) (u v : S) → PutsRows kind one a u b v → StopsWithin kind (one ++ two) a u b v
stops_there kind one two a b u v f = record {
  stop = λ start rows more has.
      let Of : Rows → Asked → Type 0 = λ t asked. Stops kind asked start t v in
      let here = rows_stop kind b.output start (rows ++ one) (two ++ more) v (f.has start rows has) in
      subst (λ (t : Rows). Of t (asked_of a.output)) (append_assoc rows one (two ++ more) ∙ ap (λ t. rows ++ t) (sym (append_assoc one two more))) (subst (Of ((rows ++ one) ++ (two ++ more))) f.asked here);
  refused = λ none start rows more has.
      let Of : Option Refused → Type 0 = λ o. IfSome o (IsRefused (asked_of a.output) (rows ++ ((one ++ two) ++ more))) in
      subst Of (sym (f.refused ∙ none)) tt;
  early = λ none start rows has.
      let Of : Option Refused → Type 0 = λ o. IfSome o (IsRefusedEarly (asked_of a.output)) in
      subst Of (sym (f.refused ∙ none)) tt;
}

-- the output is opened behind records and more
opens_more : {P : Type 0} (b c : Writer P) (xs ys : List Met) → (b.opened ≡ true → c.opened ≡ true) → (rows_met xs ≡ []) ⊎ (b.opened ≡ true) → (rows_met ys ≡ []) ⊎ (c.opened ≡ true) → (rows_met (xs ++ ys) ≡ []) ⊎ (c.opened ≡ true)
opens_more b c xs ys on (inr is_open) later = inr (on is_open)
opens_more b c xs ys on (inl none) (inr is_open) = inr is_open
opens_more b c xs ys on (inl none) (inl no_more) = inl (rows_met-append xs ys ∙ ap₂ (λ (front behind : List Found). front ++ behind) none no_more)

-- the rows of records
module _ {P : Type 0} {S : Type 0} (kind : StageKind S) (picks : PicksOf P) where
  both : (a b : Writer P) (xs ys : List Met) → b.picker ≡ a.picker → picked (picks a.picker) (rows_met xs) ++ picked (picks b.picker) (rows_met ys) ≡ picked (picks a.picker) (rows_met (xs ++ ys))
  both a b xs ys picker = ap (λ p. picked (picks a.picker) (rows_met xs) ++ picked (picks p) (rows_met ys)) picker ∙ (sym (picked-append (picks a.picker) (rows_met xs) (rows_met ys)) ∙ ap (picked (picks a.picker)) (sym (rows_met-append xs ys)))

  -- of no record none is put
  pub writes_nothing : (a b : Writer P) (u v : S) → PutsRows kind [] a u b v → Writes kind picks a u [] b v
  writes_nothing a b u v f = record { puts = f; opens = inl refl }

  pub writes_none : (s : Writer P) (w : S) → Writes kind picks s w [] s w
  writes_none s w = writes_nothing s s w w (puts_none kind s w)

  pub writes_more : (a b c : Writer P) (u v w : S) (xs ys : List Met) → Writes kind picks a u (rows_met xs) b v → Writes kind picks b v (rows_met ys) c w → Writes kind picks a u (rows_met (xs ++ ys)) c w
  writes_more a b c u v w xs ys f s =
      let Of : Rows → Type 0 = λ t. PutsRows kind t a u c w in
      record {
        puts = subst Of (both a b xs ys f.puts.picker) (puts_on kind _ _ a b c u v w f.puts s.puts);
        opens = opens_more b c xs ys s.puts.opened f.opens s.opens;
      }

  pub halts_here : (a b : Writer P) (u v : S) (xs ys : List Met) → Writes kind picks a u (rows_met xs) b v → Halts kind picks a u (rows_met (xs ++ ys)) b v
  halts_here a b u v xs ys f =
      let Of : Rows → Type 0 = λ t. StopsWithin kind t a u b v in
      subst Of (both a b xs ys f.puts.picker) (stops_there kind _ _ a b u v f.puts)

  pub halts_later : (a b c : Writer P) (u v w : S) (xs ys : List Met) → Writes kind picks a u (rows_met xs) b v → Halts kind picks b v (rows_met ys) c w → Halts kind picks a u (rows_met (xs ++ ys)) c w
  halts_later a b c u v w xs ys f s =
      let Of : Rows → Type 0 = λ t. StopsWithin kind t a u c w in
      subst Of (both a b xs ys f.puts.picker) (stops_behind kind _ _ a b c u v w f.puts s)

  pub halts_more : (a c : Writer P) (u w : S) (xs ys : List Met) → Halts kind picks a u (rows_met xs) c w → Halts kind picks a u (rows_met (xs ++ ys)) c w
  halts_more a c u w xs ys s =
      let Of : Rows → Type 0 = λ t. StopsWithin kind t a u c w in
      subst Of (both a a xs ys refl) (stops_before kind _ _ a c u w s)

  picked_one : (picker : P) (found : Found) (row : List Value) → Some row ≡ picks picker found → row ∷ [] ≡ picked (picks picker) (found ∷ [])
  picked_one picker found row e = ap (λ o. cons_option o []) e
