-- What a writer has put, from what its outputs took.
use Rattle.std.proofs.Common.{◌≡◌, inl, inr, true, false, true≢false, List, [], ◌∷◌, ◌++◌, Option, Some, None, IfSome, is_some, ap, refl, sym, ◌∙◌, subst}
use Rattle.std.specs.List.{cons_option}
use Rattle.std.proofs.lemmas.List.{append-nil}
use Rattle.lp_values.specs.declared.value.Value.{Value}
use Rattle.log_reading.specs.Found.{Found}
use Rattle.text_output.specs.Output.{StageKind}
use Rattle.row_output.specs.FileRows.{OnRefused}
use Rattle.row_output.specs.Asked.{Asked}
use Rattle.row_output.specs.Kept.{HasRows, asked_of}
use Rattle.row_output.specs.Rows.{IsRefused, IsRefusedEarly, Stops}
use Rattle.row_output.specs.declared.fault.OutputFault.{OutputFault}
use Rattle.row_output.specs.declared.fault.Refused.{Refused}
use Rattle.query_run.specs.Rows.{picked}
use Rattle.query_run.specs.Writer.{IsNamed, PutsRows, StopsWithin, Writes, Halts, refused_by}
use Rattle.query_run.specs.Writing.{PicksOf, puts_on, stops_before, stops_behind, stops_there}
use Rattle.query_run.specs.declared.writer.Writer.{Writer}
use Rattle.query_run.proofs.Reasons.{refused_kept}

abbrev Rows : Type 0
Rows = List (List Value)

-- a writer whose output is asked the same, and is opened where that of another is
pub named_as : {P : Type 0} (a b : Writer P) → asked_of b.output ≡ asked_of a.output → (b.opened ≡ true → a.opened ≡ true) → IsNamed a → IsNamed b
named_as a b asked opened named = λ is_open why refused. named (opened is_open) why (subst (λ (asked : Asked). IsRefused asked [] why) asked refused)

-- a writer that differs in its room alone
pub puts_as : {P : Type 0} {S : Type 0} (kind : StageKind S) (put : Rows) (a b c : Writer P) (u v : S) → c.output ≡ b.output → c.picker ≡ b.picker → c.refused ≡ b.refused → c.opened ≡ b.opened → PutsRows kind put a u b v → PutsRows kind put a u c v
puts_as kind put a b c u v output picker refused opened f = record {
  has = λ start rows has. subst (λ o. HasRows kind o start (rows ++ put) v) (sym output) (f.has start rows has);
  asked = ap asked_of output ∙ f.asked;
  picker = picker ∙ f.picker;
  refused = refused ∙ f.refused;
  opened = λ is_open. opened ∙ f.opened is_open;
  named = λ start rows has named. named_as b c (ap asked_of output) (λ is_open. sym opened ∙ is_open) (f.named start rows has named);
}

-- the outputs were opened
pub opens_as : {P : Type 0} {S : Type 0} (kind : StageKind S) (a b : Writer P) (u v : S) → ((start : S) (rows : Rows) → HasRows kind a.output start rows u → HasRows kind b.output start rows v) → asked_of b.output ≡ asked_of a.output → b.picker ≡ a.picker → b.refused ≡ a.refused
    → (a.opened ≡ true → b.opened ≡ true) → ((start : S) (rows : Rows) → HasRows kind a.output start rows u → IsNamed a → IsNamed b) → PutsRows kind [] a u b v
opens_as kind a b u v has asked picker refused opened named = record {
  has = λ start rows at.
      let Of : Rows → Type 0 = λ t. HasRows kind b.output start t v in
      subst Of (sym (append-nil rows)) (has start rows at);
  asked = asked;
  picker = picker;
  refused = refused;
  opened = opened;
  named = named;
}

-- the outputs didn't take rows
pub stops_as : {P : Type 0} {S : Type 0} (kind : StageKind S) (put : Rows) (a b : Writer P) (u v : S) (fault : OutputFault)
    → ((start : S) (rows more : Rows) → HasRows kind a.output start rows u → Stops kind (asked_of a.output) start (rows ++ (put ++ more)) v)
    → OnRefused (λ why. (start : S) (rows more : Rows) → HasRows kind a.output start rows u → IsRefused (asked_of a.output) (rows ++ (put ++ more)) why) fault
    → OnRefused (λ why. (start : S) (rows : Rows) → HasRows kind a.output start rows u → IsRefusedEarly (asked_of a.output) why) fault
    → b.refused ≡ refused_by a.refused fault → StopsWithin kind put a u b v
stops_as {S = S} kind put a b u v fault stop refused early same = record {
  stop = stop;
  refused = λ none start rows more has.
      let Q : Refused → Type 0 = IsRefused (asked_of a.output) (rows ++ (put ++ more)) in
      let All : Refused → Type 0 = λ why. (s : S) (front behind : Rows) → HasRows kind a.output s front u → IsRefused (asked_of a.output) (front ++ (put ++ behind)) why in
      subst (λ (o : Option Refused). IfSome o Q) (sym same) (refused_kept a.refused fault All Q (λ why is. is start rows more has) none refused);
  early = λ none start rows has.
      let Q : Refused → Type 0 = IsRefusedEarly (asked_of a.output) in
      let All : Refused → Type 0 = λ why. (s : S) (front : Rows) → HasRows kind a.output s front u → IsRefusedEarly (asked_of a.output) why in
      subst (λ (o : Option Refused). IfSome o Q) (sym same) (refused_kept a.refused fault All Q (λ why is. is start rows has) none early);
}

-- the rows of one record
picked_one : {P : Type 0} (picks : PicksOf P) (a b : P) (found : Found) (o : Option (List Value)) → b ≡ a → o ≡ picks b found → cons_option o [] ≡ picked (picks a) (found ∷ [])
picked_one picks a b found o same e = ap (λ o. cons_option o []) (e ∙ ap (λ p. picks p found) same)

module _ {P : Type 0} {S : Type 0} (kind : StageKind S) (picks : PicksOf P) where
  -- a record gave no row
  pub gives_no_row : (a b : Writer P) (u v : S) (found : Found) → None ≡ picks b.picker found → PutsRows kind [] a u b v → PutsRows kind (picked (picks a.picker) (found ∷ [])) a u b v
  gives_no_row a b u v found e f =
      let Of : Rows → Type 0 = λ t. PutsRows kind t a u b v in
      subst Of (picked_one picks a.picker b.picker found None f.picker e) f

  pub writes_no_row : (a b : Writer P) (u v : S) (found : Found) → None ≡ picks b.picker found → b.opened ≡ true → PutsRows kind [] a u b v → Writes kind picks a u (found ∷ []) b v
  writes_no_row a b u v found e is_open f = record { puts = gives_no_row a b u v found e f; opens = inr is_open }

  -- a record gave a row
  pub writes_row : (a b c : Writer P) (u v w : S) (found : Found) (row : List Value) → Some row ≡ picks b.picker found → b.opened ≡ true → PutsRows kind [] a u b v → PutsRows kind (row ∷ []) b v c w → Writes kind picks a u (found ∷ []) c w
  writes_row a b c u v w found row e is_open f s =
      let Of : Rows → Type 0 = λ t. PutsRows kind t a u c w in
      record {
        puts = subst Of (picked_one picks a.picker b.picker found (Some row) f.picker e) (puts_on kind [] (row ∷ []) a b c u v w f s);
        opens = inr (s.opened is_open);
      }

  -- its row wasn't put
  pub halts_row : (a b c : Writer P) (u v w : S) (found : Found) (row : List Value) → Some row ≡ picks b.picker found → PutsRows kind [] a u b v → StopsWithin kind (row ∷ []) b v c w → Halts kind picks a u (found ∷ []) c w
  halts_row a b c u v w found row e f s =
      let Of : Rows → Type 0 = λ t. StopsWithin kind t a u c w in
      subst Of (picked_one picks a.picker b.picker found (Some row) f.picker e) (stops_behind kind [] (row ∷ []) a b c u v w f s)

  -- it stopped before the first record's row
  pub halts_at_once : (a c : Writer P) (u w : S) (found : Found) → StopsWithin kind [] a u c w → Halts kind picks a u (found ∷ []) c w
  halts_at_once a c u w found s = stops_before kind [] (picked (picks a.picker) (found ∷ [])) a c u w s

  pub halts_there : (a c : Writer P) (u w : S) (found : Found) → PutsRows kind [] a u c w → Halts kind picks a u (found ∷ []) c w
  halts_there a c u w found f = stops_there kind [] (picked (picks a.picker) (found ∷ [])) a c u w f

  -- no row was put, and then the rows of a record
  pub writes_behind : (a b c : Writer P) (u v w : S) (found : Found) → b.opened ≡ true → PutsRows kind [] a u b v → PutsRows kind (picked (picks b.picker) (found ∷ [])) b v c w → Writes kind picks a u (found ∷ []) c w
  writes_behind a b c u v w found is_open f s =
      let Of : P → Type 0 = λ p. PutsRows kind (picked (picks p) (found ∷ [])) a u c w in
      record {
        puts = subst Of f.picker (puts_on kind [] (picked (picks b.picker) (found ∷ [])) a b c u v w f s);
        opens = inr (s.opened is_open);
      }

  -- the output counted one row more, whichever it is
  skips : (a b : Writer P) (u : S) (o : Option (List Value)) → true ≡ is_some o → ((start : S) (rows : Rows) (row : List Value) → HasRows kind a.output start rows u → HasRows kind b.output start (rows ++ row ∷ []) u)
      → asked_of b.output ≡ asked_of a.output → b.picker ≡ a.picker → b.refused ≡ a.refused → b.opened ≡ a.opened → PutsRows kind (cons_option o []) a u b u
  skips a b u None given has asked picker refused opened = absurd (true≢false given)
  skips a b u (Some row) given has asked picker refused opened = record {
    has = λ start rows had. has start rows row had;
    asked = asked;
    picker = picker;
    refused = refused;
    opened = λ is_open. opened ∙ is_open;
    named = λ start rows had named. named_as a b asked (λ is_open. sym opened ∙ is_open) named;
  }

  -- a record gave a row, which was counted
  pub skips_row : (a b : Writer P) (u : S) (found : Found) → true ≡ is_some (picks a.picker found) → ((start : S) (rows : Rows) (row : List Value) → HasRows kind a.output start rows u → HasRows kind b.output start (rows ++ row ∷ []) u)
      → asked_of b.output ≡ asked_of a.output → b.picker ≡ a.picker → b.refused ≡ a.refused → b.opened ≡ a.opened → PutsRows kind (picked (picks a.picker) (found ∷ [])) a u b u
  skips_row a b u found given has asked picker refused opened = skips a b u (picks a.picker found) given has asked picker refused opened

none_given : (o : Option (List Value)) → false ≡ is_some o → None ≡ o
none_given None given = refl
none_given (Some row) given = absurd (true≢false (sym given))

-- a record gave no row, and none was counted
pub skips_none : {P : Type 0} {S : Type 0} (kind : StageKind S) (picks : PicksOf P) (a b : Writer P) (u : S) (found : Found) → false ≡ is_some (picks b.picker found) → PutsRows kind [] a u b u → PutsRows kind (picked (picks a.picker) (found ∷ [])) a u b u
skips_none kind picks a b u found given f = gives_no_row kind picks a b u u found (none_given (picks b.picker found) given) f
