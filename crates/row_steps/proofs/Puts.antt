-- Rows that are put one after the other.
use Rattle.std.proofs.Common.{◌≡◌, [], ◌++◌, Result, Ok, Err, OnErr, IfErr, ap, sym, ◌∙◌, refl, subst, append_assoc}
use Rattle.std.proofs.lemmas.List.{append-nil}
use Rattle.text_output.specs.Output.{StageKind}
use Rattle.row_output.specs.Asked.{Asked}
use Rattle.row_output.specs.FileRows.{OnRefused}
use Rattle.row_output.specs.Kept.{HasRows, asked_of}
use Rattle.row_output.specs.Rows.{IsRefused, Stops}
use Rattle.row_output.proofs.Stopping.{rows_stop}
use Rattle.row_output.specs.declared.fault.OutputFault.{OutputFault}
use Rattle.row_output.specs.declared.fault.OutputFault.TheVariants as O
use Rattle.row_output.specs.declared.kept.RowOutput.{RowOutput}
use Rattle.row_steps.specs.Rows.{Rows, PutsRows, StopsBy}

module _ {S : Type 0} (kind : StageKind S) where
  pub rows_none : (o : RowOutput) (w : S) → PutsRows kind [] o w o w
  rows_none o w = record {
    has = λ start rows has.
        let Of : Rows → Type 0 = λ t. HasRows kind o start t w in
        subst Of (sym (append-nil rows)) has;
    asked = refl;
  }

  pub rows_more : (xs ys : Rows) (a b c : RowOutput) (u v w : S) → PutsRows kind xs a u b v → PutsRows kind ys b v c w → PutsRows kind (xs ++ ys) a u c w
  rows_more xs ys a b c u v w f s = record {
    has = λ start rows has.
        let Of : Rows → Type 0 = λ t. HasRows kind c start t w in
        subst Of (append_assoc rows xs ys) (s.has start (rows ++ xs) (f.has start rows has));
    asked = s.asked ∙ f.asked;
  }

  -- memory was refused where it stood
  pub stops_here : (put : Rows) (o : RowOutput) (w : S) → StopsBy kind put o w O.Memory w
  stops_here put o w = record {
    stop = λ start rows more has. rows_stop kind o start rows (put ++ more) w has;
    refused = λ start rows more has. tt;
  }

  -- it stopped within later rows
  pub stops_later : (xs ys zs : Rows) (a b : RowOutput) (u v : S) (fault : OutputFault) (w : S) → PutsRows kind xs a u b v → StopsBy kind ys b v fault w → StopsBy kind (xs ++ (ys ++ zs)) a u fault w
  stops_later xs ys zs a b u v fault w f s =
      let same : (rows more : Rows) → (rows ++ xs) ++ (ys ++ (zs ++ more)) ≡ rows ++ ((xs ++ (ys ++ zs)) ++ more) = λ rows more.
      append_assoc rows xs (ys ++ (zs ++ more)) ∙ ap (λ (t : Rows). rows ++ t) (ap (λ (t : Rows). xs ++ t) (sym (append_assoc ys zs more)) ∙ sym (append_assoc xs (ys ++ zs) more)) in
      record {
        stop = λ start rows more has.
            let Of : Asked → Rows → Type 0 = λ asked t. Stops kind asked start t w in
            subst (Of (asked_of a)) (same rows more) (subst (λ (asked : Asked). Of asked ((rows ++ xs) ++ (ys ++ (zs ++ more)))) f.asked (s.stop start (rows ++ xs) (zs ++ more) (f.has start rows has)));
        refused = λ start rows more has.
            let Of : Asked → Rows → Type 0 = λ asked t. OnRefused (IsRefused asked t) fault in
            subst (Of (asked_of a)) (same rows more) (subst (λ (asked : Asked). Of asked ((rows ++ xs) ++ (ys ++ (zs ++ more)))) f.asked (s.refused start (rows ++ xs) (zs ++ more) (f.has start rows has)));
      }

  refused_each : (put : Rows) (o : RowOutput) (u : S) (fault : OutputFault) → OnRefused (λ why. (start : S) (rows more : Rows) → HasRows kind o start rows u → IsRefused (asked_of o) (rows ++ (put ++ more)) why) fault
      → (start : S) (rows more : Rows) → HasRows kind o start rows u → OnRefused (IsRefused (asked_of o) (rows ++ (put ++ more))) fault
  refused_each put o u (O.Refused why) all start rows more has = all start rows more has
  refused_each put o u O.Failed all start rows more has = tt
  refused_each put o u O.Memory all start rows more has = tt

  -- rows weren't put
  pub stops_put : {T : Type 0} (put : Rows) (o : RowOutput) (u w : S) (r : Result T OutputFault) → OnErr r ((start : S) (rows more : Rows) → HasRows kind o start rows u → Stops kind (asked_of o) start (rows ++ (put ++ more)) w)
      → IfErr r (OnRefused (λ why. (start : S) (rows more : Rows) → HasRows kind o start rows u → IsRefused (asked_of o) (rows ++ (put ++ more)) why)) → IfErr r (λ fault. StopsBy kind put o u fault w)
  stops_put put o u w (Ok value) stop refused = tt
  stops_put put o u w (Err fault) stop refused = record { stop = stop; refused = refused_each put o u fault refused }
