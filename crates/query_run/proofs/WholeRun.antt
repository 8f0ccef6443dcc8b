-- A whole run, from before its first row to the end of its outputs.
use Rattle.std.proofs.Common.{◌≡◌, ◌+◌, ◌⊎◌, inl, inr, ℕ, Bool, List, [], ◌++◌, length, Option, Some, None, IfSome, ap, refl, sym, ◌∙◌, subst, arith}
use Rattle.std.proofs.lemmas.List.{append-nil}
use Rattle.lp_model.specs.Outside.{Folder, Told}
use Rattle.lp_model.specs.Reading.{Format}
use Rattle.lp_values.specs.declared.value.Value.{Value}
use Rattle.log_reading.specs.Found.{Found, rows_met}
use Rattle.log_reading.specs.Spans.{AreKept, BadLine, TakesSpans, spans_bad, spans_found, spans_met}
use Rattle.log_reading.specs.Page.{IsWithin, Takes}
use Rattle.log_reading.specs.UpTo.{StopsUpTo, TakesUpTo, UpTo, bad_up_to, found_up_to, met_up_to}
use Rattle.log_reading.specs.declared.page.Page.{Page}
use Rattle.log_reading.specs.declared.span.Span.{Span}
use Rattle.log_reading.proofs.RowsMet.{rows_met_spans}
use Rattle.log_reading.proofs.Ups.{bad_up_all, bad_up_none, found_up_all, up_all, up_none}
use Rattle.log_reading.proofs.Ups.{rows_up_to as rows_met_up_to}
use Rattle.text_output.specs.Output.{StageKind}
use Rattle.row_output.specs.Asked.{Asked}
use Rattle.row_output.specs.Kept.{HasRows, IsNew, asked_of}
use Rattle.row_output.specs.Rows.{IsRefused, IsRefusedEarly, Stops}
use Rattle.row_output.proofs.Stopping.{new_has, rows_stop}
use Rattle.row_output.proofs.Unrefused.{rows_unrefused}
use Rattle.row_output.specs.declared.fault.Refused.{Refused}
use Rattle.row_output.specs.declared.kept.RowOutput.{RowOutput}
use Rattle.query_run.specs.Rows.{picked}
use Rattle.query_run.specs.Writer.{PutsRows, StopsWithin, Starts, Writes, Halts}
use Rattle.query_run.specs.Writing.{PicksOf}
use Rattle.query_run.specs.declared.writer.Writer.{Writer}
use Rattle.query_run.specs.InTurn.{BadInTurn, RefusedInTurn}
use Rattle.query_run.proofs.Reasons.{both_some, told_why}

abbrev Rows : Type 0
Rows = List (List Value)

pub told_all : (told : Option Folder) (P : Folder → Type 0) → ((folder : Folder) → P folder) → Told told P
told_all None P so = tt
told_all (Some folder) P so = so folder

pub told_map : (told : Option Folder) (P Q : Folder → Type 0) → ((folder : Folder) → P folder → Q folder) → Told told P → Told told Q
told_map None P Q so p = tt
told_map (Some folder) P Q so p = so folder p

pub told_both : (told : Option Folder) (P Q R : Folder → Type 0) → ((folder : Folder) → P folder → Q folder → R folder) → Told told P → Told told Q → Told told R
told_both None P Q R so p q = tt
told_both (Some folder) P Q R so p q = so folder p q

-- how many rows were taken, and bad lines met
module _ {T O : Type 0} (takes : Takes T O) (format : Format) (waits : Bool) (told : Option Folder) (spans : List Span) (old new : Page T) (u v : O) where
  abbrev Took : Folder → Type 0
  Took folder = AreKept format waits spans folder → TakesSpans takes format waits folder spans old new u v

  pub rows_taken : (many : ℕ) → many ≡ new.rows → old.rows ≡ 0 → Told told Took → Told told (λ folder. AreKept format waits spans folder → many ≡ length (spans_found format waits folder spans))
  rows_taken many same none = told_map told Took (λ folder. AreKept format waits spans folder → many ≡ length (spans_found format waits folder spans)) (λ folder took kept.
      let rows = (took kept).rows in
      Prim.omega arith)

  pub bad_taken : (many : ℕ) → many ≡ new.bad → old.bad ≡ 0 → Told told Took → Told told (λ folder. AreKept format waits spans folder → many ≡ length (spans_bad format waits folder spans))
  bad_taken many same none = told_map told Took (λ folder. AreKept format waits spans folder → many ≡ length (spans_bad format waits folder spans)) (λ folder took kept.
      let bad = (took kept).bad in
      Prim.omega arith)

  -- all bad lines of spans were met, and there are no more than there may be
  pub bad_within : (most : Option ℕ) → IsWithin most new.bad → old.bad ≡ 0 → Told told Took → Told told (λ folder. AreKept format waits spans folder → IsWithin most (length (spans_bad format waits folder spans)))
  bad_within most within none took = told_map told (λ folder. AreKept format waits spans folder → new.bad ≡ length (spans_bad format waits folder spans)) (λ folder. AreKept format waits spans folder → IsWithin most (length (spans_bad format waits folder spans)))
      (λ folder many kept. subst (IsWithin most) (many kept) within) (bad_taken new.bad refl none took)

each_some : (refused : Option Refused) (P : Rows → Refused → Type 0) → ((rows : Rows) → IfSome refused (P rows)) → IfSome refused (λ why. (rows : Rows) → P rows why)
each_some None P all = tt
each_some (Some why) P all = all

-- an output that is refused before any line is read, or behind all lines, comes in its turn
within_none : (most : Option ℕ) → IsWithin most 0
within_none None = tt
within_none (Some most) = omega arith

module _ (asked : Asked) (rows : List Found → Rows) (most : Option ℕ) (format : Format) (waits : Bool) (folder : Folder) (spans : List Span) (why : Refused) where
  pub first_in_turn : ((t : Rows) → IsRefused asked t why) → RefusedInTurn asked rows most 0 format waits folder spans why
  first_in_turn refused = record {
    up = up_none waits folder spans;
    refused = refused (rows (found_up_to format waits folder spans (up_none waits folder spans)));
    within = subst (λ (bad : ℕ). IsWithin most (0 + bad)) (sym (bad_up_none format waits folder spans)) (within_none most);
    early = inl (inr (refused []));
  }

  pub last_in_turn : IsRefused asked (rows (spans_found format waits folder spans)) why → IsWithin most (length (spans_bad format waits folder spans)) → RefusedInTurn asked rows most 0 format waits folder spans why
  last_in_turn refused within =
      let all = bad_up_all format waits folder spans in
      let same : length (spans_bad format waits folder spans) ≡ 0 + bad_up_to format waits folder spans (up_all waits folder spans) = Prim.omega (arith, all) in
      record {
        up = up_all waits folder spans;
        refused = subst (λ (founds : List Found). IsRefused asked (rows founds) why) (sym (found_up_all format waits folder spans)) refused;
        within = subst (IsWithin most) same within;
        early = inr refl;
      }

-- of rows that were put no output is refused that may be before the last row is there
module _ {S : Type 0} (kind : StageKind S) (o : RowOutput) where
  placed_own : (start : S) (rows : Rows) (now : S) → HasRows kind o start rows now → ((why : Refused) → IsRefused (asked_of o) [] why → ⊥) → (why : Refused) → IsRefusedEarly (asked_of o) why → IsRefused (asked_of o) rows why → ⊥
  placed_own start rows now has named why (inl plain) refused = rows_unrefused kind o start rows now has plain named why refused
  placed_own start rows now has named why (inr first) refused = named why first

  pub placed_by : (asked : Asked) (start : S) (rows : Rows) (now : S) → asked_of o ≡ asked → HasRows kind o start rows now → ((why : Refused) → IsRefused asked [] why → ⊥) → (why : Refused) → IsRefusedEarly asked why → IsRefused asked rows why → ⊥
  placed_by asked start rows now same has named why early refused =
      let back = sym same in
      placed_own start rows now has (λ other first. named other (subst (λ (a : Asked). IsRefused a [] other) same first)) why
      (subst (λ (a : Asked). IsRefusedEarly a why) back early) (subst (λ (a : Asked). IsRefused a rows why) back refused)

module _ {P : Type 0} {S : Type 0} (kind : StageKind S) (output : RowOutput) (by : P) (start : S) where
  pub starts_new : (w : Writer P) → IsNew output → w.output ≡ output → w.picker ≡ by → w.refused ≡ None → Starts kind output by start w start
  starts_new w new same picker none = record {
    has = subst (λ (o : RowOutput). HasRows kind o start [] start) (sym same) (new_has kind output start new);
    asked = ap asked_of same;
    picker = picker;
    unrefused = none;
  }

  pub starts_open : (a b : Writer P) (u v : S) → Starts kind output by start a u → PutsRows kind [] a u b v → Starts kind output by start b v
  starts_open a b u v s f = record {
    has = f.has start [] s.has;
    asked = f.asked ∙ s.asked;
    picker = f.picker ∙ s.picker;
    unrefused = f.refused ∙ s.unrefused;
  }

  pub starts_as : (a b : Writer P) (v : S) → b ≡ a → Starts kind output by start a v → Starts kind output by start b v
  starts_as a b v same s = subst (λ (w : Writer P). Starts kind output by start w v) (sym same) s

  -- it stopped before any row
  pub stop_at_once : (w last : Writer P) (u v : S) (rows : Rows) → Starts kind output by start w u → StopsWithin kind [] w u last v → Stops kind (asked_of output) start rows v
  stop_at_once w last u v rows s halts = subst (λ (asked : Asked). Stops kind asked start rows v) s.asked (halts.stop start [] rows s.has)

  pub refused_at_once : (w last : Writer P) (u v : S) (refused : Option Refused) → refused ≡ last.refused → Starts kind output by start w u → StopsWithin kind [] w u last v → IfSome refused (λ why. (rows : Rows) → IsRefused (asked_of output) rows why)
  refused_at_once w last u v refused same s halts =
      let all : (rows : Rows) → IfSome refused (IsRefused (asked_of output) rows) = λ rows.
      subst (λ (o : Option Refused). IfSome o (IsRefused (asked_of output) rows)) (sym same)
      (subst (λ (asked : Asked). IfSome last.refused (IsRefused asked rows)) s.asked (halts.refused s.unrefused start [] rows s.has)) in
      each_some refused (IsRefused (asked_of output)) all

  -- it stopped where it had started
  pub stop_there : (w : Writer P) (u : S) (rows : Rows) → Starts kind output by start w u → Stops kind (asked_of output) start rows u
  stop_there w u rows s = subst (λ (asked : Asked). Stops kind asked start rows u) s.asked (rows_stop kind w.output start [] rows u s.has)

  -- over spans of logs
  module _ (picks : PicksOf P) (format : Format) (waits : Bool) (told : Option Folder) (spans : List Span) (old new : Page (Writer P)) (u v : S) where
    abbrev met : P → Folder → Rows
    met p folder = picked (picks p) (rows_met (spans_met format waits folder spans))

    abbrev rows_in : Folder → Rows
    rows_in folder = picked (picks by) (spans_found format waits folder spans)

    abbrev Kept : Folder → Type 0
    Kept folder = AreKept format waits spans folder

    abbrev Wrote : Folder → Type 0
    Wrote folder = TakesSpans (λ a s xs b t. Writes kind picks a s (rows_met xs) b t) format waits folder spans old new u v

    abbrev Halted : Folder → Type 0
    Halted folder = Halts kind picks old.taker u (rows_met (spans_met format waits folder spans)) new.taker v

    same_rows : (folder : Folder) → old.taker.picker ≡ by → met old.taker.picker folder ≡ rows_in folder
    same_rows folder same = ap (λ p. met p folder) same ∙ ap (picked (picks by)) (rows_met_spans format waits folder spans)

    -- it stopped within the rows of spans
    pub stops_in : Starts kind output by start old.taker u → Told told (λ folder. Kept folder → Halted folder) → Told told (λ folder. Kept folder → Stops kind (asked_of output) start (rows_in folder) v)
    stops_in s = told_map told (λ folder. Kept folder → Halted folder) (λ folder. Kept folder → Stops kind (asked_of output) start (rows_in folder) v) (λ folder halts kept.
        let Of : Asked → Rows → Type 0 = λ asked t. Stops kind asked start t v in
        subst (Of (asked_of output)) (append-nil (met old.taker.picker folder) ∙ same_rows folder s.picker)
        (subst (λ (asked : Asked). Of asked (met old.taker.picker folder ++ [])) s.asked ((halts kept).stop start [] [] s.has)))

    pub refused_in_spans : Starts kind output by start old.taker u → Told told (λ folder. Kept folder → Halted folder) → IfSome new.taker.refused (λ why. Told told (λ folder. Kept folder → IsRefused (asked_of output) (rows_in folder) why))
    refused_in_spans s all = told_why told Kept new.taker.refused (λ folder. IsRefused (asked_of output) (rows_in folder))
        (told_map told (λ folder. Kept folder → Halted folder) (λ folder. Kept folder → IfSome new.taker.refused (IsRefused (asked_of output) (rows_in folder))) (λ folder halts kept.
        let Of : Asked → Rows → Type 0 = λ asked t. IfSome new.taker.refused (IsRefused asked t) in
        subst (Of (asked_of output)) (append-nil (met old.taker.picker folder) ∙ same_rows folder s.picker)
        (subst (λ (asked : Asked). Of asked (met old.taker.picker folder ++ [])) s.asked ((halts kept).refused s.unrefused start [] [] s.has))) all)

    -- it stopped within the rows of some first lines, and no bad line before was one too many
    abbrev HaltedUpTo : Folder → Type 0
    HaltedUpTo folder = StopsUpTo (λ a s xs b t. Halts kind picks a s (rows_met xs) b t) format waits folder spans old new u v

    same_up : (folder : Folder) (up : UpTo waits folder spans) → old.taker.picker ≡ by → picked (picks old.taker.picker) (rows_met (met_up_to format waits folder spans up)) ≡ picked (picks by) (found_up_to format waits folder spans up)
    same_up folder up same = ap (λ p. picked (picks p) (rows_met (met_up_to format waits folder spans up))) same ∙ ap (picked (picks by)) (rows_met_up_to format waits folder spans up)

    refused_up_to : (folder : Folder) → old.bad ≡ 0 → Starts kind output by start old.taker u → HaltedUpTo folder → IfSome new.taker.refused (λ why. RefusedInTurn (asked_of output) (picked (picks by)) old.most_bad 0 format waits folder spans why)
    refused_up_to folder none s h =
        let Of : Asked → Rows → Type 0 = λ asked t. IfSome new.taker.refused (IsRefused asked t) in
        let met_there = picked (picks old.taker.picker) (rows_met (met_up_to format waits folder spans h.up)) in
        let is : IfSome new.taker.refused (IsRefused (asked_of output) (picked (picks by) (found_up_to format waits folder spans h.up))) =
        subst (Of (asked_of output)) (append-nil met_there ∙ same_up folder h.up s.picker)
        (subst (λ (asked : Asked). Of asked (met_there ++ [])) s.asked (h.stopped.refused s.unrefused start [] [] s.has)) in
        let early : IfSome new.taker.refused (IsRefusedEarly (asked_of output)) =
        subst (λ (asked : Asked). IfSome new.taker.refused (IsRefusedEarly asked)) s.asked (h.stopped.early s.unrefused start [] s.has) in
        both_some new.taker.refused (IsRefused (asked_of output) (picked (picks by) (found_up_to format waits folder spans h.up))) (IsRefusedEarly (asked_of output))
        (λ why. RefusedInTurn (asked_of output) (picked (picks by)) old.most_bad 0 format waits folder spans why)
        (λ why refused first. record {
          up = h.up;
          refused = refused;
          within = subst (λ (bad : ℕ). IsWithin old.most_bad (bad + bad_up_to format waits folder spans h.up)) none h.within;
          early = inl first;
        }) is early

    pub turned_in_spans : old.bad ≡ 0 → Starts kind output by start old.taker u → Told told (λ folder. Kept folder → HaltedUpTo folder)
        → IfSome new.taker.refused (λ why. Told told (λ folder. Kept folder → RefusedInTurn (asked_of output) (picked (picks by)) old.most_bad 0 format waits folder spans why))
    turned_in_spans none s all = told_why told Kept new.taker.refused (λ folder why. RefusedInTurn (asked_of output) (picked (picks by)) old.most_bad 0 format waits folder spans why)
        (told_map told (λ folder. Kept folder → HaltedUpTo folder) (λ folder. Kept folder → IfSome new.taker.refused (λ why. RefusedInTurn (asked_of output) (picked (picks by)) old.most_bad 0 format waits folder spans why))
        (λ folder halts kept. refused_up_to folder none s (halts kept)) all)

    -- the rows of some first lines were put, and behind them comes a bad line that is one too many
    abbrev WroteUpTo : BadLine → Folder → Type 0
    WroteUpTo line folder = TakesUpTo (λ a s xs b t. Writes kind picks a s (rows_met xs) b t) format waits folder spans line old new u v

    bad_behind : (line : BadLine) (folder : Folder) → old.bad ≡ 0 → Starts kind output by start old.taker u → ((why : Refused) → IsRefused (asked_of output) [] why → ⊥) → WroteUpTo line folder → BadInTurn (asked_of output) (picked (picks by)) old.most_bad 0 format waits folder spans line
    bad_behind line folder none s named t =
        let put = t.taken.puts in
        record {
          up = t.up;
          next = t.next;
          most = t.most ∙ ap (λ (bad : ℕ). Some (bad + bad_up_to format waits folder spans t.up)) none;
          placed = placed_by kind new.taker.output (asked_of output) start (picked (picks by) (found_up_to format waits folder spans t.up)) v (put.asked ∙ s.asked)
              (subst (λ (t : Rows). HasRows kind new.taker.output start t v) (same_up folder t.up s.picker) (put.has start [] s.has)) named;
        }

    pub placed_in_spans : (line : BadLine) → old.bad ≡ 0 → Starts kind output by start old.taker u → ((why : Refused) → IsRefused (asked_of output) [] why → ⊥) → Told told (λ folder. Kept folder → WroteUpTo line folder)
        → Told told (λ folder. Kept folder → BadInTurn (asked_of output) (picked (picks by)) old.most_bad 0 format waits folder spans line)
    placed_in_spans line none s named all = told_map told (λ folder. Kept folder → WroteUpTo line folder) (λ folder. Kept folder → BadInTurn (asked_of output) (picked (picks by)) old.most_bad 0 format waits folder spans line)
        (λ folder took kept. bad_behind line folder none s named (took kept)) all

    -- all rows of spans were put, and what the end makes of them
    pub ends_with : (Out : Asked → Rows → Type 0) → Starts kind output by start old.taker u → Told told (λ folder. Kept folder → Wrote folder) → ((rows : Rows) → HasRows kind new.taker.output start rows v → Out (asked_of new.taker.output) rows)
        → Told told (λ folder. Kept folder → Out (asked_of output) (rows_in folder))
    ends_with Out s all end = told_map told (λ folder. Kept folder → Wrote folder) (λ folder. Kept folder → Out (asked_of output) (rows_in folder)) (λ folder took kept.
        let f = (took kept).done.puts in
        subst (Out (asked_of output)) (same_rows folder s.picker)
        (subst (λ (asked : Asked). Out asked (met old.taker.picker folder)) (f.asked ∙ s.asked) (end (met old.taker.picker folder) (f.has start [] s.has)))) all
