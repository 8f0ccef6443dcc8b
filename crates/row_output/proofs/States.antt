-- Outputs in files from one call to the next.
use Rattle.std.proofs.Common.{◌≡◌, ◌≢◌, ◌⊎◌, inl, inr, ◌<◌, ◌≤◌, ◌+◌, ℕ, Bool, true, false, List, [], ◌∷◌, ◌++◌, length, map, take, drop, All, set, get_or, slice_get, Some, None, refl, sym, ◌∙◌, ap, subst, arith, append_assoc, length-append}
use Rattle.std.proofs.lemmas.List.{take_all, append-nil}
use Rattle.std.proofs.lemmas.List.Elements.{All-nil}
use Rattle.log_listing.specs.Firsts.{is_among, with_name}
use Rattle.lp_outside.specs.NameFault.{name_fault}
use Rattle.multiplex.specs.Naming.{filled, stars}
use Rattle.multiplex.specs.declared.place_fault.PlaceFault.{PlaceFault}
use Rattle.multiplex.specs.declared.place_fault.PlaceFault.TheVariants as P
use Rattle.multiplex.specs.Placing.{Numbering, CanBeAdded, IsNewName, HasNoOutput, after_row}
use Rattle.multiplex.specs.Splitting.{OutputRows, output_names, row_name, rows_named, split}
use Rattle.multiplex.proofs.Distinct.{Differ}
use Rattle.multiplex.proofs.Splits.{names_kept, no_values}
use Rattle.order_top.specs.Finish.{Row}
use Rattle.text_output.specs.declared.fault.PutFault.{PutFault}
use Rattle.text_output.specs.declared.fault.PutFault.TheVariants as T
use Rattle.text_output.specs.Output.{StageKind}
use Rattle.text_output.specs.declared.target.Output.{Output}
use Rattle.row_output.specs.declared.file_output.FileOutput.{FileOutput}
use Rattle.row_output.specs.declared.files.FileOutputs.{FileOutputs}
use Rattle.row_output.specs.declared.fault.Refused.{Refused}
use Rattle.row_output.specs.Faults.{place_fault, put_fault}
use Rattle.row_output.specs.Asked.{Files, AreGood, IsRefusedAs}
use Rattle.row_output.specs.Files.{ArePut, FilesHold, FilesStop, Opened, opened_of, SparesBut}
use Rattle.row_output.specs.FileTexts.{HoldLittle, Making, AreFiles, AreUnderWay, AreEnding, StopsAmong, StopsFree, KeepsStage, TakesRow, SparesFile, IsFile, after_file, opened_in, rows_by, text_by}
use Rattle.row_output.specs.FileRows.{AreNamesOf, HasOutputs, HasFirst, HasFileRows, IsNewFiles, files_of, making_of, output_text, OnRefused}
use Rattle.row_output.proofs.Naming.{plain_after, starred_are, names_after, names_of_differ, differ_with, no_rows_of, rows_own, rows_other, names_more, names_of_among, stops_for, good_with, among_with, names_plain, take_front, among_take, next_at, off_before}
use Rattle.row_output.proofs.Sparing.{off_front}
use Rattle.row_output.proofs.UnderWay.{way_opens, way_takes, way_stops, way_stops_asking, stops_more, stops_with, spares_at}

-- as many names as outputs
pub files_length : {S : Type 0} (kind : StageKind S) (making : Making) (start now : S) (rows_of : List ℕ → List Row) (index : ℕ) (names : List (List ℕ)) (files : List FileOutput) → AreFiles kind making start now rows_of index names files → length names ≡ length files
files_length kind making start now rows_of index [] [] are = refl
files_length kind making start now rows_of index [] (file ∷ files) are = absurd are
files_length kind making start now rows_of index (name ∷ names) [] are = absurd are
files_length kind making start now rows_of index (name ∷ names) (file ∷ files) are =
    let rest = files_length kind making start now rows_of (after_file index file) names files are.1 in
    omega (arith, rest)

way_none : {S : Type 0} (kind : StageKind S) (making : Making) (rows_of : List ℕ → List Row) (start : S) → AreUnderWay kind making rows_of [] start [] 0 start
way_none kind making rows_of start = record {
  texts_are = refl;
  each = tt;
  tells = λ tells. tells;
  spares = record {
    others = λ tells output name base mark text high off is. is;
    fronts = λ k d within. absurd (omega (arith, within));
    lengths = λ tells name bytes off. (λ is. is, λ is. is);
    ended = λ name base mark off is. is;
  };
}

-- new outputs have no rows
pub new_files_has : {S : Type 0} (kind : StageKind S) (f : FileOutputs) (start : S) → IsNewFiles f → HasFileRows kind f start [] start
new_files_has kind f start new =
    let making = making_of f in
    let rows_of = rows_named f.outputs.pattern [] in
    record {
      names = inr (new.names, refl);
      outputs = record {
        stars_are = new.stars_are;
        good = subst (AreGood f.outputs.forbidden) (sym new.names) (record { few = omega arith; good = All-nil (λ name. name_fault name ≡ None); free = All-nil (λ name. is_among f.outputs.forbidden name ≡ false) });
        under_way = subst (λ (names : List (List ℕ)). AreUnderWay kind making rows_of names start f.files.items f.texts start) (sym new.names)
            (subst (λ (files : List FileOutput). AreUnderWay kind making rows_of [] start files f.texts start) (sym new.files)
            (subst (λ (texts : ℕ). AreUnderWay kind making rows_of [] start [] texts start) (sym new.texts) (way_none kind making rows_of start)));
      };
      little = inl refl;
    }

-- outputs whose rows have come so far may stop, whatever rows follow
pub files_stop : {S : Type 0} (kind : StageKind S) (f : FileOutputs) (start : S) (rows more : List Row) (now : S) → HasFileRows kind f start rows now → FilesStop kind (files_of f) start (rows ++ more) now
files_stop kind f start rows more now has =
    stops_for kind (files_of f) f.outputs.names start (rows ++ more) now (λ name there. names_of_among f.outputs rows more name has.names there) has.outputs.good.free
    (way_stops kind (making_of f) (rows_named f.outputs.pattern rows) f.outputs.names start now f.files.items f.texts has.outputs.under_way)

-- a name is there, and those before it have their outputs
pub first_after : {S : Type 0} (kind : StageKind S) (f g : FileOutputs) (start : S) (rows : List Row) (now : S) (name : List ℕ) → g.outputs ≡ after_row f.outputs name → g.files.items ≡ f.files.items → g.texts ≡ f.texts → making_of g ≡ making_of f
    → HasFileRows kind f start rows now → HasFirst kind g start rows now
first_after kind f g start rows now name outputs files texts making has =
    let old = f.outputs in
    let way = has.outputs.under_way in
    let names : g.outputs.names ≡ with_name old.names name = ap (λ (o : Numbering). o.names) outputs in
    let pattern : g.outputs.pattern ≡ old.pattern = ap (λ (o : Numbering). o.pattern) outputs in
    let long : length g.files.items ≡ length old.names = ap length files ∙ sym (files_length kind (making_of f) start now (rows_named old.pattern rows) 0 old.names f.files.items way.each) in
    let front : take (length g.files.items) g.outputs.names ≡ old.names =
    ap (λ (n : ℕ). take n g.outputs.names) long ∙ (ap (take (length old.names)) names ∙ take_front old.names name) in
    let Of : List ℕ → List (List ℕ) → Type 0 = λ p n. AreUnderWay kind (making_of g) (rows_named p rows) n start g.files.items g.texts now in
    record {
      differ = subst Differ (sym names) (differ_with old.names name (names_of_differ old rows has.names));
      known = λ other off. ap (λ (p : List ℕ). rows_named p rows other) pattern ∙ no_rows_of old rows other has.names (sym (ap (λ (l : List (List ℕ)). is_among l other) front) ∙ off);
      under_way = subst (λ (p : List ℕ). Of p (take (length g.files.items) g.outputs.names)) (sym pattern)
          (subst (λ (l : List (List ℕ)). Of old.pattern l) (sym front)
          (subst (λ (m : Making). AreUnderWay kind m (rows_named old.pattern rows) old.names start g.files.items g.texts now) (sym making)
          (subst (λ (l : List FileOutput). AreUnderWay kind (making_of f) (rows_named old.pattern rows) old.names start l g.texts now) (sym files)
          (subst (λ (n : ℕ). AreUnderWay kind (making_of f) (rows_named old.pattern rows) old.names start f.files.items n now) (sym texts) way))));
    }

-- once all have their outputs
pub outputs_of : {S : Type 0} (kind : StageKind S) (f : FileOutputs) (start : S) (rows : List Row) (now : S) → f.stars ≡ stars f.outputs.pattern → AreGood f.outputs.forbidden f.outputs.names → length f.outputs.names ≤ length f.files.items
    → HasFirst kind f start rows now → HasOutputs kind f start rows now
outputs_of kind f start rows now stars_are good all first = record {
  stars_are = stars_are;
  good = good;
  under_way = subst (λ (l : List (List ℕ)). AreUnderWay kind (making_of f) (rows_named f.outputs.pattern rows) l start f.files.items f.texts now) (take_all (length f.files.items) f.outputs.names all) first.under_way;
}

-- those of a state that differs in nothing that is said
pub outputs_same : {S : Type 0} (kind : StageKind S) (f : FileOutputs) (start : S) (rows : List Row) (now : S) → HasOutputs kind f start rows now → AreNamesOf f.outputs rows → (rows ≡ []) ⊎ HoldLittle f.files.items → HasFileRows kind f start rows now
outputs_same kind f start rows now has names little = record { names = names; outputs = has; little = little }

-- where calls failed while one was opened, some of the names have outputs
pub first_stops : {S : Type 0} (kind : StageKind S) (f : FileOutputs) (start : S) (rows : List Row) (a b : S) → KeepsStage kind a b → HasFirst kind f start rows a → StopsAmong kind f.mode f.outputs.names start b
first_stops kind f start rows a b keeps first =
    let front = take (length f.files.items) f.outputs.names in
    stops_more kind f.mode front f.outputs.names start b (λ name there. among_take (length f.files.items) f.outputs.names name there)
    (way_stops_asking kind (making_of f) (rows_named f.outputs.pattern rows) front start a b f.files.items f.texts keeps first.under_way)

-- the same, where some of them were opened since
pub first_stops_since : {S : Type 0} (kind : StageKind S) (f g : FileOutputs) (start : S) (rows : List Row) (a b : S) → g.outputs ≡ f.outputs → making_of g ≡ making_of f → KeepsStage kind a b → HasFirst kind g start rows a → StopsAmong kind f.mode f.outputs.names start b
first_stops_since kind f g start rows a b outputs making keeps first =
    subst (λ (m : Making). StopsAmong kind m.mode f.outputs.names start b) making
    (subst (λ (o : Numbering). StopsAmong kind g.mode o.names start b) outputs (first_stops kind g start rows a b keeps first))

-- one more of them is opened
pub first_opens : {S : Type 0} (kind : StageKind S) (f g : FileOutputs) (start : S) (rows : List Row) (a b : S) (name : List ℕ) (file : FileOutput) → g.outputs ≡ f.outputs → making_of g ≡ making_of f
    → slice_get f.outputs.names (length f.files.items) ≡ Some name → g.files.items ≡ f.files.items ++ file ∷ [] → g.texts ≡ after_file f.texts file → IsFile kind (making_of f) a b f.texts name [] file → KeepsStage kind a b
    → HasFirst kind f start rows a → HasFirst kind g start rows b
first_opens kind f g start rows a b name file outputs making at files texts is keeps first =
    let n = length f.files.items in
    let names = f.outputs.names in
    let pattern = f.outputs.pattern in
    let off = off_before names n name first.differ at in
    let long : length g.files.items ≡ n + 1 = ap length files ∙ length-append f.files.items (file ∷ []) in
    let front : take (length g.files.items) g.outputs.names ≡ take n names ++ name ∷ [] =
    ap (λ (m : ℕ). take m g.outputs.names) long ∙ (ap (λ (o : Numbering). take (n + 1) o.names) outputs ∙ next_at names n name at) in
    let way = way_opens kind (making_of f) (rows_named pattern rows) (take n names) start a b f.files.items f.texts name file off (first.known name off) keeps is first.under_way in
    let Of : List ℕ → List (List ℕ) → Type 0 = λ p l. AreUnderWay kind (making_of g) (rows_named p rows) l start g.files.items g.texts b in
    record {
      differ = subst (λ (o : Numbering). Differ o.names) (sym outputs) first.differ;
      known = λ other hidden.
          ap (λ (o : Numbering). rows_named o.pattern rows other) outputs
          ∙ first.known other (off_front (take n names) (name ∷ []) other (sym (ap (λ (l : List (List ℕ)). is_among l other) front) ∙ hidden));
      under_way = subst (λ (o : Numbering). Of o.pattern (take (length g.files.items) g.outputs.names)) (sym outputs)
          (subst (λ (l : List (List ℕ)). Of pattern l) (sym front)
          (subst (λ (m : Making). AreUnderWay kind m (rows_named pattern rows) (take n names ++ name ∷ []) start g.files.items g.texts b) (sym making)
          (subst (λ (l : List FileOutput). AreUnderWay kind (making_of f) (rows_named pattern rows) (take n names ++ name ∷ []) start l g.texts b) (sym files)
          (subst (λ (t : ℕ). AreUnderWay kind (making_of f) (rows_named pattern rows) (take n names ++ name ∷ []) start (f.files.items ++ file ∷ []) t b) (sym texts) way))));
    }

-- an output took a row
pub rows_more : {S : Type 0} (kind : StageKind S) (f g h : FileOutputs) (start : S) (rows : List Row) (row : Row) (a b : S) (i : ℕ) (file : FileOutput) → AreNamesOf f.outputs rows → g.outputs.pattern ≡ f.outputs.pattern → g.outputs.names ≡ with_name f.outputs.names (row_name f.outputs.pattern row)
    → slice_get g.outputs.names i ≡ Some (row_name f.outputs.pattern row) → i < length g.files.items → h.outputs ≡ g.outputs → h.stars ≡ g.stars → making_of h ≡ making_of g → h.texts ≡ g.texts → h.files.items ≡ set g.files.items i file
    → ((d : FileOutput) → TakesRow kind (drop g.stars row) (get_or g.files.items i d) file a b) → HoldLittle h.files.items → HasOutputs kind g start rows a → HasFileRows kind h start (rows ++ row ∷ []) b
rows_more kind f g h start rows row a b i file old pattern names at less outputs counts making texts files takes little has =
    let p = g.outputs.pattern in
    let own : row_name f.outputs.pattern row ≡ row_name p row = ap (λ (q : List ℕ). row_name q row) (sym pattern) in
    let all : g.outputs.names ≡ output_names p (rows ++ row ∷ []) = names ∙ (names_after f.outputs rows row old ∙ ap (λ (q : List ℕ). output_names q (rows ++ row ∷ [])) (sym pattern)) in
    let differ : Differ g.outputs.names = subst Differ (sym names) (differ_with f.outputs.names (row_name f.outputs.pattern row) (names_of_differ f.outputs rows old)) in
    let now_rows = rows_named p (rows ++ row ∷ []) in
    let taken : (d : FileOutput) → TakesRow kind (drop (stars p) row) (get_or g.files.items i d) file a b = λ d. subst (λ (n : ℕ). TakesRow kind (drop n row) (get_or g.files.items i d) file a b) has.stars_are (takes d) in
    let way = way_takes kind (making_of g) (rows_named p rows) now_rows g.outputs.names start a b g.files.items g.texts i (row_name p row) (drop (stars p) row) file differ less (at ∙ ap Some own)
    (λ other apart. rows_other p rows row other apart) (rows_own p rows row) taken has.under_way in
    let Of : Numbering → Type 0 = λ o. AreUnderWay kind (making_of h) (rows_named o.pattern (rows ++ row ∷ [])) o.names start h.files.items h.texts b in
    record {
      names = inl (subst (λ (o : Numbering). o.names ≡ output_names o.pattern (rows ++ row ∷ [])) (sym outputs) all);
      outputs = record {
        stars_are = counts ∙ (has.stars_are ∙ ap (λ (o : Numbering). stars o.pattern) (sym outputs));
        good = subst (λ (o : Numbering). AreGood o.forbidden o.names) (sym outputs) has.good;
        under_way = subst Of (sym outputs)
            (subst (λ (m : Making). AreUnderWay kind m now_rows g.outputs.names start h.files.items h.texts b) (sym making)
            (subst (λ (l : List FileOutput). AreUnderWay kind (making_of g) now_rows g.outputs.names start l h.texts b) (sym files)
            (subst (λ (t : ℕ). AreUnderWay kind (making_of g) now_rows g.outputs.names start (set g.files.items i file) t b) (sym texts) way)));
      };
      little = inr little;
    }

-- the names after a row are among those of all rows
pub row_among : (outputs : Numbering) (rows : List Row) (row : Row) (more : List Row) (name : List ℕ) → AreNamesOf outputs rows → is_among (with_name outputs.names (row_name outputs.pattern row)) name ≡ true → is_among (output_names outputs.pattern (rows ++ (row ∷ more))) name ≡ true
row_among outputs rows row more name are there =
    let pattern = outputs.pattern in
    ap (λ (l : List Row). is_among (output_names pattern l) name) (sym (append_assoc rows (row ∷ []) more))
    ∙ names_more pattern (rows ++ row ∷ []) more name (sym (ap (λ (l : List (List ℕ)). is_among l name) (names_after outputs rows row are)) ∙ there)

-- the one without stars too
pub plain_among : (outputs : Numbering) (rows more : List Row) (name : List ℕ) → stars outputs.pattern ≡ 0 → AreNamesOf outputs rows → is_among (with_name outputs.names (filled outputs.pattern [])) name ≡ true → is_among (output_names outputs.pattern more) name ≡ true
plain_among outputs rows more name none are there =
    let one : with_name outputs.names (filled outputs.pattern []) ≡ outputs.pattern ∷ [] = ap (with_name outputs.names) (no_values outputs.pattern) ∙ plain_after outputs rows none are in
    ap (λ (l : List (List ℕ)). is_among l name) (names_plain outputs.pattern more none ∙ sym one) ∙ there

-- all outputs are ended
left_none : {S : Type 0} (kind : StageKind S) (making : Making) (start now : S) (rows_of : List ℕ → List Row) (index : ℕ) (left : List (List ℕ)) → AreFiles kind making start now rows_of index left [] → left ≡ []
left_none kind making start now rows_of index [] are = refl
left_none kind making start now rows_of index (name ∷ left) are = absurd are

pub files_hold : {S : Type 0} (kind : StageKind S) (f g : FileOutputs) (start : S) (rows : List Row) (outputs : List Output) (now : S) → files_of g ≡ files_of f → making_of g ≡ making_of f → g.outputs.names ≡ output_names g.outputs.pattern rows → AreGood g.outputs.forbidden g.outputs.names
    → AreEnding kind (files_of g) (making_of g) start (rows_named g.outputs.pattern rows) g.outputs.names g.files.items [] outputs now → FilesHold kind (files_of f) (output_text f) start rows outputs now
files_hold {S} kind f g start rows outputs now files making names good ending =
    let pattern = g.outputs.pattern in
    let rows_of = rows_named pattern rows in
    let none : ending.left ≡ [] = left_none kind (making_of g) start now rows_of (length outputs) ending.left ending.each in
    let done : ending.done ≡ output_names pattern rows = sym (append-nil ending.done) ∙ (ap (λ (l : List (List ℕ)). ending.done ++ l) (sym none) ∙ (sym ending.parts ∙ names)) in
    let opened : map opened_of outputs ≡ opened_in g.files.items = sym (append-nil (map opened_of outputs)) ∙ ending.opened in
    let hold : FilesHold kind (files_of g) (text_by (making_of g)) start rows outputs now = record {
      good = subst (AreGood g.outputs.forbidden) (sym (names_kept pattern rows (output_names pattern rows))) (subst (AreGood g.outputs.forbidden) names good);
      put = subst (λ (l : List (List ℕ)). ArePut kind (files_of g) (text_by (making_of g)) start now 0 (rows_by rows_of l) outputs) done ending.put;
      tells = ending.tells;
      spares = subst (λ (l : List Opened). SparesBut kind l start now) (sym opened) ending.spares;
    } in
    subst (λ (x : Files). FilesHold kind x (text_by (making_of f)) start rows outputs now) files
    (subst (λ (m : Making). FilesHold kind (files_of g) (text_by m) start rows outputs now) making hold)

-- where no name could be placed
pub place_stops : {S : Type 0} (kind : StageKind S) (f : FileOutputs) (start : S) (rows : List Row) (now : S) (name : List ℕ) → HasFileRows kind f start rows now → StopsFree kind (files_of f) (with_name f.outputs.names name) start now
place_stops kind f start rows now name has = record {
  names = f.outputs.names;
  among = λ other there. among_with f.outputs.names name other there;
  free = has.outputs.good.free;
  stops = way_stops kind (making_of f) (rows_named f.outputs.pattern rows) f.outputs.names start now f.files.items f.texts has.outputs.under_way;
}

-- why it couldn't
pub refused_place : (outputs : Numbering) (name : List ℕ) (fault : PlaceFault) → HasNoOutput outputs name fault → OnRefused (λ why. IsNewName outputs name × IsRefusedAs outputs.forbidden outputs.names name why) (place_fault fault)
refused_place outputs name P.TooManyOutputs (inl same) = absurd (cc)
refused_place outputs name P.TooManyOutputs (inr is) = is
refused_place outputs name (P.BadName why) (inl same) = absurd (cc)
refused_place outputs name (P.BadName why) (inr is) = is
refused_place outputs name (P.NameClash clash) (inl same) = absurd (cc)
refused_place outputs name (P.NameClash clash) (inr is) = is
refused_place outputs name P.Memory is = tt

-- a text is never why an output is refused
pub refused_put : (Why : Refused → Type 0) (fault : PutFault) → OnRefused Why (put_fault fault)
refused_put Why T.Failed = tt
refused_put Why T.Memory = tt

-- where all names have their outputs, as many
pub good_after : (f g : FileOutputs) (name : List ℕ) → g.outputs ≡ after_row f.outputs name → (is_among f.outputs.names name ≡ false → CanBeAdded f.outputs.forbidden f.outputs.names name) → AreGood f.outputs.forbidden f.outputs.names → AreGood g.outputs.forbidden g.outputs.names
good_after f g name outputs can good = subst (λ (o : Numbering). AreGood o.forbidden o.names) (sym outputs) (good_with f.outputs.forbidden f.outputs.names name can good)

-- calls for an output failed
pub outputs_stop : {S : Type 0} (kind : StageKind S) (f g : FileOutputs) (start : S) (rows : List Row) (row : Row) (a b : S) (i : ℕ) (d : FileOutput) → AreNamesOf f.outputs rows → g.outputs.names ≡ with_name f.outputs.names (row_name f.outputs.pattern row)
    → slice_get g.outputs.names i ≡ Some (row_name f.outputs.pattern row) → i < length g.files.items → SparesFile kind (get_or g.files.items i d) a b → HasOutputs kind g start rows a → StopsAmong kind g.mode g.outputs.names start b
outputs_stop kind f g start rows row a b i d old names at less calls has =
    let way = has.under_way in
    let differ : Differ g.outputs.names = subst Differ (sym names) (differ_with f.outputs.names (row_name f.outputs.pattern row) (names_of_differ f.outputs rows old)) in
    stops_with kind (making_of g) start a b (rows_named g.outputs.pattern rows) g.outputs.names g.files.items way.each
    (spares_at kind (making_of g) start a start a b (rows_named g.outputs.pattern rows) g.outputs.names g.files.items i (row_name f.outputs.pattern row) d way.tells way.each differ less at way.spares calls)

-- a name is placed, and its output is opened
pub place_has : {S : Type 0} (kind : StageKind S) (f g h : FileOutputs) (start : S) (rows : List Row) (a b : S) (name : List ℕ) → g.outputs ≡ after_row f.outputs name → g.stars ≡ f.stars → g.files.items ≡ f.files.items → g.texts ≡ f.texts → making_of g ≡ making_of f
    → (is_among f.outputs.names name ≡ false → CanBeAdded f.outputs.forbidden f.outputs.names name) → h.outputs ≡ g.outputs → h.stars ≡ g.stars → length h.outputs.names ≤ length h.files.items
    → (HasFirst kind g start rows a → HasFirst kind h start rows b) → HasFileRows kind f start rows a → HasOutputs kind h start rows b
place_has kind f g h start rows a b name placed counted files texts making can outputs counts all opens has =
    let both : h.outputs ≡ after_row f.outputs name = outputs ∙ placed in
    outputs_of kind h start rows b (counts ∙ (counted ∙ (has.outputs.stars_are ∙ ap (λ (o : Numbering). stars o.pattern) (sym both)))) (good_after f h name both can has.outputs.good) all
    (opens (first_after kind f g start rows a name placed files texts making has))

-- it is placed, and calls failed
pub opening_stops : {S : Type 0} (kind : StageKind S) (f g : FileOutputs) (start : S) (rows : List Row) (a b : S) (name : List ℕ) → g.outputs ≡ after_row f.outputs name → g.files.items ≡ f.files.items → g.texts ≡ f.texts → making_of g ≡ making_of f
    → (is_among f.outputs.names name ≡ false → CanBeAdded f.outputs.forbidden f.outputs.names name) → (HasFirst kind g start rows a → StopsAmong kind g.mode g.outputs.names start b) → HasFileRows kind f start rows a → StopsFree kind (files_of f) (with_name f.outputs.names name) start b
opening_stops kind f g start rows a b name placed files texts making can stops has = record {
  names = with_name f.outputs.names name;
  among = λ other there. there;
  free = (good_with f.outputs.forbidden f.outputs.names name can has.outputs.good).free;
  stops = subst (λ (m : Making). StopsAmong kind m.mode (with_name f.outputs.names name) start b) making
      (subst (λ (o : Numbering). StopsAmong kind g.mode o.names start b) placed (stops (first_after kind f g start rows a name placed files texts making has)));
}
