-- What the calls of a sink come to.
use Rattle.std.proofs.Common.{◌≡◌, ◌+◌, ◌<◌, ℕ, ℤ, Bool, true, List, [], ◌∷◌, ◌++◌, length, take, drop, get_or, Option, Some, None, Result, Ok, Err, OnOk, OnErr, IfOk, IfErr, IsErrAnd, IsErrOf, refl, sym, ◌∙◌, ap, subst}
use Rattle.std.proofs.lemmas.List.{append-nil, take-append-drop, drop_more, take_more}
use Rattle.any_format.specs.declared.format.Format.{Format}
use Rattle.any_format.specs.Formats.{text_of, is_at_once, format_text, HasText, format_begins}
use Rattle.any_format.specs.Wanted.{wanted_text}
use Rattle.any_format.specs.declared.wanted.Wanted.{Wanted}
use Rattle.command_words.specs.declared.modes.FileMode.{FileMode}
use Rattle.multiplex.specs.Naming.{stars}
use Rattle.multiplex.specs.Placing.{Numbering}
use Rattle.multiplex.specs.Splitting.{output_names}
use Rattle.order_top.specs.Finish.{Row}
use Rattle.text_output.specs.Output.{StageKind, GainsText, GainsFront, reached, placed_at}
use Rattle.text_output.specs.declared.fault.PutFault.{PutFault}
use Rattle.text_output.specs.declared.fault.PutFault.TheVariants as T
use Rattle.text_output.specs.declared.target.Output.{Output}
use Rattle.text_output.specs.Fronts.{front_of}
use Rattle.text_output.specs.Gaining.{gains_as, front_all}
use Rattle.row_output.specs.declared.fault.OutputFault.{OutputFault}
use Rattle.row_output.specs.declared.fault.OutputFault.TheVariants as F
use Rattle.row_output.specs.declared.fault.Refused.{Refused}
use Rattle.row_output.specs.declared.files.FileOutputs.{FileOutputs}
use Rattle.row_output.specs.declared.into.Into.{Into}
use Rattle.row_output.specs.declared.into.Into.TheVariants as I
use Rattle.row_output.specs.declared.sink.Standard.{Standard}
use Rattle.row_output.specs.declared.sink.Sink.{Sink}
use Rattle.row_output.specs.declared.sink.Sink.TheVariants as To
use Rattle.row_output.specs.Asked.{Files, RowsText, IsRefusedBy, columns_for}
use Rattle.row_output.specs.Faults.{put_fault}
use Rattle.row_output.specs.Files.{FilesHold, FilesStop}
use Rattle.row_output.specs.FileTexts.{HoldLittle}
use Rattle.row_output.specs.FileRows.{HasFileRows, OnRefused, files_of, output_text}
use Rattle.row_output.specs.Rows.{HoldsAt, IsRefusedAt, StandardHolds, StopsAt, standard_at}
use Rattle.row_output.specs.Sinks.{HoldsLittle, HasSinkRows, HasStandardRows, IsOpened, Purpose, files_for, files_in, purpose_of, sink_text}
use Rattle.row_output.proofs.Calls.{refused_so}
use Rattle.row_output.proofs.Naming.{names_plain}
use Rattle.row_output.proofs.States.{refused_put}

abbrev text_as : (Bool → List (List ℕ) → List Row → List ℕ) → Bool → RowsText
text_as text once = record { of = text; at_once = once }

abbrev made : Option Files → RowsText → List (List ℕ) → Purpose
made files text columns = record { files = files; text = text; columns = columns }

pub files_made : (f : FileOutputs) (files : Files) (wanted : Wanted) (moment : ℤ) (columns : List (List ℕ)) → files_of f ≡ files → f.wanted ≡ wanted → f.moment ≡ moment → f.columns ≡ columns → purpose_of (To.Files f) ≡ made (Some files) (wanted_text wanted moment) columns
files_made f files wanted moment columns same is_wanted is_moment are =
    ap (λ (x : Files). made (Some x) (wanted_text f.wanted f.moment) f.columns) same
    ∙ (ap (λ (w : Wanted). made (Some files) (wanted_text w f.moment) f.columns) is_wanted
    ∙ (ap (λ (m : ℤ). made (Some files) (wanted_text wanted m) f.columns) is_moment
    ∙ ap (λ (c : List (List ℕ)). made (Some files) (wanted_text wanted moment) c) are))

-- formats that are alike in both
pub same_text : (a b : Format) → text_of a ≡ text_of b → is_at_once a ≡ is_at_once b → format_text a ≡ format_text b
same_text a b text once = ap (λ (t : Bool → List (List ℕ) → List Row → List ℕ). text_as t (is_at_once a)) text ∙ ap (text_as (text_of b)) once

pub standard_made : (s : Standard) (text : RowsText) (names : List (List ℕ)) → format_text s.text.shape ≡ text → s.names ≡ names → purpose_of (To.Standard s) ≡ made None text names
standard_made s text names format are = ap (λ (t : RowsText). made None t s.names) format ∙ ap (λ (c : List (List ℕ)). made None text c) are

abbrev pub purpose_for : Into → RowsText → List (List ℕ) → Purpose
purpose_for into text names = made (files_for into) text (columns_for (files_for into) names)

pub new_standard : (into : Into) (s : Standard) (text : RowsText) (names : List (List ℕ)) → into ≡ I.Standard → format_text s.text.shape ≡ text → s.names ≡ names → purpose_of (To.Standard s) ≡ purpose_for into text names
new_standard into s text names is format are = standard_made s text names format are ∙ ap (λ (i : Into). purpose_for i text names) (sym is)

pub new_files : (into : Into) (outputs : Numbering) (mode : FileMode) (f : FileOutputs) (wanted : Wanted) (moment : ℤ) (names : List (List ℕ)) → into ≡ I.Files outputs mode
    → files_of f ≡ record { pattern = outputs.pattern; forbidden = outputs.forbidden; mode = mode } → (f.wanted ≡ wanted) × (f.moment ≡ moment) × (f.columns ≡ drop (stars outputs.pattern) names) → purpose_of (To.Files f) ≡ purpose_for into (wanted_text wanted moment) names
new_files into outputs mode f wanted moment names is files (is_wanted, is_moment, are) =
    files_made f (record { pattern = outputs.pattern; forbidden = outputs.forbidden; mode = mode }) wanted moment (drop (stars outputs.pattern) names) files is_wanted is_moment are
    ∙ ap (λ (i : Into). purpose_for i (wanted_text wanted moment) names) (sym is)

pub opened_standard : (s : Sink) (own : Standard) → s ≡ To.Standard own → IsOpened s
opened_standard s own is = subst IsOpened (sym is) tt

-- a call of the files of a sink, from one moment to another
module _ {S : Type 0} (kind : StageKind S) (s : Sink) (f : FileOutputs) (is : s ≡ To.Files f) (a b : S) where
  pub files_same : (g : FileOutputs) → (files_of g ≡ files_of f) × (g.wanted ≡ f.wanted) × (g.moment ≡ f.moment) × (g.columns ≡ f.columns) → purpose_of (To.Files g) ≡ purpose_of s
  files_same g (files, wanted, moment, columns) = files_made g (files_of f) f.wanted f.moment f.columns files wanted moment columns ∙ ap purpose_of (sym is)

  own : (start : S) (rows : List Row) → HasSinkRows kind s start rows a → HasFileRows kind f start rows a
  own start rows has = subst (λ (x : Sink). HasSinkRows kind x start rows a) is has

  stops : (start : S) (rows : List Row) → FilesStop kind (files_of f) start rows b → StopsAt (files_in s) kind (sink_text s) start rows b
  stops start rows stop = subst (λ (x : Sink). StopsAt (files_in x) kind (sink_text x) start rows b) (sym is) stop

  refuses : (rows : List Row) (why : Refused) → IsRefusedBy (files_of f) rows why → IsRefusedAt (files_in s) rows why
  refuses rows why refused = subst (λ (x : Sink). IsRefusedAt (files_in x) rows why) (sym is) refused

  pub files_have : {A : Type 0} (r : Result A OutputFault) (g : FileOutputs) (after : List Row → List Row) → OnOk r ((start : S) (rows : List Row) → HasFileRows kind f start rows a → HasFileRows kind g start (after rows) b)
      → OnOk r ((start : S) (rows : List Row) → HasSinkRows kind s start rows a → HasSinkRows kind (To.Files g) start (after rows) b)
  files_have (Ok x) g after so = λ start rows has. so start rows (own start rows has)
  files_have (Err fault) g after so = tt

  pub files_little : {A : Type 0} (r : Result A OutputFault) (g : FileOutputs) → OnOk r ((start : S) (rows : List Row) → HasFileRows kind f start rows a → HoldLittle g.files.items)
      → OnOk r ((start : S) (rows : List Row) → HasSinkRows kind s start rows a → HoldsLittle (To.Files g))
  files_little (Ok x) g so = λ start rows has. so start rows (own start rows has)
  files_little (Err fault) g so = tt

  pub files_opened : {A : Type 0} (r : Result A OutputFault) (g : FileOutputs) → OnOk r ((start : S) (rows : List Row) → HasFileRows kind f start rows a → g.outputs.names ≡ output_names g.outputs.pattern rows)
      → OnOk r ((start : S) (rows : List Row) → HasSinkRows kind s start rows a → IsOpened (To.Files g))
  files_opened (Ok x) g so = λ start rows has none. so start rows (own start rows has) ∙ names_plain g.outputs.pattern rows none
  files_opened (Err fault) g so = tt

  pub files_stop_in : {A : Type 0} (r : Result A OutputFault) (whole : List Row → List Row → List Row) → OnErr r ((start : S) (rows more : List Row) → HasFileRows kind f start rows a → FilesStop kind (files_of f) start (whole rows more) b)
      → OnErr r ((start : S) (rows more : List Row) → HasSinkRows kind s start rows a → StopsAt (files_in s) kind (sink_text s) start (whole rows more) b)
  files_stop_in (Ok x) whole so = tt
  files_stop_in (Err fault) whole so = λ start rows more has. stops start (whole rows more) (so start rows more (own start rows has))

  pub files_refuse_in : {A : Type 0} (r : Result A OutputFault) (whole : List Row → List Row → List Row) → IfErr r (OnRefused (λ why. (start : S) (rows more : List Row) → HasFileRows kind f start rows a → IsRefusedBy (files_of f) (whole rows more) why))
      → IfErr r (OnRefused (λ why. (start : S) (rows more : List Row) → HasSinkRows kind s start rows a → IsRefusedAt (files_in s) (whole rows more) why))
  files_refuse_in (Ok x) whole so = tt
  files_refuse_in (Err (F.Refused why)) whole so = λ start rows more has. refuses (whole rows more) why (so start rows more (own start rows has))
  files_refuse_in (Err F.Failed) whole so = tt
  files_refuse_in (Err F.Memory) whole so = tt

  pub files_end : (r : Result (List Output) OutputFault) → IfOk r (λ outputs. (start : S) (rows : List Row) → HasFileRows kind f start rows a → FilesHold kind (files_of f) (output_text f) start rows outputs b)
      → IfOk r (λ outputs. (start : S) (rows : List Row) → HasSinkRows kind s start rows a → HoldsAt (files_in s) kind (sink_text s) start rows outputs b)
  files_end (Ok outputs) so = λ start rows has. subst (λ (x : Sink). HoldsAt (files_in x) kind (sink_text x) start rows outputs b) (sym is) (so start rows (own start rows has))
  files_end (Err fault) so = tt

  pub files_stop_at : {A : Type 0} (r : Result A OutputFault) → OnErr r ((start : S) (rows : List Row) → HasFileRows kind f start rows a → FilesStop kind (files_of f) start rows b)
      → OnErr r ((start : S) (rows : List Row) → HasSinkRows kind s start rows a → StopsAt (files_in s) kind (sink_text s) start rows b)
  files_stop_at (Ok x) so = tt
  files_stop_at (Err fault) so = λ start rows has. stops start rows (so start rows (own start rows has))

  pub files_refuse_at : {A : Type 0} (r : Result A OutputFault) → IfErr r (OnRefused (λ why. (start : S) (rows : List Row) → HasFileRows kind f start rows a → IsRefusedBy (files_of f) rows why))
      → IfErr r (OnRefused (λ why. (start : S) (rows : List Row) → HasSinkRows kind s start rows a → IsRefusedAt (files_in s) rows why))
  files_refuse_at (Ok x) so = tt
  files_refuse_at (Err (F.Refused why)) so = λ start rows has. refuses rows why (so start rows (own start rows has))
  files_refuse_at (Err F.Failed) so = tt
  files_refuse_at (Err F.Memory) so = tt

-- a call of the text of a sink
module _ {S : Type 0} (kind : StageKind S) (s : Sink) (old : Standard) (is : s ≡ To.Standard old) (a b : S) where
  pub standard_same : (new : Standard) → format_text new.text.shape ≡ format_text old.text.shape → new.names ≡ old.names → purpose_of (To.Standard new) ≡ purpose_of s
  standard_same new format names = standard_made new (format_text old.text.shape) old.names format names ∙ ap purpose_of (sym is)

  pub text_had : (start : S) (rows : List Row) → HasSinkRows kind s start rows a → HasStandardRows kind old start rows a
  text_had start rows has = subst (λ (x : Sink). HasSinkRows kind x start rows a) is has

  pub text_stops : (start : S) (rows : List Row) → GainsFront (standard_at kind start) b (text_of old.text.shape true old.names rows) → StopsAt (files_in s) kind (sink_text s) start rows b
  text_stops start rows stop = subst (λ (x : Sink). StopsAt (files_in x) kind (sink_text x) start rows b) (sym is) stop

  pub text_end : (r : Result (List Output) OutputFault)
      → IfOk r (λ outputs. (start : S) (rows : List Row) → HasStandardRows kind old start rows a → StandardHolds kind (λ fresh more. text_of old.text.shape fresh old.names more) start rows outputs b)
      → IfOk r (λ outputs. (start : S) (rows : List Row) → HasSinkRows kind s start rows a → HoldsAt (files_in s) kind (sink_text s) start rows outputs b)
  text_end (Ok outputs) so = λ start rows has. subst (λ (x : Sink). HoldsAt (files_in x) kind (sink_text x) start rows outputs b) (sym is) (so start rows (text_had start rows has))
  text_end (Err fault) so = tt

  pub text_stop_at : {A : Type 0} (r : Result A OutputFault) → OnErr r ((start : S) (rows : List Row) → HasStandardRows kind old start rows a → GainsFront (standard_at kind start) b (text_of old.text.shape true old.names rows))
      → OnErr r ((start : S) (rows : List Row) → HasSinkRows kind s start rows a → StopsAt (files_in s) kind (sink_text s) start rows b)
  text_stop_at (Ok x) so = tt
  text_stop_at (Err fault) so = λ start rows has. text_stops start rows (so start rows (text_had start rows has))

-- no output is refused
pub none_refused : {A : Type 0} (Q : Refused → Type 0) (r : Result A OutputFault) → IfErr r (OnRefused (λ why. ⊥)) → IfErr r (OnRefused Q)
none_refused Q (Ok x) none = tt
none_refused Q (Err (F.Refused why)) none = absurd none
none_refused Q (Err F.Failed) none = tt
none_refused Q (Err F.Memory) none = tt

-- the text on standard output is whole
pub standard_ends : {S : Type 0} (kind : StageKind S) (s : Standard) (start : S) (rows : List Row) (output : Output) (outputs : List Output) (now : S) → outputs ≡ output ∷ []
    → GainsText (standard_at kind start) (placed_at kind s.text.target.output output now) (text_of s.text.shape true s.names rows) → kind.ended now output.name output.base output.mark
    → StandardHolds kind (λ fresh more. text_of s.text.shape fresh s.names more) start rows outputs now
standard_ends kind s start rows output outputs now one gains ended = record {
  output = output;
  one = one;
  text = gains_as (standard_at kind start) (placed_at kind s.text.target.output output now) (text_of s.text.shape true s.names rows) gains;
  ended = ended;
}

-- or the front of it stands there
pub standard_stops : {S : Type 0} (kind : StageKind S) (s : Standard) (start : S) (rows : List Row) (now : S) → HasStandardRows kind s start rows now → GainsFront (standard_at kind start) now (text_of s.text.shape true s.names rows)
standard_stops kind s start rows now has =
    subst (λ (t : List Row). GainsFront (standard_at kind start) now (text_of s.text.shape true s.names t)) (append-nil rows)
    (front_of text_of HasText format_begins s.text.shape true s.names rows [] (standard_at kind start) (reached kind s.text.target now) s.text.held has)

pub whole_stops : {S : Type 0} (kind : StageKind S) (s : Standard) (start : S) (rows : List Row) (output : Output) (now : S) → GainsText (standard_at kind start) (placed_at kind s.text.target.output output now) (text_of s.text.shape true s.names rows)
    → GainsFront (standard_at kind start) now (text_of s.text.shape true s.names rows)
whole_stops kind s start rows output now gains =
    subst (λ (t : List ℕ). GainsFront (standard_at kind start) now t) (append-nil (text_of s.text.shape true s.names rows))
    (front_all (standard_at kind start) (placed_at kind s.text.target.output output now) (text_of s.text.shape true s.names rows) [] gains)

-- a fault of a text refuses no output
pub told_put : (Q : Refused → Type 0) (told : OutputFault) (fault : PutFault) → told ≡ put_fault fault → OnRefused Q told
told_put Q told fault is = subst (OnRefused Q) (sym is) (refused_put Q fault)

-- it failed where the text did
pub failed_put : {A B : Type 0} (told : OutputFault) (fault : PutFault) (Q : Type 0) → told ≡ put_fault fault → (IsErrOf {T = B} (Err fault) T.Failed → Q) → IsErrOf {T = A} (Err told) F.Failed → Q
failed_put told T.Failed Q is so same = so refl
failed_put told T.Memory Q is so same = cc

-- what a sink is for decides where it stops, what it refuses and what it holds
pub stops_alike : {S : Type 0} (kind : StageKind S) (s t : Sink) (start : S) (rows : List Row) (now : S) → purpose_of s ≡ purpose_of t → StopsAt (files_in s) kind (sink_text s) start rows now → StopsAt (files_in t) kind (sink_text t) start rows now
stops_alike kind s t start rows now same stop = subst (λ (p : Purpose). StopsAt p.files kind (λ fresh more. p.text.of fresh p.columns more) start rows now) same stop

pub refused_alike : (s t : Sink) (rows : List Row) (why : Refused) → purpose_of s ≡ purpose_of t → IsRefusedAt (files_in s) rows why → IsRefusedAt (files_in t) rows why
refused_alike s t rows why same refused = subst (λ (p : Purpose). IsRefusedAt p.files rows why) same refused

pub holds_alike : {S : Type 0} (kind : StageKind S) (s t : Sink) (start : S) (rows : List Row) (outputs : List Output) (now : S) → purpose_of s ≡ purpose_of t → HoldsAt (files_in s) kind (sink_text s) start rows outputs now
    → HoldsAt (files_in t) kind (sink_text t) start rows outputs now
holds_alike kind s t start rows outputs now same holds = subst (λ (p : Purpose). HoldsAt p.files kind (λ fresh more. p.text.of fresh p.columns more) start rows outputs now) same holds

-- one row of all, between those before and those behind it
pub with_rest : (all : List Row) (i : ℕ) (row d : Row) → i < length all → row ≡ get_or all i d → take i all ++ (row ∷ drop (i + 1) all) ≡ all
with_rest all i row d less is = ap (λ (r : Row). take i all ++ (r ∷ drop (i + 1) all)) is ∙ (ap (λ (l : List Row). take i all ++ l) (sym (drop_more all i d less)) ∙ take-append-drop i all)

pub with_next : (all : List Row) (i : ℕ) (row d : Row) → i < length all → row ≡ get_or all i d → take i all ++ row ∷ [] ≡ take (i + 1) all
with_next all i row d less is = ap (λ (r : Row). take i all ++ r ∷ []) is ∙ sym (take_more all i d less)

-- a refusal goes on to the caller
pub refused_on : {A : Type 0} (P Q : Refused → Type 0) (r : Result A OutputFault) (fault : OutputFault) → IsErrAnd r (λ f. f ≡ fault) → ((why : Refused) → P why → Q why) → OnRefused P fault → IfErr r (OnRefused Q)
refused_on P Q (Ok x) fault from so is = tt
refused_on P Q (Err f) fault from so is = refused_so P Q f so (subst (OnRefused P) (sym from) is)
