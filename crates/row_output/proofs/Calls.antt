-- What the calls of outputs in files come to.
use Rattle.std.proofs.Common.{◌≡◌, ◌⊎◌, inl, inr, ◌<◌, ℕ, ℤ, true, List, [], ◌∷◌, ◌++◌, length, take, drop, set, get_or, slice_get, Some, Result, Ok, Err, IfErr, IsErrAnd, refl, sym, ◌∙◌, ap, ap₂, subst}
use Rattle.std.proofs.lemmas.List.{append-nil}
use Rattle.any_format.specs.declared.wanted.Wanted.{Wanted}
use Rattle.command_words.specs.declared.modes.FileMode.{FileMode}
use Rattle.log_listing.specs.Firsts.{is_among, with_name}
use Rattle.multiplex.specs.Naming.{filled, stars}
use Rattle.multiplex.specs.Placing.{Numbering, IsNewName}
use Rattle.multiplex.specs.Splitting.{output_names, row_name, rows_named}
use Rattle.multiplex.proofs.Splits.{no_values}
use Rattle.order_top.specs.Finish.{Row}
use Rattle.text_output.specs.Output.{StageKind}
use Rattle.text_output.specs.declared.target.Output.{Output}
use Rattle.row_output.specs.declared.file_output.FileOutput.{FileOutput}
use Rattle.row_output.specs.declared.files.FileOutputs.{FileOutputs}
use Rattle.row_output.specs.declared.fault.OutputFault.{OutputFault}
use Rattle.row_output.specs.declared.fault.OutputFault.TheVariants as F
use Rattle.row_output.specs.declared.fault.Refused.{Refused}
use Rattle.row_output.specs.Asked.{Files, AreGood, IsRefusedAs, IsRefusedBy}
use Rattle.row_output.specs.Files.{FilesHold, FilesStop}
use Rattle.row_output.specs.FileTexts.{HoldLittle, held_back, Making, AreUnderWay, AreEnding, StopsAmong, StopsFree, SparesFile, TakesRow}
use Rattle.row_output.specs.FileRows.{AreNamesOf, HasOutputs, HasFileRows, files_of, making_of, output_text, OnRefused}
use Rattle.row_output.proofs.Naming.{names_after, names_plain, names_of_differ, plain_after, starred_are, none_or_some, stops_for, stops_free, refused_plain, refused_row}
use Rattle.row_output.proofs.Little.{little_put, none_more, one_output}
use Rattle.row_output.proofs.States.{files_length, outputs_same, rows_more, row_among, plain_among, outputs_stop, files_hold}

-- P of a refusal, and so Q
pub refused_so : (P Q : Refused → Type 0) (fault : OutputFault) → ((why : Refused) → P why → Q why) → OnRefused P fault → OnRefused Q fault
refused_so P Q (F.Refused why) so is = so why is
refused_so P Q F.Failed so is = tt
refused_so P Q F.Memory so is = tt

-- a fault that is handed on
pub handed : {T E : Type 0} (P : E → Type 0) (r : Result T E) (fault : E) → IsErrAnd r (λ f. f ≡ fault) → P fault → IfErr r P
handed P (Ok value) fault is p = absurd is
handed P (Err f) fault is p = subst P (sym is) p

-- what the texts share stays where its parts do
pub making_same : (f g : FileOutputs) → files_of g ≡ files_of f → g.wanted ≡ f.wanted → g.moment ≡ f.moment → g.columns ≡ f.columns → making_of g ≡ making_of f
making_same f g files wanted moment columns =
    let At : FileMode → Wanted → ℤ → List (List ℕ) → Making = λ mode wanted moment columns. record { mode = mode; wanted = wanted; moment = moment; columns = columns } in
    ap₂ (λ (x : Files) (w : Wanted). At x.mode w g.moment g.columns) files wanted ∙ ap₂ (λ (m : ℤ) (names : List (List ℕ)). At f.mode f.wanted m names) moment columns

-- the values of a row's name
named_by : (f : FileOutputs) (row values : Row) → f.stars ≡ stars f.outputs.pattern → values ≡ take f.stars row → filled f.outputs.pattern values ≡ row_name f.outputs.pattern row
named_by f row values counted are = ap (filled f.outputs.pattern) (are ∙ ap (λ (n : ℕ). take n row) counted)

-- a row isn't placed
pub put_stops : {S : Type 0} (kind : StageKind S) (f : FileOutputs) (start : S) (rows : List Row) (row values : Row) (more : List Row) (a b : S) → values ≡ take f.stars row → HasFileRows kind f start rows a
    → StopsFree kind (files_of f) (with_name f.outputs.names (filled f.outputs.pattern values)) start b → FilesStop kind (files_of f) start (rows ++ (row ∷ more)) b
put_stops kind f start rows row values more a b are has stops =
    let named = named_by f row values has.outputs.stars_are are in
    let names = with_name f.outputs.names (row_name f.outputs.pattern row) in
    stops_free kind (files_of f) names start (rows ++ (row ∷ more)) b (λ name there. row_among f.outputs rows row more name has.names there)
    (subst (λ (n : List ℕ). StopsFree kind (files_of f) (with_name f.outputs.names n) start b) named stops)

-- why it is refused
pub put_refused : {S : Type 0} (kind : StageKind S) (f : FileOutputs) (start : S) (rows : List Row) (row values : Row) (more : List Row) (a : S) (why : Refused) → values ≡ take f.stars row → HasFileRows kind f start rows a
    → IsNewName f.outputs (filled f.outputs.pattern values) × IsRefusedAs f.outputs.forbidden f.outputs.names (filled f.outputs.pattern values) why → IsRefusedBy (files_of f) (rows ++ (row ∷ more)) why
put_refused kind f start rows row values more a why are has is =
    let named = named_by f row values has.outputs.stars_are are in
    let own = subst (λ (n : List ℕ). IsNewName f.outputs n × IsRefusedAs f.outputs.forbidden f.outputs.names n why) named is in
    refused_row f.outputs (files_of f) rows row more why refl refl has.names has.outputs.good own.0 own.1

pub put_refusals : {S : Type 0} (kind : StageKind S) (f : FileOutputs) (row values : Row) (a : S) (fault : OutputFault) → values ≡ take f.stars row
    → OnRefused (λ why. IsNewName f.outputs (filled f.outputs.pattern values) × IsRefusedAs f.outputs.forbidden f.outputs.names (filled f.outputs.pattern values) why) fault
    → OnRefused (λ why. (start : S) (rows more : List Row) → HasFileRows kind f start rows a → IsRefusedBy (files_of f) (rows ++ (row ∷ more)) why) fault
put_refusals {S} kind f row values a fault are is =
    refused_so (λ why. IsNewName f.outputs (filled f.outputs.pattern values) × IsRefusedAs f.outputs.forbidden f.outputs.names (filled f.outputs.pattern values) why)
    (λ why. (start : S) (rows more : List Row) → HasFileRows kind f start rows a → IsRefusedBy (files_of f) (rows ++ (row ∷ more)) why) fault (λ why own start rows more has. put_refused kind f start rows row values more a why are has own) is

-- where each output held little, or no row was put, each holds little behind the next
pub put_little : {S : Type 0} (kind : StageKind S) (f g : FileOutputs) (start : S) (rows : List Row) (row values : Row) (a b : S) (i : ℕ) (file : FileOutput) (more now : List FileOutput) → values ≡ take f.stars row
    → g.outputs.names ≡ with_name f.outputs.names (filled f.outputs.pattern values) → slice_get g.outputs.names i ≡ Some (filled f.outputs.pattern values) → i < length g.files.items → HasOutputs kind g start rows b
    → g.files.items ≡ f.files.items ++ more → now ≡ set g.files.items i file → held_back file < 4096 → HasFileRows kind f start rows a → HoldLittle now
put_little kind f g start rows row values a b i file more now are names at less placed front files small has =
    let own = f.outputs.names in
    let pattern = f.outputs.pattern in
    let name = filled pattern values in
    let all : length g.outputs.names ≡ length g.files.items = files_length kind (making_of g) start b (rows_named g.outputs.pattern rows) 0 g.outputs.names g.files.items placed.under_way.each in
    let old : length own ≡ length f.files.items = files_length kind (making_of f) start a (rows_named pattern rows) 0 own f.files.items has.outputs.under_way.each in
    let long : length (f.files.items ++ more) ≡ length (with_name own name) = ap length (sym front) ∙ (sym all ∙ ap length names) in
    let one : rows ≡ [] → length (with_name own name) ≡ 1 = λ none.
    ap (λ (n : List ℕ). length (with_name own n)) (named_by f row values has.outputs.stars_are are)
    ∙ (ap length (names_after f.outputs rows row has.names) ∙ (ap (λ (l : List Row). length (output_names pattern (l ++ row ∷ []))) none ∙ one_output pattern row)) in
    let known : (length (with_name own name) ≡ 1) ⊎ HoldLittle f.files.items = first_or one has.little in
    subst HoldLittle (sym (files ∙ ap (λ (l : List FileOutput). set l i file) front))
    (little_put own name f.files.items more i file (ap (λ (l : List (List ℕ)). slice_get l i) (sym names) ∙ at) long (sym old) (subst (λ (l : List FileOutput). i < length l) front less) small known)
  where
    first_or : {A B C : Type 0} → (A → C) → A ⊎ B → C ⊎ B
    first_or so (inl is) = inl (so is)
    first_or so (inr is) = inr is

-- a row is placed and handed on
pub put_has : {S : Type 0} (kind : StageKind S) (f g h : FileOutputs) (start : S) (rows : List Row) (row values : Row) (a b c : S) (i : ℕ) (file : FileOutput) → values ≡ take f.stars row → files_of g ≡ files_of f
    → g.outputs.names ≡ with_name f.outputs.names (filled f.outputs.pattern values) → slice_get g.outputs.names i ≡ Some (filled f.outputs.pattern values) → i < length g.files.items → HasOutputs kind g start rows b
    → h.outputs ≡ g.outputs → h.stars ≡ g.stars → making_of h ≡ making_of g → h.texts ≡ g.texts → h.files.items ≡ set g.files.items i file → ((d : FileOutput) → TakesRow kind (drop g.stars row) (get_or g.files.items i d) file b c)
    → HoldLittle h.files.items → HasFileRows kind f start rows a → HasFileRows kind h start (rows ++ row ∷ []) c
put_has kind f g h start rows row values a b c i file are same names at less placed outputs counts making texts files takes little has =
    let named = named_by f row values has.outputs.stars_are are in
    rows_more kind f g h start rows row b c i file has.names (ap (λ (x : Files). x.pattern) same) (names ∙ ap (with_name f.outputs.names) named) (at ∙ ap Some named) less outputs counts making texts files takes little placed

-- a row is placed, and isn't handed on
pub hand_stops : {S : Type 0} (kind : StageKind S) (f g : FileOutputs) (start : S) (rows : List Row) (row values : Row) (more : List Row) (a b c : S) (i : ℕ) (d : FileOutput) → values ≡ take f.stars row → files_of g ≡ files_of f
    → g.outputs.names ≡ with_name f.outputs.names (filled f.outputs.pattern values) → slice_get g.outputs.names i ≡ Some (filled f.outputs.pattern values) → i < length g.files.items → HasOutputs kind g start rows b
    → SparesFile kind (get_or g.files.items i d) b c → HasFileRows kind f start rows a → FilesStop kind (files_of f) start (rows ++ (row ∷ more)) c
hand_stops kind f g start rows row values more a b c i d are same names at less placed calls has =
    let named = named_by f row values has.outputs.stars_are are in
    let stops = outputs_stop kind f g start rows row b c i d has.names (names ∙ ap (with_name f.outputs.names) named) (at ∙ ap Some named) less calls placed in
    let own : StopsFree kind (files_of g) g.outputs.names start c = record { names = g.outputs.names; among = λ name there. there; free = placed.good.free; stops = stops } in
    put_stops kind f start rows row values more a c are has
    (subst (λ (x : Files). StopsFree kind x (with_name f.outputs.names (filled f.outputs.pattern values)) start c) same (subst (λ (l : List (List ℕ)). StopsFree kind (files_of g) l start c) names own))

-- the one output without stars isn't opened
pub open_stops : {S : Type 0} (kind : StageKind S) (f : FileOutputs) (start : S) (rows more : List Row) (a b : S) → f.stars ≡ 0 → HasFileRows kind f start rows a
    → StopsFree kind (files_of f) (with_name f.outputs.names (filled f.outputs.pattern [])) start b → FilesStop kind (files_of f) start more b
open_stops kind f start rows more a b none has stops =
    stops_free kind (files_of f) (with_name f.outputs.names (filled f.outputs.pattern [])) start more b (λ name there. plain_among f.outputs rows more name (sym has.outputs.stars_are ∙ none) has.names there) stops

pub open_refused : {S : Type 0} (kind : StageKind S) (f : FileOutputs) (start : S) (rows more : List Row) (a : S) (why : Refused) → f.stars ≡ 0 → HasFileRows kind f start rows a
    → IsNewName f.outputs (filled f.outputs.pattern []) × IsRefusedAs f.outputs.forbidden f.outputs.names (filled f.outputs.pattern []) why → IsRefusedBy (files_of f) more why
open_refused kind f start rows more a why none has is =
    refused_plain f.outputs (files_of f) rows more (filled f.outputs.pattern []) why refl refl (sym has.outputs.stars_are ∙ none) (no_values f.outputs.pattern) has.names is.0 is.1

pub open_refusals : {S : Type 0} (kind : StageKind S) (f : FileOutputs) (a : S) (fault : OutputFault) → f.stars ≡ 0
    → OnRefused (λ why. IsNewName f.outputs (filled f.outputs.pattern []) × IsRefusedAs f.outputs.forbidden f.outputs.names (filled f.outputs.pattern []) why) fault
    → OnRefused (λ why. (start : S) (rows more : List Row) → HasFileRows kind f start rows a → IsRefusedBy (files_of f) (rows ++ more) why) fault
open_refusals {S} kind f a fault none is =
    refused_so (λ why. IsNewName f.outputs (filled f.outputs.pattern []) × IsRefusedAs f.outputs.forbidden f.outputs.names (filled f.outputs.pattern []) why)
    (λ why. (start : S) (rows more : List Row) → HasFileRows kind f start rows a → IsRefusedBy (files_of f) (rows ++ more) why) fault (λ why own start rows more has. open_refused kind f start rows (rows ++ more) a why none has own) is

-- it is opened
pub open_all_named : {S : Type 0} (kind : StageKind S) (f g : FileOutputs) (start : S) (rows : List Row) (a : S) → f.stars ≡ 0 → files_of g ≡ files_of f → g.outputs.names ≡ with_name f.outputs.names (filled f.outputs.pattern []) → HasFileRows kind f start rows a
    → g.outputs.names ≡ output_names g.outputs.pattern rows
open_all_named kind f g start rows a none same names has =
    let plain : stars f.outputs.pattern ≡ 0 = sym has.outputs.stars_are ∙ none in
    names ∙ (ap (with_name f.outputs.names) (no_values f.outputs.pattern) ∙ (plain_after f.outputs rows plain has.names ∙ (sym (names_plain f.outputs.pattern rows plain) ∙ ap (λ (x : Files). output_names x.pattern rows) (sym same))))

pub open_has : {S : Type 0} (kind : StageKind S) (f g : FileOutputs) (start : S) (rows : List Row) (a b : S) → f.stars ≡ 0 → files_of g ≡ files_of f → g.outputs.names ≡ with_name f.outputs.names (filled f.outputs.pattern []) → HasOutputs kind g start rows b → (more : List FileOutput) → g.files.items ≡ f.files.items ++ more → HasFileRows kind f start rows a
    → HasFileRows kind g start rows b
open_has kind f g start rows a b none same names placed more front has = outputs_same kind g start rows b placed (inl all) (little has.names has.little)
  where
    all : g.outputs.names ≡ output_names g.outputs.pattern rows
    all = open_all_named kind f g start rows a none same names has

    -- where a row was put the output is opened
    little : AreNamesOf f.outputs rows → (rows ≡ []) ⊎ HoldLittle f.files.items → (rows ≡ []) ⊎ HoldLittle g.files.items
    little are (inl none) = inl none
    little (inr (names, none)) (inr held) = inl none
    little (inl are) (inr held) =
        let now = files_length kind (making_of g) start b (rows_named g.outputs.pattern rows) 0 g.outputs.names g.files.items placed.under_way.each in
        let old = files_length kind (making_of f) start a (rows_named f.outputs.pattern rows) 0 f.outputs.names f.files.items has.outputs.under_way.each in
        let names : g.outputs.names ≡ f.outputs.names = all ∙ (ap (λ (x : Files). output_names x.pattern rows) same ∙ sym are) in
        inr (subst HoldLittle (sym (none_more f.files.items more g.files.items front (sym now ∙ (ap length names ∙ old)))) held)

-- with stars there is nothing to open
pub open_none_named : {S : Type 0} (kind : StageKind S) (f : FileOutputs) (start : S) (rows : List Row) (a : S) → 0 < f.stars → HasFileRows kind f start rows a → f.outputs.names ≡ output_names f.outputs.pattern rows
open_none_named kind f start rows a some has = starred_are f.outputs rows (subst (λ (n : ℕ). 0 < n) has.outputs.stars_are some) has.names

pub end_refusals : {S : Type 0} (kind : StageKind S) (f : FileOutputs) (a : S) (fault : OutputFault) → OnRefused (λ why. (start : S) (rows more : List Row) → HasFileRows kind f start rows a → IsRefusedBy (files_of f) (rows ++ more) why) fault
    → OnRefused (λ why. (start : S) (rows : List Row) → HasFileRows kind f start rows a → IsRefusedBy (files_of f) rows why) fault
end_refusals {S} kind f a fault is =
    refused_so (λ why. (start : S) (rows more : List Row) → HasFileRows kind f start rows a → IsRefusedBy (files_of f) (rows ++ more) why)
    (λ why. (start : S) (rows : List Row) → HasFileRows kind f start rows a → IsRefusedBy (files_of f) rows why) fault
    (λ why own start rows has. subst (λ (l : List Row). IsRefusedBy (files_of f) l why) (append-nil rows) (own start rows [] has)) is

-- all are ended
pub end_holds : {S : Type 0} (kind : StageKind S) (f g : FileOutputs) (start : S) (rows : List Row) (outputs : List Output) (a b : S) → files_of g ≡ files_of f → making_of g ≡ making_of f → g.outputs.names ≡ output_names g.outputs.pattern rows → HasFileRows kind g start rows a
    → AreEnding kind (files_of g) (making_of g) start (rows_named g.outputs.pattern rows) g.outputs.names g.files.items [] outputs b → FilesHold kind (files_of f) (output_text f) start rows outputs b
end_holds kind f g start rows outputs a b files making names has ending = files_hold kind f g start rows outputs b files making names has.outputs.good ending

-- or not
pub end_stops : {S : Type 0} (kind : StageKind S) (f g : FileOutputs) (start : S) (rows : List Row) (b : S) → files_of g ≡ files_of f → g.outputs.names ≡ output_names g.outputs.pattern rows → AreGood g.outputs.forbidden g.outputs.names → StopsAmong kind g.mode g.outputs.names start b → FilesStop kind (files_of f) start rows b
end_stops kind f g start rows b files names good stops =
    subst (λ (x : Files). FilesStop kind x start rows b) files
    (stops_for kind (files_of g) g.outputs.names start rows b (λ name there. sym (ap (λ (l : List (List ℕ)). is_among l name) names) ∙ there) good.free stops)
