-- Outputs that are under way: one is opened, one takes a row, or they stop.
use Rattle.std.proofs.Common.{◌≡◌, ◌≢◌, ◌<◌, ◌≤◌, ◌+◌, ℕ, zero, suc, Bool, true, false, true≢false, ◌||◌, List, [], ◌∷◌, ◌++◌, length, map, All, set, get_or, slice_get, Some, refl, sym, ◌∙◌, ap, subst, arith, length-append, append_assoc}
use Rattle.std.specs.Prelude.{bytes_eq}
use Rattle.std.specs.Cmp.Lexicographic.{nat_list_eq_equiv}
use Rattle.std.proofs.lemmas.List.{map-append, append-nil}
use Rattle.std.proofs.lemmas.List.Elements.{All-nil, All-cons, All-weaker}
use Rattle.command_words.specs.declared.modes.FileMode.{FileMode}
use Rattle.command_words.specs.declared.modes.FileMode.TheVariants as M
use Rattle.log_listing.specs.Firsts.{is_among}
use Rattle.multiplex.proofs.Distinct.{Differ}
use Rattle.order_top.specs.Finish.{Row}
use Rattle.text_output.specs.Output.{StageKind, Spares}
use Rattle.row_output.specs.declared.file_output.FileOutput.{FileOutput}
use Rattle.row_output.specs.declared.file_output.FileOutput.TheVariants as O
use Rattle.row_output.specs.Files.{IsBase, IsLeftAlone, HadLength, Opened, SparesBut}
use Rattle.row_output.specs.FileTexts.{Making, IsFile, AreFiles, AreUnderWay, StopsAmong, KeepsStage, SparesFile, TakesRow, after_file, opened_by, opened_in}
use Rattle.row_output.proofs.Sparing.{called, spares_kept, spares_more, spares_put}
use Rattle.row_output.proofs.Following.{Still, off_head, off_tail, files_kept, files_take, file_at, opened_set, after_length, among_at}

or_true : (b : Bool) → (b || true) ≡ true
or_true true = refl
or_true false = refl

or_first : (a b : Bool) → a ≡ true → (a || b) ≡ true
or_first a b e = ap (λ (c : Bool). c || b) e

or_false : (a b : Bool) → a ≡ false → b ≡ false → (a || b) ≡ false
or_false a b e f = ap (λ (c : Bool). c || b) e ∙ f

first_off : (a b : Bool) → (a || b) ≡ false → a ≡ false
first_off true b e = e
first_off false b e = refl

-- what is opened has a name of theirs
pub named_all : {S : Type 0} (kind : StageKind S) (making : Making) (start now : S) (rows_of : List ℕ → List Row) (index : ℕ) (names : List (List ℕ)) (files : List FileOutput) → AreFiles kind making start now rows_of index names files
    → All (λ (o : Opened). is_among names o.name ≡ true) (opened_in files)
named_all kind making start now rows_of index [] [] are = All-nil (λ (o : Opened). is_among [] o.name ≡ true)
named_all kind making start now rows_of index [] (file ∷ files) are = absurd are
named_all kind making start now rows_of index (name ∷ names) [] are = absurd are
named_all kind making start now rows_of index (name ∷ names) (O.LeftAlone ∷ files) are =
    All-weaker (λ (o : Opened). is_among names o.name ≡ true) (λ (o : Opened). is_among (name ∷ names) o.name ≡ true) (λ o there. ap (λ (b : Bool). bytes_eq o.name name || b) there ∙ or_true (bytes_eq o.name name)) (opened_in files)
    (named_all kind making start now rows_of index names files are.1)
named_all kind making start now rows_of index (name ∷ names) (O.Text text ∷ files) are =
    All-cons (λ (o : Opened). is_among (name ∷ names) o.name ≡ true) (record { name = text.target.name; base = text.target.base }) (opened_in files)
    (or_first (bytes_eq text.target.name name) (is_among names text.target.name) (ap (λ (n : List ℕ). bytes_eq n name) are.0.called ∙ nat_list_eq_equiv.refl name))
    (All-weaker (λ (o : Opened). is_among names o.name ≡ true) (λ (o : Opened). is_among (name ∷ names) o.name ≡ true) (λ o there. ap (λ (b : Bool). bytes_eq o.name name || b) there ∙ or_true (bytes_eq o.name name)) (opened_in files)
    (named_all kind making start now rows_of (index + 1) names files are.1))

-- and begins where it may
bases_all : {S : Type 0} (kind : StageKind S) (making : Making) (start now : S) (rows_of : List ℕ → List Row) (index : ℕ) (names : List (List ℕ)) (files : List FileOutput) → AreFiles kind making start now rows_of index names files
    → All (λ (o : Opened). IsBase kind making.mode start o.name o.base) (opened_in files)
bases_all kind making start now rows_of index [] [] are = All-nil (λ (o : Opened). IsBase kind making.mode start o.name o.base)
bases_all kind making start now rows_of index [] (file ∷ files) are = absurd are
bases_all kind making start now rows_of index (name ∷ names) [] are = absurd are
bases_all kind making start now rows_of index (name ∷ names) (O.LeftAlone ∷ files) are = bases_all kind making start now rows_of index names files are.1
bases_all kind making start now rows_of index (name ∷ names) (O.Text text ∷ files) are =
    All-cons (λ (o : Opened). IsBase kind making.mode start o.name o.base) (record { name = text.target.name; base = text.target.base }) (opened_in files)
    (subst (λ (n : List ℕ). IsBase kind making.mode start n text.target.base) (sym are.0.called) are.0.base)
    (bases_all kind making start now rows_of (index + 1) names files are.1)

-- a name that isn't theirs isn't opened
off_opened : {S : Type 0} (kind : StageKind S) (making : Making) (start now : S) (rows_of : List ℕ → List Row) (index : ℕ) (names : List (List ℕ)) (files : List FileOutput) (name : List ℕ) → AreFiles kind making start now rows_of index names files
    → is_among names name ≡ false → is_among (called (opened_in files)) name ≡ false
off_opened kind making start now rows_of index [] [] name are off = refl
off_opened kind making start now rows_of index [] (file ∷ files) name are off = absurd are
off_opened kind making start now rows_of index (own ∷ names) [] name are off = absurd are
off_opened kind making start now rows_of index (own ∷ names) (O.LeftAlone ∷ files) name are off = off_opened kind making start now rows_of index names files name are.1 (off_tail own names name off)
off_opened kind making start now rows_of index (own ∷ names) (O.Text text ∷ files) name are off =
    or_false (bytes_eq name text.target.name) (is_among (called (opened_in files)) name)
    (ap (bytes_eq name) are.0.called ∙ first_off (bytes_eq name own) (is_among names name) off)
    (off_opened kind making start now rows_of (index + 1) names files name are.1 (off_tail own names name off))

-- what was asked later is so at the start
base_from : {S : Type 0} (kind : StageKind S) (mode : FileMode) (start a : S) (name : List ℕ) (base : ℕ) → ((bytes : ℕ) → HadLength kind a name bytes → HadLength kind start name bytes) → IsBase kind mode a name base → IsBase kind mode start name base
base_from kind M.Append start a name base had is = had base is
base_from kind M.Overwrite start a name base had is = is
base_from kind M.LeaveAlone start a name base had is = (is.0, had 0 is.1)

left_from : {S : Type 0} (kind : StageKind S) (mode : FileMode) (start a : S) (name : List ℕ) → ((bytes : ℕ) → HadLength kind a name bytes → HadLength kind start name bytes) → IsLeftAlone kind mode a name → IsLeftAlone kind mode start name
left_from kind M.Append start a name had is = is
left_from kind M.Overwrite start a name had is = is
left_from kind M.LeaveAlone start a name had is = (is.0, is.1, had is.0 is.2)

file_from : {S : Type 0} (kind : StageKind S) (making : Making) (start a b : S) (index : ℕ) (name : List ℕ) (rows : List Row) (file : FileOutput) → Still kind start a → ((bytes : ℕ) → HadLength kind a name bytes → HadLength kind start name bytes)
    → IsFile kind making a b index name rows file → IsFile kind making start b index name rows file
file_from kind making start a b index name rows O.LeftAlone still had is = left_from kind making.mode start a name had is
file_from kind making start a b index name rows (O.Text text) still had is = record {
  output = is.output;
  called = is.called;
  base = base_from kind making.mode start a name text.target.base had is.base;
  format = is.format;
  done = is.done;
  size = is.size;
  stands = λ tells. is.stands (still tells);
  so_far = is.so_far;
}

-- one output more
files_more : {S : Type 0} (kind : StageKind S) (making : Making) (start now : S) (rows_of : List ℕ → List Row) (index : ℕ) (names : List (List ℕ)) (files : List FileOutput) (name : List ℕ) (file : FileOutput) → AreFiles kind making start now rows_of index names files
    → IsFile kind making start now (index + length (opened_in files)) name (rows_of name) file → AreFiles kind making start now rows_of index (names ++ name ∷ []) (files ++ file ∷ [])
files_more kind making start now rows_of index [] [] name file are is =
    let here : index + 0 ≡ index = omega arith in
    (subst (λ (at : ℕ). IsFile kind making start now at name (rows_of name) file) here is, tt)
files_more kind making start now rows_of index [] (first ∷ files) name file are is = absurd are
files_more kind making start now rows_of index (own ∷ names) [] name file are is = absurd are
files_more kind making start now rows_of index (own ∷ names) (first ∷ files) name file are is =
    let long = length-append (opened_by first) (opened_in files) in
    let after = after_length index first in
    let here : index + length (opened_by first ++ opened_in files) ≡ after_file index first + length (opened_in files) = omega (arith, long, after) in
    (are.0, files_more kind making start now rows_of (after_file index first) names files name file are.1 (subst (λ (at : ℕ). IsFile kind making start now at name (rows_of name) file) here is))

opened_more : (files : List FileOutput) (file : FileOutput) → opened_in (files ++ file ∷ []) ≡ opened_in files ++ opened_by file
opened_more [] file = append-nil (opened_by file)
opened_more (first ∷ files) file = ap (λ (l : List Opened). opened_by first ++ l) (opened_more files file) ∙ sym (append_assoc (opened_by first) (opened_in files) (opened_by file))

spares_file : {S : Type 0} (kind : StageKind S) (making : Making) (z now start a : S) (index : ℕ) (opened : List Opened) (name : List ℕ) (rows : List Row) (file : FileOutput) → IsFile kind making z now index name rows file → is_among (called opened) name ≡ false
    → SparesBut kind opened start a → SparesBut kind (opened ++ opened_by file) start a
spares_file kind making z now start a index opened name rows O.LeftAlone is off spares = subst (λ (l : List Opened). SparesBut kind l start a) (sym (append-nil opened)) spares
spares_file kind making z now start a index opened name rows (O.Text text) is off spares =
    spares_more kind opened (record { name = text.target.name; base = text.target.base }) start a (ap (is_among (called opened)) is.called ∙ off) spares

pub way_opens : {S : Type 0} (kind : StageKind S) (making : Making) (rows_of : List ℕ → List Row) (names : List (List ℕ)) (start a b : S) (files : List FileOutput) (texts : ℕ) (name : List ℕ) (file : FileOutput)
    → is_among names name ≡ false → rows_of name ≡ [] → KeepsStage kind a b → IsFile kind making a b texts name [] file → AreUnderWay kind making rows_of names start files texts a → AreUnderWay kind making rows_of (names ++ name ∷ []) start (files ++ file ∷ []) (after_file texts file) b
way_opens kind making rows_of names start a b files texts name file off no_rows keeps is way =
    let hidden = off_opened kind making start a rows_of 0 names files name way.each off in
    let from = file_from kind making start a b texts name [] file way.tells (λ bytes had tells. (way.spares.lengths tells name bytes hidden).1 (had (way.tells tells))) is in
    let at : texts ≡ 0 + length (opened_in files) = let texts_are = way.texts_are in omega (arith, texts_are) in
    let more = opened_more files file in
    record {
      texts_are =
          let long = length-append (opened_in files) (opened_by file) in
          let after = after_length texts file in
          let texts_are = way.texts_are in
          let count : after_file texts file ≡ length (opened_in files ++ opened_by file) = omega (arith, long, after, texts_are) in
          count ∙ ap length (sym more);
      each = files_more kind making start b rows_of 0 names files name file (files_kept kind making start a b rows_of 0 names files way.tells keeps way.each)
          (subst (λ (at : ℕ). IsFile kind making start b at name (rows_of name) file) at (subst (λ (rows : List Row). IsFile kind making start b texts name rows file) (sym no_rows) from));
      tells = λ tells. (keeps.texts (way.tells tells)).tells;
      spares = subst (λ (l : List Opened). SparesBut kind l start b) (sym more)
          (spares_file kind making a b start b texts (opened_in files) name [] file is hidden (spares_kept kind (opened_in files) start a b way.tells way.spares keeps));
    }

-- an output that is opened stands among them
pub opened_there : (front : List Opened) (own : Opened) (back : List Opened) → is_among (called (front ++ (own ∷ back))) own.name ≡ true
opened_there [] own back = or_first (bytes_eq own.name own.name) (is_among (called back) own.name) (nat_list_eq_equiv.refl own.name)
opened_there (first ∷ front) own back = ap (λ (b : Bool). bytes_eq own.name first.name || b) (opened_there front own back) ∙ or_true (bytes_eq own.name first.name)

there_at : (files : List FileOutput) (i : ℕ) (d : FileOutput) (own : Opened) → i < length files → opened_by (get_or files i d) ≡ own ∷ [] → is_among (called (opened_in files)) own.name ≡ true
there_at [] i d own less at = absurd (omega (arith, less))
there_at (file ∷ files) zero d own less at =
    ap (λ (l : List Opened). is_among (called (l ++ opened_in files)) own.name) at ∙ opened_there [] own (opened_in files)
there_at (O.LeftAlone ∷ files) (suc i) d own less at = there_at files i d own (omega (arith, less)) at
there_at (O.Text text ∷ files) (suc i) d own less at = ap (λ (b : Bool). bytes_eq own.name text.target.name || b) (there_at files i d own (omega (arith, less)) at) ∙ or_true (bytes_eq own.name text.target.name)

-- no other that is opened has its name
bases_at : {S : Type 0} (kind : StageKind S) (making : Making) (start now : S) (rows_of : List ℕ → List Row) (index : ℕ) (names : List (List ℕ)) (files : List FileOutput) (i : ℕ) (d : FileOutput) (own : Opened)
    → AreFiles kind making start now rows_of index names files → Differ names → slice_get names i ≡ Some own.name → opened_by (get_or files i d) ≡ own ∷ [] → All (λ (o : Opened). o.name ≡ own.name → o.base ≡ own.base) (opened_in files)
bases_at kind making start now rows_of index [] [] i d own are differ named at = absurd (cc)
bases_at kind making start now rows_of index [] (file ∷ files) i d own are differ named at = absurd are
bases_at kind making start now rows_of index (first ∷ names) [] i d own are differ named at = absurd are
bases_at kind making start now rows_of index (first ∷ names) (file ∷ files) zero d own are differ named at =
    let Same : Opened → Type 0 = λ (o : Opened). o.name ≡ own.name → o.base ≡ own.base in
    let same : first ≡ own.name = some_same first own.name named in
    subst (All Same) (sym (ap (λ (l : List Opened). l ++ opened_in files) at))
    (All-cons Same own (opened_in files) (λ e. refl)
    (All-weaker (λ (o : Opened). is_among names o.name ≡ true) Same
    (λ o there e. absurd (true≢false (sym there ∙ (ap (is_among names) (e ∙ sym same) ∙ differ.0)))) (opened_in files)
    (named_all kind making start now rows_of (after_file index file) names files are.1)))
  where
    some_same : (one other : List ℕ) → Some one ≡ Some other → one ≡ other
    some_same one other e = cc
bases_at kind making start now rows_of index (first ∷ names) (O.LeftAlone ∷ files) (suc i) d own are differ named at =
    bases_at kind making start now rows_of index names files i d own are.1 differ.1 named at
bases_at kind making start now rows_of index (first ∷ names) (O.Text text ∷ files) (suc i) d own are differ named at =
    All-cons (λ (o : Opened). o.name ≡ own.name → o.base ≡ own.base) (record { name = text.target.name; base = text.target.base }) (opened_in files)
    (λ e. absurd (true≢false (sym (among_at names i own.name named) ∙ (ap (is_among names) (sym e ∙ are.0.called) ∙ differ.0))))
    (bases_at kind making start now rows_of (index + 1) names files i d own are.1 differ.1 named at)

-- calls for one of them
spares_by : {S : Type 0} (kind : StageKind S) (making : Making) (z now start a b : S) (index : ℕ) (name : List ℕ) (rows : List Row) (opened : List Opened) (file : FileOutput) → Still kind start a → IsFile kind making z now index name rows file
    → after_file index file ≤ length opened → ((own : Opened) → own.name ≡ name → opened_by file ≡ own ∷ [] → is_among (called opened) own.name ≡ true) → ((own : Opened) → own.name ≡ name → opened_by file ≡ own ∷ [] → All (λ (o : Opened). o.name ≡ own.name → o.base ≡ own.base) opened)
    → SparesBut kind opened start a → SparesFile kind file a b → SparesBut kind opened start b
spares_by {S} kind making z now start a b index name rows opened O.LeftAlone still is high there bases spares calls = subst (λ (s : S). SparesBut kind opened start s) (sym calls) spares
spares_by kind making z now start a b index name rows opened (O.Text text) still is high there bases spares calls =
    let number = is.output in
    let own : Opened = record { name = text.target.name; base = text.target.base } in
    spares_put kind opened text.target.output text.target.name text.target.base start a b still (omega (arith, number, high)) (there own is.called refl) (bases own is.called refl) spares calls

pub spares_at : {S : Type 0} (kind : StageKind S) (making : Making) (z now start a b : S) (rows_of : List ℕ → List Row) (names : List (List ℕ)) (files : List FileOutput) (i : ℕ) (name : List ℕ) (d : FileOutput) → Still kind start a
    → AreFiles kind making z now rows_of 0 names files → Differ names → i < length files → slice_get names i ≡ Some name → SparesBut kind (opened_in files) start a → SparesFile kind (get_or files i d) a b → SparesBut kind (opened_in files) start b
spares_at kind making z now start a b rows_of names files i name d still are differ less named spares calls =
    let place = file_at kind making z now rows_of 0 names files i name d are named in
    let high = place.high in
    spares_by kind making z now start a b place.at name (rows_of name) (opened_in files) (get_or files i d) still place.is (omega (arith, high))
    (λ own same at. there_at files i d own less at)
    (λ own same at. bases_at kind making z now rows_of 0 names files i d own are differ (named ∙ ap Some (sym same)) at)
    spares calls

pub way_takes : {S : Type 0} (kind : StageKind S) (making : Making) (rows_of rows_by : List ℕ → List Row) (names : List (List ℕ)) (start a b : S) (files : List FileOutput) (texts i : ℕ) (name : List ℕ) (row : Row) (new : FileOutput)
    → Differ names → i < length files → slice_get names i ≡ Some name → ((other : List ℕ) → other ≢ name → rows_by other ≡ rows_of other) → rows_by name ≡ rows_of name ++ row ∷ []
    → ((d : FileOutput) → TakesRow kind row (get_or files i d) new a b) → AreUnderWay kind making rows_of names start files texts a → AreUnderWay kind making rows_by names start (set files i new) texts b
way_takes kind making rows_of rows_by names start a b files texts i name row new differ less named others own takes way =
    let same = opened_set files i new (λ d. (takes d).opened) in
    let takes_row = takes new in
    record {
      texts_are = way.texts_are ∙ ap length (sym same);
      each = files_take kind making start a b rows_of rows_by row 0 names files i name new way.tells differ named others own takes way.each;
      tells = λ tells. takes_row.tells (way.tells tells);
      spares = subst (λ (l : List Opened). SparesBut kind l start b) (sym same) (spares_at kind making start a start a b rows_of names files i name new way.tells way.each differ less named way.spares takes_row.spares);
    }

-- they stop
pub stops_with : {S : Type 0} (kind : StageKind S) (making : Making) (start now b : S) (rows_of : List ℕ → List Row) (names : List (List ℕ)) (files : List FileOutput) → AreFiles kind making start now rows_of 0 names files → SparesBut kind (opened_in files) start b
    → StopsAmong kind making.mode names start b
stops_with kind making start now b rows_of names files are spares = record {
  opened = opened_in files;
  named = named_all kind making start now rows_of 0 names files are;
  bases = bases_all kind making start now rows_of 0 names files are;
  spares = spares;
}

pub way_stops : {S : Type 0} (kind : StageKind S) (making : Making) (rows_of : List ℕ → List Row) (names : List (List ℕ)) (start a : S) (files : List FileOutput) (texts : ℕ) → AreUnderWay kind making rows_of names start files texts a → StopsAmong kind making.mode names start a
way_stops kind making rows_of names start a files texts way = stops_with kind making start a a rows_of names files way.each way.spares

pub way_stops_asking : {S : Type 0} (kind : StageKind S) (making : Making) (rows_of : List ℕ → List Row) (names : List (List ℕ)) (start a b : S) (files : List FileOutput) (texts : ℕ) → KeepsStage kind a b → AreUnderWay kind making rows_of names start files texts a → StopsAmong kind making.mode names start b
way_stops_asking kind making rows_of names start a b files texts keeps way = stops_with kind making start a b rows_of names files way.each (spares_kept kind (opened_in files) start a b way.tells way.spares keeps)

pub stops_more : {S : Type 0} (kind : StageKind S) (mode : FileMode) (names more : List (List ℕ)) (start now : S) → ((name : List ℕ) → is_among names name ≡ true → is_among more name ≡ true) → StopsAmong kind mode names start now → StopsAmong kind mode more start now
stops_more kind mode names more start now among stops = record {
  opened = stops.opened;
  named = All-weaker (λ (o : Opened). is_among names o.name ≡ true) (λ (o : Opened). is_among more o.name ≡ true) (λ o there. among o.name there) stops.opened stops.named;
  bases = stops.bases;
  spares = stops.spares;
}
