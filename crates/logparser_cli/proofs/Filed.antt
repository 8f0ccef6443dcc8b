-- Files that hold the rows of a query, told as what each file holds.
use Rattle.std.proofs.Common.{◌≡◌, inl, inr, ◌≤◌, ◌+◌, ◌==◌, ℕ, Bool, true, false, true≢false, ◌||◌, List, [], ◌∷◌, ◌++◌, length, map, take, drop, All, refl, sym, ◌∙◌, ap, subst, arith, take-append-drop}
use Rattle.std.specs.Prelude.{bytes_eq}
use Rattle.std.proofs.lemmas.List.{append-nil, map-id, take_all}
use Rattle.std.proofs.lemmas.List.Elements.{All-nil, All-cons, All-head, All-tail}
use Rattle.std.proofs.lemmas.Slice.Eq.{bytes_eq-Decides}
use Rattle.disk_model.specs.Disk.{DiskState, Files as Contents}
use Rattle.command_words.specs.declared.modes.FileMode.{FileMode}
use Rattle.command_words.specs.declared.modes.FileMode.TheVariants as M
use Rattle.file_stage.specs.FileTexts.{AlwaysTells, EndsBy, IsThere, disk_of, file_state}
use Rattle.file_stage.specs.declared.putting.FileStage.{FileStage}
use Rattle.file_stage.proofs.Holding.{all_is_text, front_is_text, held_all, held_whole}
use Rattle.log_listing.specs.Firsts.{is_among}
use Rattle.lp_outside.specs.declared.stage.Mark.{Mark}
use Rattle.multiplex.specs.Splitting.{OutputRows, output_names, rows_named, split}
use Rattle.order_top.specs.Finish.{Row}
use Rattle.text_output.specs.Output.{StageKind, kind_of}
use Rattle.text_output.specs.declared.target.Output.{Output}
use Rattle.row_output.specs.Asked.{AreGood, Files, OutputText}
use Rattle.row_output.specs.Files.{ArePut, FilesHold, FilesStop, IsBase, IsLeftAlone, IsPut, Opened, SparesBut, opened_of}
use Rattle.logparser_cli.specs.Files.{AreLeft, AreWritten, IsAfter, IsLeft, file_after}

-- files as a stage
abbrev pub file_kind : {D : Type 0} → (D → DiskState) → StageKind (FileStage D)
file_kind state = kind_of (file_state state) (EndsBy state)

abbrev pub seen_by : {D : Type 0} → (D → DiskState) → FileStage D → Contents
seen_by state s = (disk_of state s).seen

abbrev mark_at : ℕ → Mark
mark_at size = record { last = 0; length = size }

abbrev called : List Opened → List (List ℕ)
called opened = map (λ (o : Opened). o.name) opened

-- what ends where the text of an output begins stays
abbrev Front : {D : Type 0} → (D → DiskState) → ℕ → FileStage D → FileStage D → Opened → Type 0
Front state count start now o = (disk_of state start).tells → (output : ℕ) (base : ℕ) (mark : Mark) (text : List ℕ) → count ≤ output → base + mark.length ≤ o.base
    → IsThere (seen_by state start o.name) base mark.length text → IsThere (seen_by state now o.name) base mark.length text

-- a file of no output stays
other_stays : {D : Type 0} (state : D → DiskState) (opened : List Opened) (start now : FileStage D) (name : List ℕ) → AlwaysTells state → SparesBut (file_kind state) opened start now → is_among (called opened) name ≡ false
    → seen_by state now name ≡ seen_by state start name
other_stays state opened start now name always spares off =
    let old : List ℕ = seen_by state start name in
    let tells = always start.disk.now in
    let there = spares.others tells (length opened) name 0 (mark_at (length old)) old (omega arith) off (all_is_text old) in
    held_all old (seen_by state now name) there ((spares.lengths tells name (length old) off).0 (λ told. refl) (always now.disk.now))

-- where the text of an output begins, by what its file held
abbrev BeginsAt : FileMode → List ℕ → ℕ → Type 0
BeginsAt M.Append old base = base ≡ length old
BeginsAt M.Overwrite old base = base ≡ 0
BeginsAt M.LeaveAlone old base = (base ≡ 0) × (0 ≡ length old)

begins_at : {D : Type 0} (state : D → DiskState) (mode : FileMode) (start : FileStage D) (name : List ℕ) (base : ℕ) → AlwaysTells state → IsBase (file_kind state) mode start name base → BeginsAt mode (seen_by state start name) base
begins_at state M.Append start name base always is = is (always start.disk.now) (always start.disk.now)
begins_at state M.Overwrite start name base always is = is
begins_at state M.LeaveAlone start name base always is = (is.0, is.1 (always start.disk.now) (always start.disk.now))

within_file : (mode : FileMode) (old : List ℕ) (base : ℕ) → BeginsAt mode old base → base ≤ length old
within_file M.Append old base is = omega (arith, is)
within_file M.Overwrite old base is = omega (arith, is)
within_file M.LeaveAlone old base is = omega (arith, is.0)

-- the bytes before the base and the text are the file behind the run
after_is : (mode : FileMode) (text : OutputText) (rows : List Row) (old : List ℕ) (base : ℕ) → BeginsAt mode old base → take base old ++ text (base == 0) rows ≡ file_after mode text rows old
after_is M.Append text rows old base is =
    subst (λ (b : ℕ). take b old ++ text (b == 0) rows ≡ old ++ text (length old == 0) rows) (sym is) (ap (λ (l : List ℕ). l ++ text (length old == 0) rows) (take_all (length old) old (omega arith)))
after_is M.Overwrite text rows old base is = subst (λ (b : ℕ). take b old ++ text (b == 0) rows ≡ text true rows) (sym is) refl
after_is M.LeaveAlone text rows [] base is = subst (λ (b : ℕ). take b [] ++ text (b == 0) rows ≡ text true rows) (sym is.0) refl
after_is M.LeaveAlone text rows (byte ∷ old) base is = absurd (omega (arith, is.1))

put_after : {D : Type 0} (state : D → DiskState) (files : Files) (text : OutputText) (count index : ℕ) (start now : FileStage D) (rows : OutputRows) (output : Output) → AlwaysTells state
    → IsPut (file_kind state) files text index start now rows output → Front state count start now (opened_of output) → IsAfter files text (seen_by state start) (seen_by state now) rows
put_after state files text count index start now rows output always put front =
    let old : List ℕ = seen_by state start rows.name in
    let at = begins_at state files.mode start rows.name output.base always put.base in
    let within = within_file files.mode old output.base at in
    let is = after_is files.mode text rows.rows old output.base at in
    let there = put.stands (always start.disk.now) in
    let kept : (name : List ℕ) → output.name ≡ name → output.base ≤ length (seen_by state start name) → IsThere (seen_by state now name) 0 output.base (take output.base (seen_by state start name)) =
    λ name same. subst (λ (n : List ℕ). output.base ≤ length (seen_by state start n) → IsThere (seen_by state now n) 0 output.base (take output.base (seen_by state start n))) same
    (λ most. front (always start.disk.now) count 0 (mark_at output.base) (take output.base (seen_by state start output.name)) (omega arith) (omega arith) (front_is_text (seen_by state start output.name) output.base most)) in
    held_whole old (seen_by state now rows.name) output.base output.mark.length (text (output.base == 0) rows.rows) within (kept rows.name put.name within) there.1 (put.ended always) ∙ is

-- a fact on one of those that are called by a name
with_called : {A : Type 0} (name_of : A → List ℕ) (P : A → Type 0) (all : List A) (name : List ℕ) (C : Type 0) → All P all → is_among (map name_of all) name ≡ true → ((a : A) → name_of a ≡ name → P a → C) → C
with_called name_of P [] name C holds there so = absurd (true≢false (sym there))
with_called {A} name_of P (a ∷ all) name C holds there so = decide (bytes_eq name (name_of a)) refl (λ later. with_called name_of P all name C (All-tail P a all holds) later so)
  where
    decide : (d : Bool) → bytes_eq name (name_of a) ≡ d → (is_among (map name_of all) name ≡ true → C) → C
    decide true e rest = so a (sym ((bytes_eq-Decides name (name_of a)).0 e)) (All-head P a all holds)
    decide false e rest = rest (sym (ap (λ (b : Bool). b || is_among (map name_of all) name) e) ∙ there)

-- a fact on an output that has a name
with_name : (P : Opened → Type 0) (opened : List Opened) (name : List ℕ) (C : Type 0) → All P opened → is_among (called opened) name ≡ true → ((o : Opened) → o.name ≡ name → P o → C) → C
with_name P opened name C all there so = with_called (λ (o : Opened). o.name) P opened name C all there so

-- the outputs that have rows begin where they may
bases_put : {D : Type 0} (state : D → DiskState) (files : Files) (text : OutputText) (start now : FileStage D) (index : ℕ) (rows : List OutputRows) (outputs : List Output) → ArePut (file_kind state) files text start now index rows outputs
    → All (λ (o : Opened). IsBase (file_kind state) files.mode start o.name o.base) (map opened_of outputs)
bases_put state files text start now index [] [] are = All-nil (λ (o : Opened). IsBase (file_kind state) files.mode start o.name o.base)
bases_put state files text start now index [] (output ∷ outputs) are = absurd are
bases_put state files text start now index (r ∷ rows) [] are = bases_put state files text start now index rows [] are.1
bases_put state files text start now index (r ∷ rows) (output ∷ outputs) (inl (alone, more)) = bases_put state files text start now index rows (output ∷ outputs) more
bases_put state files text start now index (r ∷ rows) (output ∷ outputs) (inr (put, more)) =
    All-cons (λ (o : Opened). IsBase (file_kind state) files.mode start o.name o.base) (opened_of output) (map opened_of outputs)
    (subst (λ (n : List ℕ). IsBase (file_kind state) files.mode start n output.base) (sym put.name) put.base)
    (bases_put state files text start now (index + 1) rows outputs more)

-- a file that was left alone is as it was
alone_after : {D : Type 0} (state : D → DiskState) (mode : FileMode) (text : OutputText) (rows : List Row) (start : FileStage D) (name new : List ℕ) → AlwaysTells state → IsLeftAlone (file_kind state) mode start name
    → new ≡ seen_by state start name → new ≡ file_after mode text rows (seen_by state start name)
alone_after state M.Append text rows start name new always alone same = absurd alone
alone_after state M.Overwrite text rows start name new always alone same = absurd alone
alone_after state M.LeaveAlone text rows start name new always (bytes, some, had) same =
    same ∙ stays (seen_by state start name) (had (always start.disk.now) (always start.disk.now))
  where
    stays : (old : List ℕ) → bytes ≡ length old → old ≡ file_after M.LeaveAlone text rows old
    stays [] is = absurd (omega (arith, is, some))
    stays (byte ∷ old) is = refl

alone_stays : {D : Type 0} (state : D → DiskState) (mode : FileMode) (opened : List Opened) (start now : FileStage D) (name : List ℕ) → AlwaysTells state → SparesBut (file_kind state) opened start now
    → All (λ (o : Opened). IsBase (file_kind state) mode start o.name o.base) opened → IsLeftAlone (file_kind state) mode start name → seen_by state now name ≡ seen_by state start name
alone_stays state M.Append opened start now name always spares bases alone = absurd alone
alone_stays state M.Overwrite opened start now name always spares bases alone = absurd alone
alone_stays state M.LeaveAlone opened start now name always spares bases (bytes, some, had) = decide (is_among (called opened) name) refl
  where
    decide : (d : Bool) → is_among (called opened) name ≡ d → seen_by state now name ≡ seen_by state start name
    decide false off = other_stays state opened start now name always spares off
    decide true there =
        with_name (λ (o : Opened). IsBase (file_kind state) M.LeaveAlone start o.name o.base) opened name (seen_by state now name ≡ seen_by state start name) bases there
        (λ o same base.
        let empty : 0 ≡ length (seen_by state start name) = (begins_at state M.LeaveAlone start o.name o.base always base).1 ∙ ap (λ (n : List ℕ). length (seen_by state start n)) same in
        absurd (omega (arith, empty, some, had (always start.disk.now) (always start.disk.now))))

-- each output's file is as the mode wants it
each_after : {D : Type 0} (state : D → DiskState) (files : Files) (text : OutputText) (count index : ℕ) (start now : FileStage D) (rows : List OutputRows) (outputs : List Output) → AlwaysTells state
    → ((name : List ℕ) → IsLeftAlone (file_kind state) files.mode start name → seen_by state now name ≡ seen_by state start name)
    → ArePut (file_kind state) files text start now index rows outputs → All (Front state count start now) (map opened_of outputs) → All (IsAfter files text (seen_by state start) (seen_by state now)) rows
each_after state files text count index start now [] [] always alone are fronts = All-nil (IsAfter files text (seen_by state start) (seen_by state now))
each_after state files text count index start now [] (output ∷ outputs) always alone are fronts = absurd are
each_after state files text count index start now (r ∷ rows) [] always alone are fronts =
    All-cons (IsAfter files text (seen_by state start) (seen_by state now)) r rows
    (alone_after state files.mode text r.rows start r.name (seen_by state now r.name) always are.0 (alone r.name are.0))
    (each_after state files text count index start now rows [] always alone are.1 fronts)
each_after state files text count index start now (r ∷ rows) (output ∷ outputs) always alone (inl (left, more)) fronts =
    All-cons (IsAfter files text (seen_by state start) (seen_by state now)) r rows
    (alone_after state files.mode text r.rows start r.name (seen_by state now r.name) always left (alone r.name left))
    (each_after state files text count index start now rows (output ∷ outputs) always alone more fronts)
each_after state files text count index start now (r ∷ rows) (output ∷ outputs) always alone (inr (put, more)) fronts =
    All-cons (IsAfter files text (seen_by state start) (seen_by state now)) r rows
    (put_after state files text count index start now r output always put (All-head (Front state count start now) (opened_of output) (map opened_of outputs) fronts))
    (each_after state files text count (index + 1) start now rows outputs always alone more (All-tail (Front state count start now) (opened_of output) (map opened_of outputs) fronts))

or_false : (a b : Bool) → a ≡ false → b ≡ false → (a || b) ≡ false
or_false a b e f = ap (λ (c : Bool). c || b) e ∙ f

first_off : (a b : Bool) → (a || b) ≡ false → a ≡ false
first_off true b e = e
first_off false b e = refl

later_off : (a b : Bool) → (a || b) ≡ false → b ≡ false
later_off true b e = absurd (true≢false e)
later_off false b e = e

abbrev names_in : List OutputRows → List (List ℕ)
names_in rows = map (λ (o : OutputRows). o.name) rows

-- a name that no rows have is none of an output
off_put : {D : Type 0} (state : D → DiskState) (files : Files) (text : OutputText) (start now : FileStage D) (index : ℕ) (rows : List OutputRows) (outputs : List Output) (name : List ℕ) → ArePut (file_kind state) files text start now index rows outputs
    → is_among (names_in rows) name ≡ false → is_among (called (map opened_of outputs)) name ≡ false
off_put state files text start now index [] [] name are off = refl
off_put state files text start now index [] (output ∷ outputs) name are off = absurd are
off_put state files text start now index (r ∷ rows) [] name are off = refl
off_put state files text start now index (r ∷ rows) (output ∷ outputs) name (inl (alone, more)) off =
    off_put state files text start now index rows (output ∷ outputs) name more (later_off (bytes_eq name r.name) (is_among (names_in rows) name) off)
off_put state files text start now index (r ∷ rows) (output ∷ outputs) name (inr (put, more)) off =
    or_false (bytes_eq name output.name) (is_among (called (map opened_of outputs)) name)
    (ap (bytes_eq name) put.name ∙ first_off (bytes_eq name r.name) (is_among (names_in rows) name) off)
    (off_put state files text start now (index + 1) rows outputs name more (later_off (bytes_eq name r.name) (is_among (names_in rows) name) off))

names_with : (pattern : List ℕ) (rows : List Row) (names : List (List ℕ)) → names_in (map (λ (name : List ℕ). record { name = name; rows = rows_named pattern rows name }) names) ≡ names
names_with pattern rows [] = refl
names_with pattern rows (name ∷ names) = ap (λ (l : List (List ℕ)). name ∷ l) (names_with pattern rows names)

-- the names of the outputs of rows
pub names_split : (pattern : List ℕ) (rows : List Row) → names_in (split pattern rows) ≡ output_names pattern rows
names_split pattern rows = names_with pattern rows (output_names pattern rows)

-- what files hold as a stage they hold as files
pub are_written : {D : Type 0} (state : D → DiskState) (files : Files) (text : OutputText) (rows : List Row) (outputs : List Output) (start now : FileStage D) → FilesHold (file_kind state) files text start rows outputs now → AlwaysTells state
    → AreWritten files text rows (seen_by state start) (seen_by state now)
are_written state files text rows outputs start now holds always =
    let opened : List Opened = map opened_of outputs in
    let bases = bases_put state files text start now 0 (split files.pattern rows) outputs holds.put in
    record {
      each = each_after state files text (length opened) 0 start now (split files.pattern rows) outputs always
          (λ name alone. alone_stays state files.mode opened start now name always holds.spares bases alone) holds.put holds.spares.fronts;
      others = λ name off. other_stays state opened start now name always holds.spares
          (off_put state files text start now 0 (split files.pattern rows) outputs name holds.put (ap (λ (l : List (List ℕ)). is_among l name) (names_split files.pattern rows) ∙ off));
    }

-- a file that stayed
same_left : (mode : FileMode) (old new : List ℕ) → new ≡ old → IsLeft mode old new
same_left M.Append old new same = ([], same ∙ sym (append-nil old))
same_left M.Overwrite old new same = tt
same_left M.LeaveAlone [] new same = tt
same_left M.LeaveAlone (byte ∷ old) new same = same

-- a file that kept what stood before the place where a text begins
front_left : (mode : FileMode) (old new : List ℕ) (base : ℕ) → BeginsAt mode old base → IsThere new 0 base (take base old) → IsLeft mode old new
front_left M.Append old new base is there =
    let whole : take base old ≡ old = take_all base old (omega (arith, is)) in
    (drop base new, sym (take-append-drop base new) ∙ ap (λ (l : List ℕ). l ++ drop base new) (sym there.same ∙ whole))
front_left M.Overwrite old new base is there = tt
front_left M.LeaveAlone [] new base is there = tt
front_left M.LeaveAlone (byte ∷ old) new base is there = absurd (omega (arith, is.1))

-- what a stop leaves of files as a stage it leaves of files
pub are_left : {D : Type 0} (state : D → DiskState) (files : Files) (rows : List Row) (start now : FileStage D) → FilesStop (file_kind state) files start rows now → AlwaysTells state
    → AreLeft files rows (seen_by state start) (seen_by state now)
are_left {D} state files rows start now stop always = record { each = each; free = free; others = others }
  where
    Kept : Opened → Type 0
    Kept o = IsBase (file_kind state) files.mode start o.name o.base × Front state (length stop.opened) start now o

    kept : All Kept stop.opened
    kept = λ k d within. (stop.bases k d within, stop.spares.fronts k d within)

    left : (o : Opened) → Kept o → IsLeft files.mode (seen_by state start o.name) (seen_by state now o.name)
    left o (base, front) =
        let at = begins_at state files.mode start o.name o.base always base in
        let most = within_file files.mode (seen_by state start o.name) o.base at in
        front_left files.mode (seen_by state start o.name) (seen_by state now o.name) o.base at
        (front (always start.disk.now) (length stop.opened) 0 (mark_at o.base) (take o.base (seen_by state start o.name)) (omega arith) (omega arith) (front_is_text (seen_by state start o.name) o.base most))

    by : (name : List ℕ) (d : Bool) → is_among (called stop.opened) name ≡ d → IsLeft files.mode (seen_by state start name) (seen_by state now name)
    by name false off = same_left files.mode (seen_by state start name) (seen_by state now name) (other_stays state stop.opened start now name always stop.spares off)
    by name true there =
        with_name Kept stop.opened name (IsLeft files.mode (seen_by state start name) (seen_by state now name)) kept there
        (λ o same k. subst (λ (n : List ℕ). IsLeft files.mode (seen_by state start n) (seen_by state now n)) same (left o k))

    each : (name : List ℕ) → IsLeft files.mode (seen_by state start name) (seen_by state now name)
    each name = by name (is_among (called stop.opened) name) refl

    kept_off : (name : List ℕ) (d : Bool) → is_among (called stop.opened) name ≡ d → is_among files.forbidden name ≡ true → seen_by state now name ≡ seen_by state start name
    kept_off name false off forbidden = other_stays state stop.opened start now name always stop.spares off
    kept_off name true there forbidden =
        with_name (λ (o : Opened). is_among files.forbidden o.name ≡ false) stop.opened name (seen_by state now name ≡ seen_by state start name) stop.free there
        (λ o same off. absurd (true≢false (sym forbidden ∙ (ap (is_among files.forbidden) (sym same) ∙ off))))

    free : (name : List ℕ) → is_among files.forbidden name ≡ true → seen_by state now name ≡ seen_by state start name
    free name forbidden = kept_off name (is_among (called stop.opened) name) refl forbidden

    other : (name : List ℕ) (d : Bool) → is_among (called stop.opened) name ≡ d → is_among (output_names files.pattern rows) name ≡ false → seen_by state now name ≡ seen_by state start name
    other name false off none = other_stays state stop.opened start now name always stop.spares off
    other name true there none =
        with_name (λ (o : Opened). is_among (names_in (split files.pattern rows)) o.name ≡ true) stop.opened name (seen_by state now name ≡ seen_by state start name) stop.named there
        (λ o same named. absurd (true≢false (sym named ∙ (ap (is_among (names_in (split files.pattern rows))) same ∙ (ap (λ (l : List (List ℕ)). is_among l name) (names_split files.pattern rows) ∙ none)))))

    others : (name : List ℕ) → is_among (output_names files.pattern rows) name ≡ false → seen_by state now name ≡ seen_by state start name
    others name none = other name (is_among (called stop.opened) name) refl none

-- a file that has the text of its rows
after_left : (mode : FileMode) (text : OutputText) (rows : List Row) (old new : List ℕ) → new ≡ file_after mode text rows old → IsLeft mode old new
after_left M.Append text rows old new is = (text (length old == 0) rows, is)
after_left M.Overwrite text rows old new is = tt
after_left M.LeaveAlone text rows [] new is = tt
after_left M.LeaveAlone text rows (byte ∷ old) new is = is

-- files that were written whole are such as a stop leaves
pub written_left : (files : Files) (text : OutputText) (rows : List Row) (before now : Contents) → AreGood files.forbidden (output_names files.pattern rows) → AreWritten files text rows before now → AreLeft files rows before now
written_left files text rows before now good written = record {
  each = λ name. each name (is_among (output_names files.pattern rows) name) refl;
  free = λ name forbidden. free name (is_among (output_names files.pattern rows) name) refl forbidden;
  others = written.others;
}
  where
    each : (name : List ℕ) (d : Bool) → is_among (output_names files.pattern rows) name ≡ d → IsLeft files.mode (before name) (now name)
    each name false off = same_left files.mode (before name) (now name) (written.others name off)
    each name true there =
        with_called (λ (r : OutputRows). r.name) (IsAfter files text before now) (split files.pattern rows) name (IsLeft files.mode (before name) (now name)) written.each
        (ap (λ (l : List (List ℕ)). is_among l name) (names_split files.pattern rows) ∙ there)
        (λ r same is. subst (λ (n : List ℕ). IsLeft files.mode (before n) (now n)) same (after_left files.mode text r.rows (before r.name) (now r.name) is))

    free : (name : List ℕ) (d : Bool) → is_among (output_names files.pattern rows) name ≡ d → is_among files.forbidden name ≡ true → now name ≡ before name
    free name false off forbidden = written.others name off
    free name true there forbidden =
        with_called (λ (n : List ℕ). n) (λ (n : List ℕ). is_among files.forbidden n ≡ false) (output_names files.pattern rows) name (now name ≡ before name) good.free
        (ap (λ (l : List (List ℕ)). is_among l name) (map-id (output_names files.pattern rows)) ∙ there)
        (λ n same off. absurd (true≢false (sym forbidden ∙ (ap (is_among files.forbidden) (sym same) ∙ off))))
