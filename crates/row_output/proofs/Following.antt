-- Outputs that are on their way, over calls for one of them.
use Rattle.std.proofs.Common.{◌≡◌, ◌≢◌, ◌<◌, ◌≤◌, ◌+◌, ℕ, zero, suc, Bool, true, false, true≢false, ◌||◌, List, [], ◌∷◌, ◌++◌, length, map, All, set, get_or, slice_get, Some, refl, sym, ◌∙◌, ap, subst, arith, length-append}
use Rattle.std.specs.Prelude.{bytes_eq}
use Rattle.std.specs.Cmp.Lexicographic.{nat_list_eq_equiv}
use Rattle.std.proofs.lemmas.List.Elements.{All-nil, All-cons, All-append}
use Rattle.std.proofs.lemmas.Slice.Eq.{bytes_eq-Decides}
use Rattle.command_words.specs.declared.modes.FileMode.{FileMode}
use Rattle.command_words.specs.declared.modes.FileMode.TheVariants as M
use Rattle.log_listing.specs.Firsts.{is_among}
use Rattle.multiplex.proofs.Distinct.{Differ}
use Rattle.order_top.specs.Finish.{Row}
use Rattle.text_output.specs.Output.{StageKind, Spares}
use Rattle.row_output.specs.declared.file_output.FileOutput.{FileOutput}
use Rattle.row_output.specs.declared.file_output.FileOutput.TheVariants as O
use Rattle.row_output.specs.Files.{IsBase, IsLeftAlone, HadLength, Opened, SparesBut}
use Rattle.row_output.specs.FileTexts.{Making, IsFile, AreFiles, AreUnderWay, StopsAmong, KeepsStage, SparesFile, TakesRow, after_file, opened_by, opened_in}
use Rattle.row_output.proofs.Sparing.{off_names, off_front, called, spares_kept, spares_more, spares_put}

-- what is true of a stage where it tells stays so
abbrev pub Still : {S : Type 0} → StageKind S → S → S → Type 0
Still kind before now = (kind.state before).tells → (kind.state now).tells

-- a call that asks keeps an output as it is
pub file_kept : {S : Type 0} (kind : StageKind S) (making : Making) (start a b : S) (index : ℕ) (name : List ℕ) (rows : List Row) (file : FileOutput) → Still kind start a → KeepsStage kind a b
    → IsFile kind making start a index name rows file → IsFile kind making start b index name rows file
file_kept kind making start a b index name rows O.LeftAlone still keeps is = is
file_kept kind making start a b index name rows (O.Text text) still keeps is = record {
  output = is.output;
  called = is.called;
  base = is.base;
  format = is.format;
  done = is.done;
  size = is.size;
  stands = λ tells. let kept = keeps.texts (still tells) in (kept.tells, kept.all index name text.target.base text.target.mark is.done (is.stands tells).1);
  so_far = is.so_far;
}

-- calls for another output do too
pub file_spared : {S : Type 0} (kind : StageKind S) (making : Making) (start a b : S) (index : ℕ) (name : List ℕ) (rows : List Row) (file : FileOutput) (other : ℕ) (another : List ℕ) (place : ℕ) → Still kind start a → Still kind a b
    → Spares kind other another place a b → (after_file index file ≢ index → index ≢ other) → name ≢ another → IsFile kind making start a index name rows file → IsFile kind making start b index name rows file
file_spared kind making start a b index name rows O.LeftAlone other another place still on calls off differ is = is
file_spared kind making start a b index name rows (O.Text text) other another place still on calls off differ is =
    let one : index + 1 ≢ index = λ same. omega (arith, same) in
    record {
      output = is.output;
      called = is.called;
      base = is.base;
      format = is.format;
      done = is.done;
      size = is.size;
      stands = λ tells. (on (still tells), calls.others (still tells) index name text.target.base text.target.mark is.done (off one) differ (is.stands tells).1);
      so_far = is.so_far;
    }

-- numbers of outputs grow
pub after_more : (index : ℕ) (file : FileOutput) → index ≤ after_file index file
after_more index O.LeftAlone = omega arith
after_more index (O.Text text) = omega arith

pub after_opened : (index : ℕ) (one other : FileOutput) → opened_by one ≡ opened_by other → after_file index one ≡ after_file index other
after_opened index O.LeftAlone O.LeftAlone same = refl
after_opened index O.LeftAlone (O.Text text) same = absurd (cc)
after_opened index (O.Text text) O.LeftAlone same = absurd (cc)
after_opened index (O.Text one) (O.Text other) same = refl

pub after_length : (index : ℕ) (file : FileOutput) → after_file index file ≡ index + length (opened_by file)
after_length index O.LeftAlone = omega arith
after_length index (O.Text text) = refl

-- the outputs after a call that asks
pub files_kept : {S : Type 0} (kind : StageKind S) (making : Making) (start a b : S) (rows_of : List ℕ → List Row) (index : ℕ) (names : List (List ℕ)) (files : List FileOutput) → Still kind start a → KeepsStage kind a b
    → AreFiles kind making start a rows_of index names files → AreFiles kind making start b rows_of index names files
files_kept kind making start a b rows_of index [] [] still keeps are = are
files_kept kind making start a b rows_of index [] (file ∷ files) still keeps are = are
files_kept kind making start a b rows_of index (name ∷ names) [] still keeps are = are
files_kept kind making start a b rows_of index (name ∷ names) (file ∷ files) still keeps are =
    (file_kept kind making start a b index name (rows_of name) file still keeps are.0, files_kept kind making start a b rows_of (after_file index file) names files still keeps are.1)

or_right : (a b : Bool) → (a || b) ≡ false → b ≡ false
or_right true b e = absurd (true≢false e)
or_right false b e = e

or_first : (a b : Bool) → (a || b) ≡ false → a ≡ false
or_first true b e = e
or_first false b e = refl

-- a name that isn't among some
pub off_head : (name : List ℕ) (names : List (List ℕ)) (other : List ℕ) → is_among (name ∷ names) other ≡ false → name ≢ other
off_head name names other off same = true≢false (sym (nat_list_eq_equiv.refl other) ∙ (ap (bytes_eq other) (sym same) ∙ or_first (bytes_eq other name) (is_among names other) off))

pub off_tail : (name : List ℕ) (names : List (List ℕ)) (other : List ℕ) → is_among (name ∷ names) other ≡ false → is_among names other ≡ false
off_tail name names other off = or_right (bytes_eq other name) (is_among names other) off

-- the outputs behind one after calls for it
pub files_spared : {S : Type 0} (kind : StageKind S) (making : Making) (start a b : S) (rows_of : List ℕ → List Row) (index : ℕ) (names : List (List ℕ)) (files : List FileOutput) (other : ℕ) (another : List ℕ) (place : ℕ) → Still kind start a → Still kind a b
    → Spares kind other another place a b → other < index → is_among names another ≡ false → AreFiles kind making start a rows_of index names files → AreFiles kind making start b rows_of index names files
files_spared kind making start a b rows_of index [] [] other another place still on calls less off are = are
files_spared kind making start a b rows_of index [] (file ∷ files) other another place still on calls less off are = are
files_spared kind making start a b rows_of index (name ∷ names) [] other another place still on calls less off are = are
files_spared kind making start a b rows_of index (name ∷ names) (file ∷ files) other another place still on calls less off are = (
  file_spared kind making start a b index name (rows_of name) file other another place still on calls (λ _ same. omega (arith, less, same)) (off_head name names another off) are.0,
  let more = after_more index file in
      files_spared kind making start a b rows_of (after_file index file) names files other another place still on calls (omega (arith, less, more)) (off_tail name names another off) are.1,
)

-- the same, whatever the output is
pub behind_spared : {S : Type 0} (kind : StageKind S) (making : Making) (start a b : S) (rows_of : List ℕ → List Row) (index : ℕ) (name : List ℕ) (rows : List Row) (file : FileOutput) (names : List (List ℕ)) (files : List FileOutput) → Still kind start a → Still kind a b
    → IsFile kind making start a index name rows file → SparesFile kind file a b → is_among names name ≡ false → AreFiles kind making start a rows_of (after_file index file) names files → AreFiles kind making start b rows_of (after_file index file) names files
behind_spared {S} kind making start a b rows_of index name rows O.LeftAlone names files still on is calls off are = subst (λ (s : S). AreFiles kind making start s rows_of index names files) (sym calls) are
behind_spared kind making start a b rows_of index name rows (O.Text text) names files still on is calls off are =
    let number = is.output in
    files_spared kind making start a b rows_of (index + 1) names files text.target.output text.target.name text.target.base still on calls (omega (arith, number)) (ap (is_among names) is.called ∙ off) are

-- an output in front of one after calls for that
pub front_spared : {S : Type 0} (kind : StageKind S) (making : Making) (start a b : S) (index : ℕ) (name : List ℕ) (rows : List Row) (file : FileOutput) (at : ℕ) (own : List ℕ) (own_rows : List Row) (one : FileOutput) → Still kind start a → Still kind a b
    → IsFile kind making start a at own own_rows one → SparesFile kind one a b → after_file index file ≤ at → name ≢ own → IsFile kind making start a index name rows file → IsFile kind making start b index name rows file
front_spared {S} kind making start a b index name rows file at own own_rows O.LeftAlone still on is_one calls low differ is = subst (λ (s : S). IsFile kind making start s index name rows file) (sym calls) is
front_spared kind making start a b index name rows file at own own_rows (O.Text text) still on is_one calls low differ is =
    let number = is_one.output in
    let more = after_more index file in
    file_spared kind making start a b index name rows file text.target.output text.target.name text.target.base still on calls (λ grows same. grows (omega (arith, number, low, more, same))) (λ same. differ (same ∙ is_one.called)) is

-- The output at a place, among those that are numbered from an index.
pub record IsAt {S : Type 0} (kind : StageKind S) (making : Making) (start now : S) (index bound : ℕ) (name : List ℕ) (rows : List Row) (file : FileOutput) : Type 0 where
  pub at : ℕ
  pub low : index ≤ at
  pub high : after_file at file ≤ bound
  pub is : IsFile kind making start now at name rows file

some_same : (one other : List ℕ) → Some one ≡ Some other → one ≡ other
some_same one other same = cc

pub file_at : {S : Type 0} (kind : StageKind S) (making : Making) (start now : S) (rows_of : List ℕ → List Row) (index : ℕ) (names : List (List ℕ)) (files : List FileOutput) (i : ℕ) (name : List ℕ) (d : FileOutput)
    → AreFiles kind making start now rows_of index names files → slice_get names i ≡ Some name → IsAt kind making start now index (index + length (opened_in files)) name (rows_of name) (get_or files i d)
file_at kind making start now rows_of index [] [] i name d are at = absurd (cc)
file_at kind making start now rows_of index [] (file ∷ files) i name d are at = absurd are
file_at kind making start now rows_of index (own ∷ names) [] i name d are at = absurd are
file_at kind making start now rows_of index (own ∷ names) (file ∷ files) zero name d are at =
    let same = some_same own name at in
    let long = length-append (opened_by file) (opened_in files) in
    let after = after_length index file in
    record {
      at = index;
      low = omega arith;
      high = omega (arith, long, after);
      is = subst (λ (n : List ℕ). IsFile kind making start now index n (rows_of n) file) same are.0;
    }
file_at kind making start now rows_of index (own ∷ names) (file ∷ files) (suc i) name d are at =
    let rest = file_at kind making start now rows_of (after_file index file) names files i name d are.1 at in
    let long = length-append (opened_by file) (opened_in files) in
    let after = after_length index file in
    let low = rest.low in
    let high = rest.high in
    record {
      at = rest.at;
      low = omega (arith, low, after);
      high = omega (arith, high, long, after);
      is = rest.is;
    }

-- what takes a row spares
file_takes : {S : Type 0} (kind : StageKind S) (making : Making) (start a b : S) (index : ℕ) (name : List ℕ) (rows : List Row) (row : Row) (old new : FileOutput) → TakesRow kind row old new a b → IsFile kind making start a index name rows old → IsFile kind making start b index name (rows ++ row ∷ []) new
file_takes kind making start a b index name rows row old new takes is = takes.takes making start index name rows is

-- the outputs have the same rows where they have the same rows by name
pub files_rows : {S : Type 0} (kind : StageKind S) (making : Making) (start now : S) (rows_of rows_by : List ℕ → List Row) (index : ℕ) (names : List (List ℕ)) (files : List FileOutput) → ((name : List ℕ) → is_among names name ≡ true → rows_by name ≡ rows_of name)
    → AreFiles kind making start now rows_of index names files → AreFiles kind making start now rows_by index names files
files_rows kind making start now rows_of rows_by index [] [] same are = are
files_rows kind making start now rows_of rows_by index [] (file ∷ files) same are = are
files_rows kind making start now rows_of rows_by index (name ∷ names) [] same are = are
files_rows kind making start now rows_of rows_by index (name ∷ names) (file ∷ files) same are = (
  subst (λ (rows : List Row). IsFile kind making start now index name rows file) (sym (same name (ap (λ (b : Bool). b || is_among names name) (nat_list_eq_equiv.refl name)))) are.0,
  files_rows kind making start now rows_of rows_by (after_file index file) names files (λ other there. same other (ap (λ (b : Bool). bytes_eq other name || b) there ∙ or_true (bytes_eq other name))) are.1,
)
  where
    or_true : (b : Bool) → (b || true) ≡ true
    or_true true = refl
    or_true false = refl

-- a name at a place is among them
pub among_at : (names : List (List ℕ)) (i : ℕ) (name : List ℕ) → slice_get names i ≡ Some name → is_among names name ≡ true
among_at [] i name at = absurd (cc)
among_at (x ∷ xs) zero name at = ap (is_among (x ∷ xs)) (sym (some_same x name at)) ∙ ap (λ (b : Bool). b || is_among xs x) (nat_list_eq_equiv.refl x)
among_at (x ∷ xs) (suc i) name at = ap (λ (b : Bool). bytes_eq name x || b) (among_at xs i name at) ∙ or_true (bytes_eq name x)
  where
    or_true : (b : Bool) → (b || true) ≡ true
    or_true true = refl
    or_true false = refl

-- one of the outputs takes a row
pub files_take : {S : Type 0} (kind : StageKind S) (making : Making) (start a b : S) (rows_of rows_by : List ℕ → List Row) (row : Row) (index : ℕ) (names : List (List ℕ)) (files : List FileOutput) (i : ℕ) (name : List ℕ) (new : FileOutput) → Still kind start a
    → Differ names → slice_get names i ≡ Some name → ((other : List ℕ) → other ≢ name → rows_by other ≡ rows_of other) → rows_by name ≡ rows_of name ++ row ∷ []
    → ((d : FileOutput) → TakesRow kind row (get_or files i d) new a b) → AreFiles kind making start a rows_of index names files → AreFiles kind making start b rows_by index names (set files i new)
files_take kind making start a b rows_of rows_by row index [] [] i name new still differ at others own takes are = absurd (cc)
files_take kind making start a b rows_of rows_by row index [] (file ∷ files) i name new still differ at others own takes are = absurd are
files_take kind making start a b rows_of rows_by row index (first ∷ names) [] i name new still differ at others own takes are = absurd are
files_take kind making start a b rows_of rows_by row index (first ∷ names) (file ∷ files) zero name new still differ at others own takes are =
    let same = some_same first name at in
    let takes_row = takes file in
    let after = sym (after_opened index new file takes_row.opened) in
    let off : is_among names name ≡ false = ap (is_among names) (sym same) ∙ differ.0 in
    let rest = behind_spared kind making start a b rows_of index first (rows_of first) file names files still takes_row.tells are.0 takes_row.spares differ.0 are.1 in
    let rows : rows_by first ≡ rows_of first ++ row ∷ [] = ap rows_by same ∙ (own ∙ ap (λ (n : List ℕ). rows_of n ++ row ∷ []) (sym same)) in (
      subst (λ (rows : List Row). IsFile kind making start b index first rows new) (sym rows) (file_takes kind making start a b index first (rows_of first) row file new takes_row are.0),
      subst (λ (at : ℕ). AreFiles kind making start b rows_by at names files) after
          (files_rows kind making start b rows_of rows_by (after_file index file) names files (λ other there. others other (λ e. true≢false (sym there ∙ (ap (is_among names) e ∙ off)))) rest),
    )
files_take kind making start a b rows_of rows_by row index (first ∷ names) (file ∷ files) (suc i) name new still differ at others own takes are =
    let rest = files_take kind making start a b rows_of rows_by row (after_file index file) names files i name new still differ.1 at others own takes are.1 in
    let place = file_at kind making start a rows_of (after_file index file) names files i name file are.1 at in
    let takes_row = takes file in
    let apart : first ≢ name = λ same. true≢false (sym (among_at names i name at) ∙ (ap (is_among names) (sym same) ∙ differ.0)) in
    let spared = front_spared kind making start a b index first (rows_of first) file place.at name (rows_of name) (get_or files i file) still takes_row.tells place.is takes_row.spares place.low apart are.0 in
    (subst (λ (rows : List Row). IsFile kind making start b index first rows file) (sym (others first apart)) spared, rest)

-- it is as it was opened
pub opened_set : (files : List FileOutput) (i : ℕ) (new : FileOutput) → ((d : FileOutput) → opened_by new ≡ opened_by (get_or files i d)) → opened_in (set files i new) ≡ opened_in files
opened_set [] i new same = refl
opened_set (file ∷ files) zero new same = ap (λ (l : List Opened). l ++ opened_in files) (same file)
opened_set (file ∷ files) (suc i) new same = ap (λ (l : List Opened). opened_by file ++ l) (opened_set files i new same)
