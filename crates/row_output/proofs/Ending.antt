-- Outputs that are ended, one after the other.
use Rattle.std.proofs.Common.{◌≡◌, ◌≢◌, ◌⊎◌, inl, inr, ◌<◌, ◌≤◌, ◌+◌, ℕ, zero, suc, Bool, true, false, true≢false, ◌||◌, List, [], ◌∷◌, ◌++◌, length, map, drop, get_or, All, Option, Some, None, refl, sym, ◌∙◌, ap, subst, arith, length-append, append_assoc}
use Rattle.std.specs.Option.{option_to_list}
use Rattle.std.specs.Prelude.{bytes_eq}
use Rattle.std.specs.Cmp.Lexicographic.{nat_list_eq_equiv}
use Rattle.std.proofs.lemmas.List.{map-append, append-nil, length-map, drop_more}
use Rattle.std.proofs.lemmas.List.Elements.{All-nil, All-cons, All-append, All-weaker}
use Rattle.std.proofs.lemmas.List.Folds.{list_any-append}
use Rattle.std.proofs.lemmas.Slice.Eq.{bytes_eq-Decides}
use Rattle.log_listing.specs.Firsts.{is_among}
use Rattle.multiplex.proofs.Distinct.{Differ}
use Rattle.multiplex.specs.Splitting.{OutputRows}
use Rattle.order_top.specs.Finish.{Row}
use Rattle.text_output.specs.Output.{StageKind, Spares}
use Rattle.text_output.specs.declared.target.Output.{Output}
use Rattle.row_output.specs.declared.file_output.FileOutput.{FileOutput}
use Rattle.row_output.specs.declared.file_output.FileOutput.TheVariants as O
use Rattle.row_output.specs.Asked.{Files, OutputText}
use Rattle.row_output.specs.Files.{IsLeftAlone, IsPut, ArePut, Opened, opened_of, SparesBut}
use Rattle.row_output.specs.FileTexts.{Making, IsFile, AreFiles, AreUnderWay, AreEnding, StopsAmong, SparesFile, EndsFile, IsEnded, text_by, rows_by, after_file, opened_by, opened_in}
use Rattle.row_output.proofs.Sparing.{called, spares_put}
use Rattle.row_output.proofs.Following.{Still, off_head, off_tail, behind_spared, after_length}
use Rattle.row_output.proofs.Naming.{differ_parts}
use Rattle.row_output.proofs.UnderWay.{named_all, opened_there, stops_with}

or_true : (b : Bool) → (b || true) ≡ true
or_true true = refl
or_true false = refl

or_first : (a b : Bool) → a ≡ true → (a || b) ≡ true
or_first a b e = ap (λ (c : Bool). c || b) e

or_false : (a b : Bool) → a ≡ false → b ≡ false → (a || b) ≡ false
or_false a b e f = ap (λ (c : Bool). c || b) e ∙ f

abbrev own_of : (List ℕ → List Row) → List ℕ → OutputRows
own_of rows_of name = record { name = name; rows = rows_of name }

-- the names of outputs with rows
abbrev pub names_in : List OutputRows → List (List ℕ)
names_in rows = map (λ (r : OutputRows). r.name) rows

pub names_by : (rows_of : List ℕ → List Row) (names : List (List ℕ)) → names_in (rows_by rows_of names) ≡ names
names_by rows_of [] = refl
names_by rows_of (name ∷ names) = ap (λ (l : List (List ℕ)). name ∷ l) (names_by rows_of names)

-- an output that is ended is so still after calls for another
put_spared : {S : Type 0} (kind : StageKind S) (files : Files) (text : OutputText) (start a b : S) (index : ℕ) (rows : OutputRows) (output : Output) (other : ℕ) (another : List ℕ) (place : ℕ) → Still kind start a → Still kind a b
    → Spares kind other another place a b → index ≢ other → rows.name ≢ another → IsPut kind files text index start a rows output → IsPut kind files text index start b rows output
put_spared kind files text start a b index rows output other another place still on calls off differ is = record {
  name = is.name;
  base = is.base;
  stands = λ tells.
      let stood = is.stands tells in
      (on (still tells), calls.others (still tells) index rows.name output.base output.mark _ off differ stood.1);
  size = is.size;
  ended = calls.ended rows.name output.base output.mark differ is.ended;
}

pub puts_spared : {S : Type 0} (kind : StageKind S) (files : Files) (text : OutputText) (start a b : S) (index : ℕ) (rows : List OutputRows) (outputs : List Output) (other : ℕ) (another : List ℕ) (place : ℕ) → Still kind start a → Still kind a b
    → Spares kind other another place a b → index + length outputs ≤ other → is_among (names_in rows) another ≡ false → ArePut kind files text start a index rows outputs → ArePut kind files text start b index rows outputs
puts_spared kind files text start a b index [] [] other another place still on calls low off are = are
puts_spared kind files text start a b index [] (output ∷ outputs) other another place still on calls low off are = are
puts_spared kind files text start a b index (row ∷ rows) [] other another place still on calls low off are =
    (are.0, puts_spared kind files text start a b index rows [] other another place still on calls low (off_tail row.name (names_in rows) another off) are.1)
puts_spared kind files text start a b index (row ∷ rows) (output ∷ outputs) other another place still on calls low off (inl are) =
    inl (are.0, puts_spared kind files text start a b index rows (output ∷ outputs) other another place still on calls low (off_tail row.name (names_in rows) another off) are.1)
puts_spared kind files text start a b index (row ∷ rows) (output ∷ outputs) other another place still on calls low off (inr are) =
    inr (
      put_spared kind files text start a b index row output other another place still on calls (λ same. omega (arith, low, same)) (off_head row.name (names_in rows) another off) are.0,
      puts_spared kind files text start a b (index + 1) rows outputs other another place still on calls (omega (arith, low)) (off_tail row.name (names_in rows) another off) are.1,
    )

-- one output more is ended
pub puts_more : {S : Type 0} (kind : StageKind S) (files : Files) (text : OutputText) (start now : S) (index : ℕ) (rows : List OutputRows) (outputs : List Output) (row : OutputRows) (output : Option Output)
    → ArePut kind files text start now index rows outputs → IsEnded kind files text (index + length outputs) start now row output → ArePut kind files text start now index (rows ++ row ∷ []) (outputs ++ option_to_list output)
puts_more kind files text start now index [] [] row None are is = (is, tt)
puts_more kind files text start now index [] [] row (Some output) are is =
    let here : index + 0 ≡ index = omega arith in
    inr (subst (λ (at : ℕ). IsPut kind files text at start now row output) here is, tt)
puts_more kind files text start now index [] (first ∷ outputs) row output are is = absurd are
puts_more kind files text start now index (own ∷ rows) [] row None are is = (are.0, puts_more kind files text start now index rows [] row None are.1 is)
puts_more kind files text start now index (own ∷ rows) [] row (Some output) are is = inl (are.0, puts_more kind files text start now index rows [] row (Some output) are.1 is)
puts_more kind files text start now index (own ∷ rows) (first ∷ outputs) row output (inl are) is = inl (are.0, puts_more kind files text start now index rows (first ∷ outputs) row output are.1 is)
puts_more kind files text start now index (own ∷ rows) (first ∷ outputs) row output (inr are) is =
    let here : index + length (first ∷ outputs) ≡ (index + 1) + length outputs = omega arith in
    inr (are.0, puts_more kind files text start now (index + 1) rows outputs row output are.1 (subst (λ (at : ℕ). IsEnded kind files text at start now row output) here is))

-- what is ended has a name of theirs
put_named : {S : Type 0} (kind : StageKind S) (files : Files) (text : OutputText) (start now : S) (index : ℕ) (rows : List OutputRows) (outputs : List Output) → ArePut kind files text start now index rows outputs
    → All (λ (o : Opened). is_among (names_in rows) o.name ≡ true) (map opened_of outputs)
put_named kind files text start now index [] [] are = All-nil (λ (o : Opened). is_among [] o.name ≡ true)
put_named kind files text start now index [] (output ∷ outputs) are = absurd are
put_named kind files text start now index (row ∷ rows) [] are = All-nil (λ (o : Opened). is_among (names_in (row ∷ rows)) o.name ≡ true)
put_named kind files text start now index (row ∷ rows) (output ∷ outputs) (inl are) =
    All-weaker (λ (o : Opened). is_among (names_in rows) o.name ≡ true) (λ (o : Opened). is_among (names_in (row ∷ rows)) o.name ≡ true) (λ o there. ap (λ (b : Bool). bytes_eq o.name row.name || b) there ∙ or_true (bytes_eq o.name row.name)) (map opened_of (output ∷ outputs))
    (put_named kind files text start now index rows (output ∷ outputs) are.1)
put_named kind files text start now index (row ∷ rows) (output ∷ outputs) (inr are) =
    All-cons (λ (o : Opened). is_among (names_in (row ∷ rows)) o.name ≡ true) (opened_of output) (map opened_of outputs)
    (or_first (bytes_eq output.name row.name) (is_among (names_in rows) output.name) (ap (λ (n : List ℕ). bytes_eq n row.name) are.0.name ∙ nat_list_eq_equiv.refl row.name))
    (All-weaker (λ (o : Opened). is_among (names_in rows) o.name ≡ true) (λ (o : Opened). is_among (names_in (row ∷ rows)) o.name ≡ true) (λ o there. ap (λ (b : Bool). bytes_eq o.name row.name || b) there ∙ or_true (bytes_eq o.name row.name)) (map opened_of outputs)
    (put_named kind files text start now (index + 1) rows outputs are.1))

-- none is ended yet
pub ending_none : {S : Type 0} (kind : StageKind S) (files : Files) (making : Making) (rows_of : List ℕ → List Row) (names : List (List ℕ)) (start a : S) (all : List FileOutput) (texts : ℕ) → AreUnderWay kind making rows_of names start all texts a
    → AreEnding kind files making start rows_of names all all [] a
ending_none kind files making rows_of names start a all texts way = record {
  done = [];
  left = names;
  parts = refl;
  put = tt;
  each = way.each;
  opened = refl;
  tells = way.tells;
  spares = way.spares;
}

-- all bytes are those of outputs that are opened
spares_next : {S : Type 0} (kind : StageKind S) (making : Making) (start z a b : S) (index : ℕ) (name : List ℕ) (rows : List Row) (file : FileOutput) (front back all : List Opened) (done more : List (List ℕ)) → Still kind start a → IsFile kind making start z index name rows file → index ≡ length front → front ++ (opened_by file ++ back) ≡ all
    → All (λ (o : Opened). is_among done o.name ≡ true) front → is_among done name ≡ false → All (λ (o : Opened). is_among more o.name ≡ true) back → is_among more name ≡ false → SparesBut kind all start a → SparesFile kind file a b → SparesBut kind all start b
spares_next {S} kind making start z a b index name rows O.LeftAlone front back all done more still is at parts in_front off_front in_back off_back spares calls = subst (λ (s : S). SparesBut kind all start s) (sym calls) spares
spares_next kind making start z a b index name rows (O.Text text) front back all done more still is at parts in_front off_front in_back off_back spares calls =
    let own : Opened = record { name = text.target.name; base = text.target.base } in
    let Same : Opened → Type 0 = λ (o : Opened). o.name ≡ text.target.name → o.base ≡ text.target.base in
    let number = is.output in
    let long = length-append front (own ∷ back) in
    let size : length (front ++ (own ∷ back)) ≡ length all = ap length parts in
    let bases = All-append Same front (own ∷ back)
    (All-weaker (λ (o : Opened). is_among done o.name ≡ true) Same (λ o there e. absurd (true≢false (sym there ∙ (ap (is_among done) (e ∙ is.called) ∙ off_front)))) front in_front)
    (All-cons Same own back (λ e. refl) (All-weaker (λ (o : Opened). is_among more o.name ≡ true) Same (λ o there e. absurd (true≢false (sym there ∙ (ap (is_among more) (e ∙ is.called) ∙ off_back)))) back in_back)) in
    spares_put kind all text.target.output text.target.name text.target.base start a b still (omega (arith, number, at, long, size))
    (subst (λ (l : List Opened). is_among (called l) text.target.name ≡ true) parts (opened_there front own back)) (subst (All Same) parts bases) spares calls

-- those in front are as they were, whatever the next one is
puts_before : {S : Type 0} (kind : StageKind S) (files : Files) (text : OutputText) (making : Making) (start a b : S) (rows : List OutputRows) (outputs : List Output) (name : List ℕ) (own : List Row) (file : FileOutput) → Still kind start a → Still kind a b
    → IsFile kind making start a (length outputs) name own file → is_among (names_in rows) name ≡ false → SparesFile kind file a b → ArePut kind files text start a 0 rows outputs → ArePut kind files text start b 0 rows outputs
puts_before {S} kind files text making start a b rows outputs name own O.LeftAlone still on is off calls put = subst (λ (s : S). ArePut kind files text start s 0 rows outputs) (sym calls) put
puts_before kind files text making start a b rows outputs name own (O.Text out) still on is off calls put =
    let number = is.output in
    puts_spared kind files text start a b 0 rows outputs out.target.output out.target.name out.target.base still on calls (omega (arith, number)) (ap (is_among (names_in rows)) is.called ∙ off) put

-- The next one, with those before it and behind it.
record IsNext {S : Type 0} (kind : StageKind S) (making : Making) (start now : S) (rows_of : List ℕ → List Row) (index : ℕ) (left : List (List ℕ)) (file : FileOutput) (rest : List FileOutput) : Type 0 where
  name : List ℕ
  more : List (List ℕ)
  parts : left ≡ name ∷ more
  is : IsFile kind making start now index name (rows_of name) file
  each : AreFiles kind making start now rows_of (after_file index file) more rest

next_is : {S : Type 0} (kind : StageKind S) (making : Making) (start now : S) (rows_of : List ℕ → List Row) (index : ℕ) (left : List (List ℕ)) (file : FileOutput) (rest : List FileOutput) → AreFiles kind making start now rows_of index left (file ∷ rest) → IsNext kind making start now rows_of index left file rest
next_is kind making start now rows_of index [] file rest are = absurd are
next_is kind making start now rows_of index (name ∷ more) file rest are = record { name = name; more = more; parts = refl; is = are.0; each = are.1 }

-- what is left of them is opened
left_opened : {S : Type 0} (kind : StageKind S) (files : Files) (making : Making) (start a b : S) (rows_of : List ℕ → List Row) (names : List (List ℕ)) (all : List FileOutput) (file : FileOutput) (rest : List FileOutput) (outputs : List Output)
    → Differ names → AreEnding kind files making start rows_of names all (file ∷ rest) outputs a → SparesFile kind file a b → SparesBut kind (opened_in all) start b
left_opened kind files making start a b rows_of names all file rest outputs differ ending calls =
    let next = next_is kind making start a rows_of (length outputs) ending.left file rest ending.each in
    let whole : names ≡ ending.done ++ (next.name ∷ next.more) = ending.parts ∙ ap (λ (l : List (List ℕ)). ending.done ++ l) next.parts in
    let off = differ_parts ending.done next.name next.more (subst Differ whole differ) in
    let size : length outputs ≡ length (map opened_of outputs) = sym (length-map outputs opened_of) in
    let rows : names_in (rows_by rows_of ending.done) ≡ ending.done = names_by rows_of ending.done in
    spares_next kind making start a a b (length outputs) next.name (rows_of next.name) file (map opened_of outputs) (opened_in rest) (opened_in all) ending.done next.more ending.tells next.is size ending.opened
    (subst (λ (l : List (List ℕ)). All (λ (o : Opened). is_among l o.name ≡ true) (map opened_of outputs)) rows (put_named kind files (text_by making) start a 0 (rows_by rows_of ending.done) outputs ending.put))
    off.0 (named_all kind making start a rows_of (after_file (length outputs) file) next.more rest next.each) off.1 ending.spares calls

-- the next one is ended
pub ending_next : {S : Type 0} (kind : StageKind S) (files : Files) (making : Making) (start a b : S) (rows_of : List ℕ → List Row) (names : List (List ℕ)) (all : List FileOutput) (file : FileOutput) (rest : List FileOutput) (outputs : List Output) (output : Option Output)
    → files.mode ≡ making.mode → Differ names → EndsFile kind file output a b → AreEnding kind files making start rows_of names all (file ∷ rest) outputs a → AreEnding kind files making start rows_of names all rest (outputs ++ option_to_list output) b
ending_next kind files making start a b rows_of names all file rest outputs output mode differ ends ending =
    let next = next_is kind making start a rows_of (length outputs) ending.left file rest ending.each in
    let whole : names ≡ ending.done ++ (next.name ∷ next.more) = ending.parts ∙ ap (λ (l : List (List ℕ)). ending.done ++ l) next.parts in
    let off = differ_parts ending.done next.name next.more (subst Differ whole differ) in
    let rows : names_in (rows_by rows_of ending.done) ≡ ending.done = names_by rows_of ending.done in
    let own : OutputRows = record { name = next.name; rows = rows_of next.name } in
    let before = puts_before kind files (text_by making) making start a b (rows_by rows_of ending.done) outputs next.name (rows_of next.name) file ending.tells ends.tells next.is (ap (λ (l : List (List ℕ)). is_among l next.name) rows ∙ off.0) ends.spares ending.put in
    let here : length outputs ≡ 0 + length outputs = omega arith in
    let is_ended = subst (λ (at : ℕ). IsEnded kind files (text_by making) at start b own output) here (ends.ends files making start (length outputs) next.name (rows_of next.name) mode next.is) in
    let put = puts_more kind files (text_by making) start b 0 (rows_by rows_of ending.done) outputs own output before is_ended in
    let behind = behind_spared kind making start a b rows_of (length outputs) next.name (rows_of next.name) file next.more rest ending.tells ends.tells next.is ends.spares off.1 next.each in
    let after = after_length (length outputs) file in
    let long = length-append outputs (option_to_list output) in
    let same : length (opened_by file) ≡ length (option_to_list output) = ap length (sym ends.opened) ∙ length-map (option_to_list output) opened_of in
    let count : after_file (length outputs) file ≡ length (outputs ++ option_to_list output) = omega (arith, after, long, same) in
    record {
      done = ending.done ++ next.name ∷ [];
      left = next.more;
      parts = whole ∙ sym (append_assoc ending.done (next.name ∷ []) next.more);
      put = subst (λ (l : List OutputRows). ArePut kind files (text_by making) start b 0 l (outputs ++ option_to_list output)) (sym (map-append (own_of rows_of) ending.done (next.name ∷ []))) put;
      each = subst (λ (at : ℕ). AreFiles kind making start b rows_of at next.more rest) count behind;
      opened =
          ap (λ (l : List Opened). l ++ opened_in rest) (map-append opened_of outputs (option_to_list output))
          ∙ (append_assoc (map opened_of outputs) (map opened_of (option_to_list output)) (opened_in rest)
          ∙ (ap (λ (l : List Opened). map opened_of outputs ++ (l ++ opened_in rest)) ends.opened ∙ ending.opened));
      tells = λ tells. ends.tells (ending.tells tells);
      spares = left_opened kind files making start a b rows_of names all file rest outputs differ ending ends.spares;
    }

-- the next one isn't
pub ending_stops : {S : Type 0} (kind : StageKind S) (files : Files) (making : Making) (start z a b : S) (rows_of : List ℕ → List Row) (names : List (List ℕ)) (all : List FileOutput) (file : FileOutput) (rest : List FileOutput) (outputs : List Output)
    → Differ names → AreFiles kind making start z rows_of 0 names all → AreEnding kind files making start rows_of names all (file ∷ rest) outputs a → SparesFile kind file a b → StopsAmong kind making.mode names start b
ending_stops kind files making start z a b rows_of names all file rest outputs differ are ending calls =
    stops_with kind making start z b rows_of names all are (left_opened kind files making start a b rows_of names all file rest outputs differ ending calls)

-- one turn over them
pub ending_turn : {S : Type 0} (kind : StageKind S) (files : Files) (making : Making) (start a b : S) (rows_of : List ℕ → List Row) (names : List (List ℕ)) (all : List FileOutput) (i : ℕ) (file d : FileOutput) (outputs now : List Output) (output : Option Output)
    → i < length all → file ≡ get_or all i d → now ≡ outputs ++ option_to_list output → files.mode ≡ making.mode → Differ names → EndsFile kind file output a b → AreEnding kind files making start rows_of names all (drop i all) outputs a
    → AreEnding kind files making start rows_of names all (drop (i + 1) all) now b
ending_turn kind files making start a b rows_of names all i file d outputs now output less is pushed mode differ ends ending =
    let parts : drop i all ≡ file ∷ drop (i + 1) all = drop_more all i d less ∙ ap (λ (f : FileOutput). f ∷ drop (i + 1) all) (sym is) in
    subst (λ (l : List Output). AreEnding kind files making start rows_of names all (drop (i + 1) all) l b) (sym pushed)
    (ending_next kind files making start a b rows_of names all file (drop (i + 1) all) outputs output mode differ ends
    (subst (λ (l : List FileOutput). AreEnding kind files making start rows_of names all l outputs a) parts ending))

pub turn_stops : {S : Type 0} (kind : StageKind S) (files : Files) (making : Making) (start z a b : S) (rows_of : List ℕ → List Row) (names : List (List ℕ)) (all : List FileOutput) (texts i : ℕ) (file d : FileOutput) (outputs : List Output)
    → i < length all → file ≡ get_or all i d → Differ names → SparesFile kind file a b → AreUnderWay kind making rows_of names start all texts z → AreEnding kind files making start rows_of names all (drop i all) outputs a → StopsAmong kind making.mode names start b
turn_stops kind files making start z a b rows_of names all texts i file d outputs less is differ calls way ending =
    let parts : drop i all ≡ file ∷ drop (i + 1) all = drop_more all i d less ∙ ap (λ (f : FileOutput). f ∷ drop (i + 1) all) (sym is) in
    ending_stops kind files making start z a b rows_of names all file (drop (i + 1) all) outputs differ way.each
    (subst (λ (l : List FileOutput). AreEnding kind files making start rows_of names all l outputs a) parts ending) calls
