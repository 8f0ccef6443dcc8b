-- The reading of a log, line by line and piece by piece.
use Rattle.std.proofs.Common.{◌≡◌, ℕ, ◌+◌, ◌≤◌, ◌<◌, Bool, true, false, not, List, [], ◌∷◌, ◌++◌, length, map, filter, Option, Some, ap, sym, ◌∙◌, refl, subst, append_assoc, arith, inl, inr, length-append, nat_lt, lt-ltb, if◌then◌else◌}
use Rattle.std.proofs.lemmas.Bool.{cases_Bool}
use Rattle.std.proofs.lemmas.List.{append-nil, map-append, length-map}
use Rattle.std.proofs.lemmas.List.Elements.{filter-append}
use Rattle.std.specs.List.{before_first, after_first, position_or_len}
use Rattle.lp_model.specs.Lines.{Line, is_lf, is_overlong, text_at, ended_line, last_line, lines_to_come}
use Rattle.lp_model.specs.Reading.{Format, Reading, Columns, Standing, Record, rows_in, is_bad, is_in_bounds, columns_behind, standing_behind, reading_behind, records_read}
use Rattle.lp_model.specs.Following.{records_behind, records_following, bad_behind, bad_following, end_of}
use Rattle.lp_model.proofs.Cutting.{lines_to_come-last}
use Rattle.lp_model.proofs.Feeding.{lines_to_come-first}
use Rattle.lp_model.proofs.Following.{records_following-append, bad_following-append}
use Rattle.lp_model.proofs.Ordered.{come_same}
use Rattle.line_input.specs.Handed.{TakesFirst}
use Rattle.line_input.specs.Splitter.{Split}
use Rattle.log_reading.specs.Found.{Met, met_of}
use Rattle.log_reading.specs.declared.page.Page.{Page}
use Rattle.log_reading.specs.Page.{Takes, Stops, to_come, Follows, Advances, StopsOnLine, StopsIn, StopsWithin, Spends, IsWithin, ExceedsAfter, ExceedsIn, ExceedsWithin}
use Rattle.log_reading.proofs.Founds.{met_of-append}
use Rattle.log_reading.proofs.Fronts.{bad_gives_none}

-- the laws of a taker
abbrev pub TakesMore : {T O : Type 0} → Takes T O → Type 0
TakesMore {T = T} {O = O} takes = (a b c : T) (u v w : O) (xs ys : List Met) → takes a u xs b v → takes b v ys c w → takes a u (xs ++ ys) c w

abbrev pub StopsLater : {T O : Type 0} → Takes T O → Stops T O → Type 0
StopsLater {T = T} {O = O} takes stops = (a b c : T) (u v w : O) (xs ys : List Met) → takes a u xs b v → stops b v ys c w → stops a u (xs ++ ys) c w

abbrev pub StopsMore : {T O : Type 0} → Stops T O → Type 0
StopsMore {T = T} {O = O} stops = (a c : T) (u w : O) (xs ys : List Met) → stops a u xs c w → stops a u (xs ++ ys) c w

abbrev pub StopsHere : {T O : Type 0} → Takes T O → Stops T O → Type 0
StopsHere {T = T} {O = O} takes stops = (a b : T) (u v : O) (xs ys : List Met) → takes a u xs b v → stops a u (xs ++ ys) b v

-- the columns behind one line more, and what that line gives
in_bounds : (line : Line) → is_overlong line.text ≡ false → is_in_bounds line ≡ true
in_bounds line e = ap not e

columns_line : (format : Format) (history : List Line) (line : Line) (text : List ℕ) → line.text ≡ text → is_overlong line.text ≡ false
    → columns_behind format (history ++ line ∷ []) ≡ format.columns_after (map (λ (line : Line). line.text) (filter is_in_bounds history) ++ text ∷ [])
columns_line format history line text same short =
    let one : filter is_in_bounds (line ∷ []) ≡ line ∷ [] = rw short refl in
    ap format.columns_after (ap (map (λ (line : Line). line.text)) (filter-append is_in_bounds history (line ∷ []) ∙ ap (λ t. filter is_in_bounds history ++ t) one)
    ∙ (map-append (λ (line : Line). line.text) (filter is_in_bounds history) (line ∷ []) ∙ ap (λ t. map (λ (line : Line). line.text) (filter is_in_bounds history) ++ t ∷ []) same))

columns_overlong : (format : Format) (history : List Line) (line : Line) → is_overlong line.text ≡ true → columns_behind format (history ++ line ∷ []) ≡ columns_behind format history
columns_overlong format history line long =
    let none : filter is_in_bounds (line ∷ []) ≡ [] = rw long refl in
    ap (λ t. format.columns_after (map (λ (line : Line). line.text) t)) (filter-append is_in_bounds history (line ∷ []) ∙ (ap (λ t. filter is_in_bounds history ++ t) none ∙ append-nil (filter is_in_bounds history)))

reading_line : (format : Format) (history : List Line) (line : Line) (text : List ℕ) (standing : Standing) → standing ≡ standing_behind format history → line.text ≡ text → is_overlong line.text ≡ false
    → reading_behind format history line ≡ format.reading text standing.columns
reading_line format history line text standing at same short =
    let first : reading_behind format history line ≡ format.reading line.text (columns_behind format history) = rw short refl in
    first ∙ (ap (λ t. format.reading t (columns_behind format history)) same ∙ ap (λ s. format.reading text s.columns) (sym at))

-- a standing is told by its parts
standing_same : (format : Format) (history : List Line) (s : Standing) → s.lines ≡ length history → s.columns ≡ columns_behind format history → s ≡ standing_behind format history
standing_same format history s lines columns =
    let first : s ≡ record { lines = length history; columns = s.columns } = ap (λ n. let r : Standing = record { lines = n; columns = s.columns } in r) lines in
    first ∙ ap (λ c. let r : Standing = record { lines = length history; columns = c } in r) columns

-- what a line gives, in the words of the definitions
records_line : (format : Format) (history : List Line) (line : Line) (reading : Reading) (number : ℕ) (columns : Option Columns) → line.number ≡ number → columns ≡ columns_behind format (history ++ line ∷ [])
    → reading_behind format history line ≡ reading → records_following format history (line ∷ []) ≡ records_read number columns reading
records_line format history line reading number columns n c r =
    append-nil (records_behind format history line)
    ∙ (ap (λ k. records_read k (columns_behind format (history ++ line ∷ [])) (reading_behind format history line)) n
    ∙ (ap (λ k. records_read number k (reading_behind format history line)) (sym c) ∙ ap (records_read number columns) r))

abbrev pub bad_count : Reading → ℕ
bad_count reading = if is_bad reading then 1 else 0

bad_length : (b : Bool) (n : ℕ) → length (if b then n ∷ [] else []) ≡ (if b then 1 else 0)
bad_length true n = refl
bad_length false n = refl

bad_line : (format : Format) (history : List Line) (line : Line) (reading : Reading) → reading_behind format history line ≡ reading → length (bad_following format history (line ∷ [])) ≡ bad_count reading
bad_line format history line reading r =
    ap length (append-nil (bad_behind format history line)) ∙ (bad_length (is_bad (reading_behind format history line)) line.number ∙ ap bad_count r)

pub follows_line : {T O : Type 0} (takes : Takes T O) (format : Format) (identity : List ℕ) (line : Line) (old new : Page T) (u w : O) (text : List ℕ) (reading : Reading)
    → line.number ≡ old.standing.lines + 1 → line.text ≡ text → is_overlong line.text ≡ false → reading ≡ format.reading text old.standing.columns
    → new.standing.lines ≡ old.standing.lines + 1
    → ((before : List (List ℕ)) → old.standing.columns ≡ format.columns_after before → new.standing.columns ≡ format.columns_after (before ++ text ∷ []))
    → takes old.taker u (met_of identity (records_read (old.standing.lines + 1) new.standing.columns reading)) new.taker w
    → new.rows ≡ old.rows + length (rows_in reading) → new.bad ≡ old.bad + bad_count reading
    → Follows takes format identity (line ∷ []) old new u w
follows_line takes format identity line old new u w text reading number same short read lines columns took rows bad = record {
  behind = λ history at.
      let count : old.standing.lines ≡ length history = ap (λ s. s.lines) at in
      let columns_then : old.standing.columns ≡ columns_behind format history = ap (λ s. s.columns) at in
      let columns_now : new.standing.columns ≡ columns_behind format (history ++ line ∷ []) = columns _ columns_then ∙ sym (columns_line format history line text same short) in
      let reading' : reading_behind format history line ≡ reading = reading_line format history line text old.standing at same short ∙ sym read in
      let records = records_line format history line reading (old.standing.lines + 1) new.standing.columns number columns_now reading' in
      let size : length (history ++ line ∷ []) ≡ length history + 1 = length-append history (line ∷ []) in
      let row_count : length (records_following format history (line ∷ [])) ≡ length (rows_in reading) = ap length records ∙ length-map (rows_in reading) _ in
      let bad_count' = bad_line format history line reading reading' in
      let Done : List Record → Type 0 = λ t. takes old.taker u (met_of identity t) new.taker w in
      record {
        done = subst Done (sym records) took;
        standing = standing_same format (history ++ line ∷ []) new.standing (omega arith) columns_now;
        rows = omega arith;
        bad = omega arith;
      };
}

-- so many bad lines, and none of them more
pub within_at : (most_bad : Option ℕ) (m n : ℕ) → m ≡ n → IsWithin most_bad m → IsWithin most_bad n
within_at most_bad m n same within = subst (λ (k : ℕ). IsWithin most_bad k) same within

pub within_of : (a b : Option ℕ) (n : ℕ) → b ≡ a → IsWithin b n → IsWithin a n
within_of a b n same within = subst (λ (most : Option ℕ). IsWithin most n) same within

-- it stopped with no line taken
pub stops_first : {T O : Type 0} (stops : Stops T O) (format : Format) (identity : List ℕ) (lines : List Line) (old z : Page T) (u w : O)
    → IsWithin old.most_bad old.bad → stops old.taker u [] z.taker w → StopsIn stops format identity lines old z u w
stops_first stops format identity lines old z u w within nothing = record {
  behind = λ history at. record { front = []; rest = lines; stands = refl; stopped = nothing; within = within_at old.most_bad old.bad (old.bad + 0) (omega arith) within };
}

pub stops_line : {T O : Type 0} (stops : Stops T O) (format : Format) (identity : List ℕ) (line : Line) (old z : Page T) (u w : O) (text : List ℕ) (reading : Reading) (columns_now : Option Columns)
    → line.number ≡ old.standing.lines + 1 → line.text ≡ text → is_overlong line.text ≡ false → reading ≡ format.reading text old.standing.columns
    → ((before : List (List ℕ)) → old.standing.columns ≡ format.columns_after before → columns_now ≡ format.columns_after (before ++ text ∷ []))
    → stops old.taker u (met_of identity (records_read (old.standing.lines + 1) columns_now reading)) z.taker w
    → StopsOnLine stops format identity line old z u w
stops_line stops format identity line old z u w text reading columns_now number same short read columns stopped = record {
  behind = λ history at.
      let columns_then : old.standing.columns ≡ columns_behind format history = ap (λ s. s.columns) at in
      let now : columns_now ≡ columns_behind format (history ++ line ∷ []) = columns _ columns_then ∙ sym (columns_line format history line text same short) in
      let reading' : reading_behind format history line ≡ reading = reading_line format history line text old.standing at same short ∙ sym read in
      let records = records_line format history line reading (old.standing.lines + 1) columns_now number now reading' in
      let Stopped : List Record → Type 0 = λ t. stops old.taker u (met_of identity t) z.taker w in
      subst Stopped (sym records) stopped;
}

-- a line that gives rows isn't bad, and before a bad one none was taken
pub stops_one : {T O : Type 0} (stops : Stops T O) (format : Format) (identity : List ℕ) (line : Line) (old z : Page T) (u w : O) → IsWithin old.most_bad old.bad
    → ((history : List Line) → old.standing ≡ standing_behind format history → stops old.taker u (met_of identity (records_following format history (line ∷ []))) z.taker w)
    → StopsIn stops format identity (line ∷ []) old z u w
stops_one stops format identity line old z u w within stopped = record {
  behind = λ history at. elim (cases_Bool (is_bad (reading_behind format history line))) [
    | inl is ↦
        let columns = columns_behind format (history ++ line ∷ []) in
        let none : records_following format history (line ∷ []) ≡ [] =
        append-nil (records_behind format history line)
        ∙ ap (λ slots. map (λ s. let r : Record = record { number = line.number; slots = s; columns = columns } in r) slots) (bad_gives_none (reading_behind format history line) is) in
        let Stopped : List Record → Type 0 = λ t. stops old.taker u (met_of identity t) z.taker w in
        record { front = []; rest = line ∷ []; stands = refl; stopped = subst Stopped none (stopped history at); within = within_at old.most_bad old.bad (old.bad + 0) (omega arith) within }
    | inr good ↦
        let none : length (bad_following format history (line ∷ [])) ≡ 0 = bad_line format history line (reading_behind format history line) refl ∙ ap (λ (b : Bool). if b then 1 else 0) good in
        record {
          front = line ∷ [];
          rest = [];
          stands = refl;
          stopped = stopped history at;
          within = within_at old.most_bad old.bad (old.bad + length (bad_following format history (line ∷ []))) (omega arith) within;
        }
  ];
}

-- a line that is too long gives no row
pub follows_overlong : {T O : Type 0} (takes : Takes T O) (format : Format) (identity : List ℕ) (line : Line) (old new : Page T) (w : O) → takes old.taker w [] old.taker w
    → is_overlong line.text ≡ true → new.taker ≡ old.taker → new.standing.lines ≡ old.standing.lines + 1 → new.standing.columns ≡ old.standing.columns
    → new.rows ≡ old.rows → new.bad ≡ old.bad + 1 → Follows takes format identity (line ∷ []) old new w w
follows_overlong {T = T} takes format identity line old new w nothing long taker lines columns rows bad = record {
  behind = λ history at.
      let count : old.standing.lines ≡ length history = ap (λ s. s.lines) at in
      let columns_then : old.standing.columns ≡ columns_behind format history = ap (λ s. s.columns) at in
      let columns_now : new.standing.columns ≡ columns_behind format (history ++ line ∷ []) = columns ∙ (columns_then ∙ sym (columns_overlong format history line long)) in
      let none : records_following format history (line ∷ []) ≡ [] = rw long refl in
      let one : length (bad_following format history (line ∷ [])) ≡ 1 = rw long refl in
      let size : length (history ++ line ∷ []) ≡ length history + 1 = length-append history (line ∷ []) in
      let row_count : length (records_following format history (line ∷ [])) ≡ 0 = ap length none in
      let Done : List Record → Type 0 = λ t. takes old.taker w (met_of identity t) new.taker w in
      let At : T → Type 0 = λ t. takes old.taker w [] t w in
      record {
        done = subst Done (sym none) (subst At (sym taker) nothing);
        standing = standing_same format (history ++ line ∷ []) new.standing (omega arith) columns_now;
        rows = omega arith;
        bad = omega arith;
      };
}

pub follows_none : {T O : Type 0} (takes : Takes T O) (format : Format) (identity : List ℕ) (page : Page T) (w : O) → takes page.taker w [] page.taker w → Follows takes format identity [] page page w w
follows_none takes format identity page w nothing = record {
  behind = λ history at.
      record { done = nothing; standing = at ∙ ap (standing_behind format) (sym (append-nil history)); rows = omega arith; bad = omega arith };
}

-- only the taker went on, and nothing was met
pub follows_on : {T O : Type 0} (takes : Takes T O) (format : Format) (identity : List ℕ) (b c : Page T) (v w : O) → c.standing ≡ b.standing → c.rows ≡ b.rows → c.bad ≡ b.bad → takes b.taker v [] c.taker w → Follows takes format identity [] b c v w
follows_on takes format identity b c v w standing rows bad nothing = record {
  behind = λ history at.
      record { done = nothing; standing = standing ∙ (at ∙ ap (standing_behind format) (sym (append-nil history))); rows = omega arith; bad = omega arith };
}

pub follows_trans : {T O : Type 0} (takes : Takes T O) (more : TakesMore takes) (format : Format) (identity : List ℕ) (first second : List Line) (a b c : Page T) (u v w : O)
    → Follows takes format identity first a b u v → Follows takes format identity second b c v w → Follows takes format identity (first ++ second) a c u w
follows_trans takes more format identity first second a b c u v w f s = record {
  behind = λ history at.
      let f' = f.behind history at in
      let s' = s.behind (history ++ first) f'.standing in
      let records = records_following-append format history first second in
      let bad = bad_following-append format history first second in
      let record_count : length (records_following format history (first ++ second)) ≡ length (records_following format history first) + length (records_following format (history ++ first) second) =
      ap length records ∙ length-append (records_following format history first) (records_following format (history ++ first) second) in
      let bad_size : length (bad_following format history (first ++ second)) ≡ length (bad_following format history first) + length (bad_following format (history ++ first) second) =
      ap length bad ∙ length-append (bad_following format history first) (bad_following format (history ++ first) second) in
      let f_rows = f'.rows in
      let s_rows = s'.rows in
      let f_bad = f'.bad in
      let s_bad = s'.bad in
      let Done : List Met → Type 0 = λ t. takes a.taker u t c.taker w in
      record {
        done = subst Done (sym (met_of-append identity (records_following format history first) (records_following format (history ++ first) second)) ∙ ap (met_of identity) (sym records))
            (more _ _ _ _ _ _ _ _ f'.done s'.done);
        standing = s'.standing ∙ ap (standing_behind format) (append_assoc history first second);
        rows = omega arith;
        bad = omega arith;
      };
}

met_both : (format : Format) (identity : List ℕ) (history first second : List Line)
    → met_of identity (records_following format history first) ++ met_of identity (records_following format (history ++ first) second) ≡ met_of identity (records_following format history (first ++ second))
met_both format identity history first second =
    sym (met_of-append identity (records_following format history first) (records_following format (history ++ first) second)) ∙ ap (met_of identity) (sym (records_following-append format history first second))

bad_both : (format : Format) (history first second : List Line)
    → length (bad_following format history (first ++ second)) ≡ length (bad_following format history first) + length (bad_following format (history ++ first) second)
bad_both format history first second =
    ap length (bad_following-append format history first second) ∙ length-append (bad_following format history first) (bad_following format (history ++ first) second)

pub stops_trans : {T O : Type 0} (takes : Takes T O) (stops : Stops T O) (later : StopsLater takes stops) (format : Format) (identity : List ℕ) (first second : List Line) (a b z : Page T) (u v w : O)
    → b.most_bad ≡ a.most_bad → Follows takes format identity first a b u v → StopsIn stops format identity second b z v w → StopsIn stops format identity (first ++ second) a z u w
stops_trans takes stops later format identity first second a b z u v w most f s = record {
  behind = λ history at.
      let f' = f.behind history at in
      let s' = s.behind (history ++ first) f'.standing in
      let size = bad_both format history first s'.front in
      let bad_now = f'.bad in
      let count : b.bad + length (bad_following format (history ++ first) s'.front) ≡ a.bad + length (bad_following format history (first ++ s'.front)) = omega arith in
      let Stopped : List Met → Type 0 = λ t. stops a.taker u t z.taker w in
      record {
        front = first ++ s'.front;
        rest = s'.rest;
        stands = ap (λ l. first ++ l) s'.stands ∙ sym (append_assoc first s'.front s'.rest);
        stopped = subst Stopped (met_both format identity history first s'.front) (later _ _ _ _ _ _ _ _ f'.done s'.stopped);
        within = within_of a.most_bad b.most_bad (a.bad + length (bad_following format history (first ++ s'.front))) most
            (within_at b.most_bad (b.bad + length (bad_following format (history ++ first) s'.front)) (a.bad + length (bad_following format history (first ++ s'.front))) count s'.within);
      };
}

-- others stand behind
pub stops_more : {T O : Type 0} (stops : Stops T O) (format : Format) (identity : List ℕ) (first second : List Line) (a z : Page T) (u w : O)
    → StopsIn stops format identity first a z u w → StopsIn stops format identity (first ++ second) a z u w
stops_more stops format identity first second a z u w s = record {
  behind = λ history at.
      let s' = s.behind history at in
      record { front = s'.front; rest = s'.rest ++ second; stands = ap (λ l. l ++ second) s'.stands ∙ append_assoc s'.front s'.rest second; stopped = s'.stopped; within = s'.within };
}

-- a piece was fed
stops_refed : {T O : Type 0} (stops : Stops T O) (format : Format) (identity : List ℕ) (lines : List Line) (old : Page T) (split : Split) (z : Page T) (u w : O)
    → StopsIn stops format identity lines (record old { splitter = split }) z u w → StopsIn stops format identity lines old z u w
stops_refed stops format identity lines old split z u w s = record {
  behind = λ history at.
      let s' = s.behind history at in
      record { front = s'.front; rest = s'.rest; stands = s'.stands; stopped = s'.stopped; within = s'.within };
}

-- the first line is that before the first LF, whatever follows
pub to_come-first : {T : Type 0} (waits : Bool) (old new : Page T) (split : Split) (rest : List ℕ) → TakesFirst old.splitter split → new.splitter ≡ split → new.standing.lines ≡ old.standing.lines + 1
    → to_come waits old rest ≡ ended_line (old.standing.lines + 1) old.splitter.place (before_first is_lf old.splitter.left) ∷ to_come waits new rest
to_come-first waits old new split rest first same lines =
    let number : (old.standing.lines + 1) + 1 ≡ new.standing.lines + 1 = omega arith in
    let place = sym first.place ∙ ap (λ s. s.place) (sym same) in
    let left = sym first.left ∙ ap (λ s. s.left) (sym same) in
    lines_to_come-first waits (old.standing.lines + 1) old.splitter.place old.splitter.left rest first.has_end
    ∙ ap (λ t. ended_line (old.standing.lines + 1) old.splitter.place (before_first is_lf old.splitter.left) ∷ t)
    (come_same waits (old.standing.lines + 1 + 1) (new.standing.lines + 1) _ new.splitter.place _ (new.splitter.left ++ rest) number place (ap (λ t. t ++ rest) left))

-- one line was taken
pub advances_line : {T O : Type 0} (takes : Takes T O) (format : Format) (identity : List ℕ) (waits : Bool) (old new : Page T) (split : Split) (u w : O)
    → TakesFirst old.splitter split → new.splitter ≡ split → new.standing.lines ≡ old.standing.lines + 1
    → Follows takes format identity (ended_line (old.standing.lines + 1) old.splitter.place (before_first is_lf old.splitter.left) ∷ []) old new u w
    → Advances takes format identity waits [] old new u w
advances_line takes format identity waits old new split u w first same lines follows = record {
  lines = ended_line (old.standing.lines + 1) old.splitter.place (before_first is_lf old.splitter.left) ∷ [];
  taken = λ rest. to_come-first waits old new split rest first same lines;
  place = ap (λ s. s.place) same ∙ first.place;
  follows = follows;
}

-- it stopped within one line
pub stops_in_line : {T O : Type 0} (stops : Stops T O) (format : Format) (identity : List ℕ) (waits : Bool) (old z : Page T) (split : Split) (u w : O)
    → TakesFirst old.splitter split
    → StopsIn stops format identity (ended_line (old.standing.lines + 1) old.splitter.place (before_first is_lf old.splitter.left) ∷ []) old z u w
    → StopsWithin stops format identity waits [] old z u w
stops_in_line {T = T} stops format identity waits old z split u w first stopped = record {
  within = λ rest.
      let line = ended_line (old.standing.lines + 1) old.splitter.place (before_first is_lf old.splitter.left) in
      let others = lines_to_come waits (old.standing.lines + 1 + 1) (old.splitter.place + length (before_first is_lf old.splitter.left) + 1) (after_first is_lf old.splitter.left ++ rest) in
      let Of : List Line → Type 0 = λ lines. StopsIn stops format identity lines old z u w in
      subst Of (sym (lines_to_come-first waits (old.standing.lines + 1) old.splitter.place old.splitter.left rest first.has_end))
      (stops_more stops format identity (line ∷ []) others old z u w stopped);
}

pub advances_none : {T O : Type 0} (takes : Takes T O) (format : Format) (identity : List ℕ) (waits : Bool) (page : Page T) (w : O) → takes page.taker w [] page.taker w → Advances takes format identity waits [] page page w w
advances_none takes format identity waits page w nothing = record { lines = []; taken = λ rest. refl; place = refl; follows = follows_none takes format identity page w nothing }

pub advances_on : {T O : Type 0} (takes : Takes T O) (format : Format) (identity : List ℕ) (waits : Bool) (b c : Page T) (v w : O) → c.splitter ≡ b.splitter → c.standing ≡ b.standing → c.rows ≡ b.rows → c.bad ≡ b.bad → takes b.taker v [] c.taker w → Advances takes format identity waits [] b c v w
advances_on takes format identity waits b c v w splitter standing rows bad nothing = record {
  lines = [];
  taken = λ rest.
      ap (λ (s : Split). lines_to_come waits (b.standing.lines + 1) s.place (s.left ++ rest)) (sym splitter)
      ∙ ap (λ (t : Standing). lines_to_come waits (t.lines + 1) c.splitter.place (c.splitter.left ++ rest)) (sym standing);
  place = ap (λ (s : Split). s.place) splitter;
  follows = follows_on takes format identity b c v w standing rows bad nothing;
}

end_of-append : (place : ℕ) (first second : List Line) → end_of place (first ++ second) ≡ end_of (end_of place first) second
end_of-append place [] second = refl
end_of-append place (line ∷ first) second = end_of-append line.end first second

pub advances_trans : {T O : Type 0} (takes : Takes T O) (more : TakesMore takes) (format : Format) (identity : List ℕ) (waits : Bool) (first second : List ℕ) (a b c : Page T) (u v w : O)
    → Advances takes format identity waits first a b u v → Advances takes format identity waits second b c v w → Advances takes format identity waits (first ++ second) a c u w
advances_trans takes more format identity waits first second a b c u v w f s = record {
  lines = f.lines ++ s.lines;
  taken = λ rest. ap (to_come waits a) (append_assoc first second rest) ∙ (f.taken (second ++ rest) ∙ (ap (λ t. f.lines ++ t) (s.taken rest) ∙ sym (append_assoc f.lines s.lines (to_come waits c rest))));
  place = s.place ∙ (ap (λ p. end_of p s.lines) f.place ∙ sym (end_of-append a.splitter.place f.lines s.lines));
  follows = follows_trans takes more format identity f.lines s.lines a b c u v w f.follows s.follows;
}

pub stops_within : {T O : Type 0} (takes : Takes T O) (stops : Stops T O) (later : StopsLater takes stops) (format : Format) (identity : List ℕ) (waits : Bool) (first second : List ℕ) (a b z : Page T) (u v w : O)
    → b.most_bad ≡ a.most_bad → Advances takes format identity waits first a b u v → StopsWithin stops format identity waits second b z v w → StopsWithin stops format identity waits (first ++ second) a z u w
stops_within takes stops later format identity waits first second a b z u v w most f s = record {
  within = λ rest.
      let Of : List Line → Type 0 = λ lines. StopsIn stops format identity lines a z u w in
      subst Of (sym (ap (to_come waits a) (append_assoc first second rest) ∙ f.taken (second ++ rest)))
      (stops_trans takes stops later format identity f.lines (to_come waits b (second ++ rest)) a b z u v w most f.follows (s.within rest));
}

-- what stands behind the last LF is a line where it has a text
pub to_come-last : {T : Type 0} (page : Page T) → length page.splitter.left ≤ position_or_len is_lf page.splitter.left → 0 < length (text_at page.splitter.place page.splitter.left)
    → to_come false page [] ≡ last_line (page.standing.lines + 1) page.splitter.place page.splitter.left ∷ []
to_come-last page none some =
    let yes' : nat_lt 0 (length (text_at page.splitter.place page.splitter.left)) ≡ true = lt-ltb 0 _ some in
    ap (lines_to_come false (page.standing.lines + 1) page.splitter.place) (append-nil page.splitter.left)
    ∙ (lines_to_come-last false (page.standing.lines + 1) page.splitter.place page.splitter.left none ∙ rw yes' refl)

pub to_come-nothing : {T : Type 0} (page : Page T) → length page.splitter.left ≤ position_or_len is_lf page.splitter.left → text_at page.splitter.place page.splitter.left ≡ []
    → to_come false page [] ≡ []
to_come-nothing page none empty =
    ap (lines_to_come false (page.standing.lines + 1) page.splitter.place) (append-nil page.splitter.left)
    ∙ (lines_to_come-last false (page.standing.lines + 1) page.splitter.place page.splitter.left none ∙ rw empty refl)

-- where lines wait, nothing stands behind the last LF
pub to_come-waiting : {T : Type 0} (page : Page T) → length page.splitter.left ≤ position_or_len is_lf page.splitter.left → to_come true page [] ≡ []
to_come-waiting page none =
    ap (lines_to_come true (page.standing.lines + 1) page.splitter.place) (append-nil page.splitter.left)
    ∙ lines_to_come-last true (page.standing.lines + 1) page.splitter.place page.splitter.left none

pub spends_trans : {T : Type 0} (count : T → ℕ) (a b c : Page T) (m n : ℕ) → Spends count a b m → Spends count b c n → Spends count a c (m + n)
spends_trans count a b c m n f s =
    let f1 = f.lines in let f2 = f.rows in let f3 = f.bad in let f4 = f.taken in
    let s1 = s.lines in let s2 = s.rows in let s3 = s.bad in let s4 = s.taken in
    record { lines = omega arith; rows = omega arith; bad = omega arith; taken = omega arith }

-- a piece was fed
to_come-fed : {T : Type 0} (waits : Bool) (piece rest : List ℕ) (old : Page T) (split : Split) → split.place ≡ old.splitter.place → split.left ≡ old.splitter.left ++ piece
    → to_come waits old (piece ++ rest) ≡ lines_to_come waits (old.standing.lines + 1) split.place (split.left ++ rest)
to_come-fed waits piece rest old split place left =
    come_same waits (old.standing.lines + 1) (old.standing.lines + 1) old.splitter.place split.place (old.splitter.left ++ (piece ++ rest)) (split.left ++ rest) refl (sym place)
    (sym (append_assoc old.splitter.left piece rest) ∙ ap (λ t. t ++ rest) (sym left))

pub advances_fed : {T O : Type 0} (takes : Takes T O) (format : Format) (identity : List ℕ) (waits : Bool) (piece : List ℕ) (old : Page T) (split : Split) (new : Page T) (u w : O)
    → split.place ≡ old.splitter.place → split.left ≡ old.splitter.left ++ piece → Advances takes format identity waits [] (record old { splitter = split }) new u w → Advances takes format identity waits piece old new u w
advances_fed takes format identity waits piece old split new u w place left a = record {
  lines = a.lines;
  taken = λ rest. to_come-fed waits piece rest old split place left ∙ a.taken rest;
  place = a.place ∙ ap (λ p. end_of p a.lines) place;
  follows = record { behind = λ history at. let b = a.follows.behind history at in record { done = b.done; standing = b.standing; rows = b.rows; bad = b.bad } };
}

pub stops_fed : {T O : Type 0} (stops : Stops T O) (format : Format) (identity : List ℕ) (waits : Bool) (piece : List ℕ) (old : Page T) (split : Split) (z : Page T) (u w : O)
    → split.place ≡ old.splitter.place → split.left ≡ old.splitter.left ++ piece → StopsWithin stops format identity waits [] (record old { splitter = split }) z u w → StopsWithin stops format identity waits piece old z u w
stops_fed {T = T} stops format identity waits piece old split z u w place left s = record {
  within = λ rest.
      let Of : List Line → Type 0 = λ lines. StopsIn stops format identity lines old z u w in
      subst Of (sym (to_come-fed waits piece rest old split place left)) (stops_refed stops format identity (to_come waits (record old { splitter = split }) ([] ++ rest)) old split z u w (s.within rest));
}

-- a bad line where there are as many as may be
exceeds_first : {T O : Type 0} (takes : Takes T O) (format : Format) (identity : List ℕ) (history : List Line) (line : Line) (old new : Page T) (w : O) (row : ℕ)
    → line.number ≡ row → is_bad (reading_behind format history line) ≡ true → takes old.taker w [] old.taker w → new.taker ≡ old.taker → old.most_bad ≡ Some old.bad
    → ExceedsAfter takes format identity history (line ∷ []) old new w w row
exceeds_first {T = T} takes format identity history line old new w row number is nothing taker most =
    let At : T → Type 0 = λ t. takes old.taker w [] t w in
    let none : old.bad ≡ old.bad + 0 = omega arith in
    record {
      front = [];
      line = line;
      rest = [];
      stands = refl;
      number = number;
      bad = ap (λ h. is_bad (reading_behind format h line)) (append-nil history) ∙ is;
      taken = subst At (sym taker) nothing;
      most = most ∙ ap Some none;
    }

pub exceeds_line : {T O : Type 0} (takes : Takes T O) (format : Format) (identity : List ℕ) (line : Line) (old new : Page T) (w : O) (text : List ℕ) (reading : Reading) (row : ℕ)
    → line.number ≡ row → line.text ≡ text → is_overlong line.text ≡ false → reading ≡ format.reading text old.standing.columns → is_bad reading ≡ true
    → takes old.taker w [] old.taker w → new.taker ≡ old.taker → old.most_bad ≡ Some old.bad → ExceedsIn takes format identity (line ∷ []) old new w w row
exceeds_line takes format identity line old new w text reading row number same short read is nothing taker most = record {
  behind = λ history at.
      let reading' : reading_behind format history line ≡ reading = reading_line format history line text old.standing at same short ∙ sym read in
      exceeds_first takes format identity history line old new w row number (ap is_bad reading' ∙ is) nothing taker most;
}

pub exceeds_overlong : {T O : Type 0} (takes : Takes T O) (format : Format) (identity : List ℕ) (line : Line) (old new : Page T) (w : O) (row : ℕ) → line.number ≡ row → is_overlong line.text ≡ true
    → takes old.taker w [] old.taker w → new.taker ≡ old.taker → old.most_bad ≡ Some old.bad → ExceedsIn takes format identity (line ∷ []) old new w w row
exceeds_overlong takes format identity line old new w row number long nothing taker most = record {
  behind = λ history at.
      let is : is_bad (reading_behind format history line) ≡ true = rw long refl in
      exceeds_first takes format identity history line old new w row number is nothing taker most;
}

pub exceeds_trans : {T O : Type 0} (takes : Takes T O) (more : TakesMore takes) (format : Format) (identity : List ℕ) (first second : List Line) (a b z : Page T) (u v w : O) (row : ℕ)
    → b.most_bad ≡ a.most_bad → Follows takes format identity first a b u v → ExceedsIn takes format identity second b z v w row → ExceedsIn takes format identity (first ++ second) a z u w row
exceeds_trans takes more format identity first second a b z u v w row most f s = record {
  behind = λ history at.
      let f' = f.behind history at in
      let s' = s.behind (history ++ first) f'.standing in
      let size = bad_both format history first s'.front in
      let bad_now = f'.bad in
      let count : b.bad + length (bad_following format (history ++ first) s'.front) ≡ a.bad + length (bad_following format history (first ++ s'.front)) = omega arith in
      let Taken : List Met → Type 0 = λ t. takes a.taker u t z.taker w in
      record {
        front = first ++ s'.front;
        line = s'.line;
        rest = s'.rest;
        stands = ap (λ l. first ++ l) s'.stands ∙ sym (append_assoc first s'.front (s'.line ∷ s'.rest));
        number = s'.number;
        bad = ap (λ h. is_bad (reading_behind format h s'.line)) (sym (append_assoc history first s'.front)) ∙ s'.bad;
        taken = subst Taken (met_both format identity history first s'.front) (more _ _ _ _ _ _ _ _ f'.done s'.taken);
        most = sym most ∙ (s'.most ∙ ap Some count);
      };
}

pub exceeds_more : {T O : Type 0} (takes : Takes T O) (format : Format) (identity : List ℕ) (first second : List Line) (a z : Page T) (u w : O) (row : ℕ)
    → ExceedsIn takes format identity first a z u w row → ExceedsIn takes format identity (first ++ second) a z u w row
exceeds_more takes format identity first second a z u w row s = record {
  behind = λ history at.
      let s' = s.behind history at in
      record {
        front = s'.front;
        line = s'.line;
        rest = s'.rest ++ second;
        stands = ap (λ l. l ++ second) s'.stands ∙ append_assoc s'.front (s'.line ∷ s'.rest) second;
        number = s'.number;
        bad = s'.bad;
        taken = s'.taken;
        most = s'.most;
      };
}

-- a piece was fed
exceeds_refed : {T O : Type 0} (takes : Takes T O) (format : Format) (identity : List ℕ) (lines : List Line) (old : Page T) (split : Split) (z : Page T) (u w : O) (row : ℕ)
    → ExceedsIn takes format identity lines (record old { splitter = split }) z u w row → ExceedsIn takes format identity lines old z u w row
exceeds_refed takes format identity lines old split z u w row s = record {
  behind = λ history at.
      let s' = s.behind history at in
      record { front = s'.front; line = s'.line; rest = s'.rest; stands = s'.stands; number = s'.number; bad = s'.bad; taken = s'.taken; most = s'.most };
}

pub exceeds_in_line : {T O : Type 0} (takes : Takes T O) (format : Format) (identity : List ℕ) (waits : Bool) (old z : Page T) (split : Split) (u w : O) (row : ℕ) → TakesFirst old.splitter split
    → ExceedsIn takes format identity (ended_line (old.standing.lines + 1) old.splitter.place (before_first is_lf old.splitter.left) ∷ []) old z u w row → ExceedsWithin takes format identity waits [] old z u w row
exceeds_in_line takes format identity waits old z split u w row first s = record {
  within = λ rest.
      let line = ended_line (old.standing.lines + 1) old.splitter.place (before_first is_lf old.splitter.left) in
      let others = lines_to_come waits (old.standing.lines + 1 + 1) (old.splitter.place + length (before_first is_lf old.splitter.left) + 1) (after_first is_lf old.splitter.left ++ rest) in
      let Of : List Line → Type 0 = λ lines. ExceedsIn takes format identity lines old z u w row in
      subst Of (sym (lines_to_come-first waits (old.standing.lines + 1) old.splitter.place old.splitter.left rest first.has_end)) (exceeds_more takes format identity (line ∷ []) others old z u w row s);
}

pub exceeds_within : {T O : Type 0} (takes : Takes T O) (more : TakesMore takes) (format : Format) (identity : List ℕ) (waits : Bool) (first second : List ℕ) (a b z : Page T) (u v w : O) (row : ℕ)
    → b.most_bad ≡ a.most_bad → Advances takes format identity waits first a b u v → ExceedsWithin takes format identity waits second b z v w row → ExceedsWithin takes format identity waits (first ++ second) a z u w row
exceeds_within takes more format identity waits first second a b z u v w row most f s = record {
  within = λ rest.
      let Of : List Line → Type 0 = λ lines. ExceedsIn takes format identity lines a z u w row in
      subst Of (sym (ap (to_come waits a) (append_assoc first second rest) ∙ f.taken (second ++ rest)))
      (exceeds_trans takes more format identity f.lines (to_come waits b (second ++ rest)) a b z u v w row most f.follows (s.within rest));
}

pub exceeds_fed : {T O : Type 0} (takes : Takes T O) (format : Format) (identity : List ℕ) (waits : Bool) (piece : List ℕ) (old : Page T) (split : Split) (z : Page T) (u w : O) (row : ℕ)
    → split.place ≡ old.splitter.place → split.left ≡ old.splitter.left ++ piece → ExceedsWithin takes format identity waits [] (record old { splitter = split }) z u w row → ExceedsWithin takes format identity waits piece old z u w row
exceeds_fed takes format identity waits piece old split z u w row place left s = record {
  within = λ rest.
      let Of : List Line → Type 0 = λ lines. ExceedsIn takes format identity lines old z u w row in
      subst Of (sym (to_come-fed waits piece rest old split place left)) (exceeds_refed takes format identity (to_come waits (record old { splitter = split }) ([] ++ rest)) old split z u w row (s.within rest));
}

-- it stopped with nothing taken
pub stops_unmoved : {T O : Type 0} (takes : Takes T O) (stops : Stops T O) (here : StopsHere takes stops) (format : Format) (identity : List ℕ) (lines : List Line) (old new : Page T) (w : O)
    → new.taker ≡ old.taker → takes old.taker w [] old.taker w → IsWithin old.most_bad old.bad → StopsIn stops format identity lines old new w w
stops_unmoved {T = T} takes stops here format identity lines old new w taker nothing within =
    let At : T → Type 0 = λ t. takes old.taker w [] t w in
    stops_first stops format identity lines old new w w within (here old.taker new.taker w w [] [] (subst At (sym taker) nothing))

pub stops_within_unmoved : {T O : Type 0} (takes : Takes T O) (stops : Stops T O) (here : StopsHere takes stops) (format : Format) (identity : List ℕ) (waits : Bool) (piece : List ℕ) (old new : Page T) (w : O)
    → new.taker ≡ old.taker → takes old.taker w [] old.taker w → IsWithin old.most_bad old.bad → StopsWithin stops format identity waits piece old new w w
stops_within_unmoved takes stops here format identity waits piece old new w taker nothing within = record {
  within = λ rest. stops_unmoved takes stops here format identity (to_come waits old (piece ++ rest)) old new w taker nothing within;
}
