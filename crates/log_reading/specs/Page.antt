-- How far the reading of a log has come.
use Rattle.std.specs.Prelude.{◌≡◌, ◌+◌, ◌<◌, ◌≤◌, ◌^◌, ℕ, Bool, true, List, [], ◌++◌, ◌∷◌, length, Option, Some, IfSome, ⊤}
use Rattle.lp_model.specs.Lines.{Line, lines_to_come}
use Rattle.lp_model.specs.Reading.{Format, is_bad, reading_behind, standing_behind}
use Rattle.lp_model.specs.Following.{records_following, bad_following, end_of}
use Rattle.log_reading.specs.Found.{Met, met_of}
use Rattle.log_reading.specs.declared.page.Page.{Page}
use Rattle.log_reading.specs.declared.taker.LineFault.{LineFault}
use Rattle.log_reading.specs.declared.taker.LineFault.TheVariants as fault

-- what a taker makes of what it meets
abbrev pub Takes : Type 0 → Type 0 → Type 1
Takes T O = T → O → List Met → T → O → Type 0

-- what stands in an output where a taker stopped within what it met
abbrev pub Stops : Type 0 → Type 0 → Type 1
Stops T O = T → O → List Met → T → O → Type 0

-- the lines that are still to come, where these bytes follow those that were fed
abbrev pub to_come : {T : Type 0} → Bool → Page T → List ℕ → List Line
to_come waits page more = lines_to_come waits (page.standing.lines + 1) page.splitter.place (page.splitter.left ++ more)

-- lines behind others were taken
pub record TakesBehind {T O : Type 0} (takes : Takes T O) (format : Format) (identity : List ℕ) (history lines : List Line) (old new : Page T) (before now : O) : Type 0 where
  pub done : takes old.taker before (met_of identity (records_following format history lines)) new.taker now
  pub standing : new.standing ≡ standing_behind format (history ++ lines)
  pub rows : new.rows ≡ old.rows + length (records_following format history lines)
  pub bad : new.bad ≡ old.bad + length (bad_following format history lines)

-- lines were taken, whatever lines the standing stands for
pub record Follows {T O : Type 0} (takes : Takes T O) (format : Format) (identity : List ℕ) (lines : List Line) (old new : Page T) (before now : O) : Type 0 where
  pub behind : (history : List Line) → old.standing ≡ standing_behind format history → TakesBehind takes format identity history lines old new before now

-- a piece was fed, and some of the lines to come were taken
pub record Advances {T O : Type 0} (takes : Takes T O) (format : Format) (identity : List ℕ) (waits : Bool) (piece : List ℕ) (old new : Page T) (before now : O) : Type 0 where
  pub lines : List Line
  pub taken : (rest : List ℕ) → to_come waits old (piece ++ rest) ≡ lines ++ to_come waits new rest
  pub place : new.splitter.place ≡ end_of old.splitter.place lines
  pub follows : Follows takes format identity lines old new before now

-- the output holds what a taker left that stopped within the rows of this line
pub record StopsOnLine {T O : Type 0} (stops : Stops T O) (format : Format) (identity : List ℕ) (line : Line) (old new : Page T) (before now : O) : Type 0 where
  pub behind : (history : List Line) → old.standing ≡ standing_behind format history → stops old.taker before (met_of identity (records_following format history (line ∷ []))) new.taker now

-- there are no more bad lines than there may be
abbrev pub IsWithin : Option ℕ → ℕ → Type 0
IsWithin most_bad bad = IfSome most_bad (λ most. bad ≤ most)

-- the output holds what a taker left that stopped within the rows of some first lines of these, behind others; of them no more are bad than may be
pub record StopsAfter {T O : Type 0} (stops : Stops T O) (format : Format) (identity : List ℕ) (history lines : List Line) (old new : Page T) (before now : O) : Type 0 where
  pub front : List Line
  pub rest : List Line
  pub stands : lines ≡ front ++ rest
  pub stopped : stops old.taker before (met_of identity (records_following format history front)) new.taker now
  pub within : IsWithin old.most_bad (old.bad + length (bad_following format history front))

-- it stopped so within these lines, whatever lines the standing stands for
pub record StopsIn {T O : Type 0} (stops : Stops T O) (format : Format) (identity : List ℕ) (lines : List Line) (old new : Page T) (before now : O) : Type 0 where
  pub behind : (history : List Line) → old.standing ≡ standing_behind format history → StopsAfter stops format identity history lines old new before now

-- the same for a piece, whatever bytes follow it
pub record StopsWithin {T O : Type 0} (stops : Stops T O) (format : Format) (identity : List ℕ) (waits : Bool) (piece : List ℕ) (old new : Page T) (before now : O) : Type 0 where
  pub within : (rest : List ℕ) → StopsIn stops format identity (to_come waits old (piece ++ rest)) old new before now

-- of these bad lines, with so many before them, this is the first that is one too many
pub record IsTooMany {B : Type 0} (most_bad : Option ℕ) (bad : ℕ) (lines : List B) (line : B) : Type 0 where
  pub front : List B
  pub rest : List B
  pub stands : lines ≡ front ++ line ∷ rest
  pub most : most_bad ≡ Some (bad + length front)

-- the bad line of this number among these, behind others, is one too many, and the rows of the lines before it were taken
pub record ExceedsAfter {T O : Type 0} (takes : Takes T O) (format : Format) (identity : List ℕ) (history lines : List Line) (old new : Page T) (before now : O) (row : ℕ) : Type 0 where
  pub front : List Line
  pub line : Line
  pub rest : List Line
  pub stands : lines ≡ front ++ line ∷ rest
  pub number : line.number ≡ row
  pub bad : is_bad (reading_behind format (history ++ front) line) ≡ true
  pub taken : takes old.taker before (met_of identity (records_following format history front)) new.taker now
  pub most : old.most_bad ≡ Some (old.bad + length (bad_following format history front))

-- it is so among these lines, whatever lines the standing stands for
pub record ExceedsIn {T O : Type 0} (takes : Takes T O) (format : Format) (identity : List ℕ) (lines : List Line) (old new : Page T) (before now : O) (row : ℕ) : Type 0 where
  pub behind : (history : List Line) → old.standing ≡ standing_behind format history → ExceedsAfter takes format identity history lines old new before now row

-- the same for a piece, whatever bytes follow it
pub record ExceedsWithin {T O : Type 0} (takes : Takes T O) (format : Format) (identity : List ℕ) (waits : Bool) (piece : List ℕ) (old new : Page T) (before now : O) (row : ℕ) : Type 0 where
  pub within : (rest : List ℕ) → ExceedsIn takes format identity (to_come waits old (piece ++ rest)) old new before now row

-- a fact on the bad line that was one too many
abbrev pub OnBad : LineFault → (ℕ → Type 0) → Type 0
OnBad fault.Memory P = ⊤
OnBad fault.Failed P = ⊤
OnBad fault.Stopped P = ⊤
OnBad (fault.Bad row) P = P row

-- the counts have room for so many lines more
pub record HasRoom {T : Type 0} (count : T → ℕ) (page : Page T) (more : ℕ) : Type 0 where
  pub lines : page.standing.lines + more < 2 ^ 63
  pub rows : page.rows + more < 2 ^ 63
  pub bad : page.bad + more < 2 ^ 63
  pub taken : count page.taker + more < 2 ^ 63

-- no count rose by more than the bytes that are gone of those fed, and so many more
pub record Spends {T : Type 0} (count : T → ℕ) (old new : Page T) (more : ℕ) : Type 0 where
  pub lines : new.standing.lines + length new.splitter.left ≤ old.standing.lines + length old.splitter.left + more
  pub rows : new.rows + length new.splitter.left ≤ old.rows + length old.splitter.left + more
  pub bad : new.bad + length new.splitter.left ≤ old.bad + length old.splitter.left + more
  pub taken : count new.taker + length new.splitter.left ≤ count old.taker + length old.splitter.left + more
