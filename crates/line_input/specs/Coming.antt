-- What a splitter answers, by the lines that stand where it is.
use Rattle.std.specs.Prelude.{◌≡◌, ◌≤◌, ◌+◌, ℕ, Bool, true, false, List, [], ◌∷◌, ◌++◌, length}
use Rattle.std.specs.List.{position_or_len}
use Rattle.lp_model.specs.Lines.{Line, is_lf, is_overlong, lines_to_come}
use Rattle.line_input.specs.Splitter.{Split}
use Rattle.line_input.specs.Handed.{HandsNext, HandsRest}
use Rattle.line_input.specs.declared.splitter.Next.{Next}
use Rattle.line_input.specs.declared.splitter.Next.TheVariants as answers

-- the lines that are still to come, of which the first has this number, where these bytes follow those that were fed
abbrev pub lines_at : Bool → ℕ → Split → List ℕ → List Line
lines_at waits number split more = lines_to_come waits number split.place (split.left ++ more)

-- the answer tells a line: its text, or that it is too long
abbrev pub TellsText : Next → Split → Line → Type 0
TellsText answers.Line split line = (split.line ≡ line.text) × (is_overlong line.text ≡ false)
TellsText answers.TooLongLine split line = is_overlong line.text ≡ true
TellsText answers.NeedMore split line = ⊥

-- the answer tells the first of some lines, and these others stand behind it
pub record TellsFirst (answer : Next) (lines others : List Line) (new : Split) : Type 0 where
  pub line : Line
  pub first : lines ≡ line ∷ others
  pub place : new.place ≡ line.end
  pub text : TellsText answer new line

-- the next line, whatever bytes follow
abbrev pub TellsNext : Next → Split → Split → Type 0
TellsNext answer old new = (waits : Bool) (number : ℕ) (more : List ℕ) → TellsFirst answer (lines_at waits number old more) (lines_at waits (number + 1) new more) new

-- the next line that LF ends, or that there is none yet
abbrev pub AnswersNext : Next → Split → Split → Type 0
AnswersNext answers.Line old new = TellsNext answers.Line old new
AnswersNext answers.TooLongLine old new = TellsNext answers.TooLongLine old new
AnswersNext answers.NeedMore old new = ((number : ℕ) → lines_at true number old [] ≡ []) × (new ≡ old)

-- the last line, behind which nothing stands
abbrev pub TellsLast : Next → Split → Split → Type 0
TellsLast answer old new = (number : ℕ) → TellsFirst answer (lines_at false number old []) [] new

-- the line that the end of input ends, or that there is none
abbrev pub AnswersRest : Next → Split → Split → Type 0
AnswersRest answers.Line old new = TellsLast answers.Line old new
AnswersRest answers.TooLongLine old new = TellsLast answers.TooLongLine old new
AnswersRest answers.NeedMore old new = ((number : ℕ) → lines_at false number old [] ≡ []) × (new ≡ old)

-- what is handed out is the next of the lines that stand there
abbrev pub HandsLines : Type 0
HandsLines = (answer : Next) (old new : Split) → HandsNext old answer new → AnswersNext answer old new

-- at the end of input it is the last of them, where no LF is left
abbrev pub HandsLastLine : Type 0
HandsLastLine = (answer : Next) (old new : Split) → length old.left ≤ position_or_len is_lf old.left → HandsRest old answer new → AnswersRest answer old new
