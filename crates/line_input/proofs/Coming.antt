-- What a splitter hands out is the next line.
use Rattle.std.proofs.Common.{◌≡◌, ◌+◌, ◌<◌, ◌≤◌, ℕ, true, false, List, [], ◌∷◌, ◌++◌, length, nat_lt, lt-ltb, refl, sym, ap, ◌∙◌}
use Rattle.std.proofs.lemmas.List.{append-nil}
use Rattle.std.specs.List.{position_or_len, before_first, after_first}
use Rattle.lp_model.specs.Lines.{Line, is_lf, text_at, ended_line, last_line, lines_to_come}
use Rattle.lp_model.proofs.Cutting.{lines_to_come-last}
use Rattle.lp_model.proofs.Feeding.{lines_to_come-first}
use Rattle.lp_model.proofs.Ordered.{come_same}
use Rattle.line_input.specs.Splitter.{Split}
use Rattle.line_input.specs.Handed.{TakesFirst, TakesAll}
use Rattle.line_input.specs.Coming.{lines_at, TellsText, TellsNext, TellsLast, HandsLines, HandsLastLine}
use Rattle.line_input.specs.declared.splitter.Next.{Next}
use Rattle.line_input.specs.declared.splitter.Next.TheVariants as answers

-- the first line is the one that LF ends
told_first : (answer : Next) (old new : Split) → TakesFirst old new → ((number : ℕ) → TellsText answer new (ended_line number old.place (before_first is_lf old.left))) → TellsNext answer old new
told_first answer old new first text = λ waits number more.
    let line = ended_line number old.place (before_first is_lf old.left) in
    record {
      line = line;
      first = lines_to_come-first waits number old.place old.left more first.has_end
          ∙ ap (λ (lines : List Line). line ∷ lines) (come_same waits (number + 1) (number + 1) (old.place + length (before_first is_lf old.left) + 1) new.place (after_first is_lf old.left ++ more) (new.left ++ more) refl (sym first.place) (ap (λ (t : List ℕ). t ++ more) (sym first.left)));
      place = first.place;
      text = text number;
    }

-- no LF stands there
none_ended : (split : Split) (number : ℕ) → length split.left ≤ position_or_len is_lf split.left → lines_at true number split [] ≡ []
none_ended split number none = ap (lines_to_come true number split.place) (append-nil split.left) ∙ lines_to_come-last true number split.place split.left none

pub hands_lines : HandsLines
hands_lines answers.Line old new (first, text, short) = told_first answers.Line old new first (λ number. (text, short))
hands_lines answers.TooLongLine old new (first, none, long) = told_first answers.TooLongLine old new first (λ number. long)
hands_lines answers.NeedMore old new (none, same) = ((λ number. none_ended old number none), same)

-- what stands behind the last LF is a line where it has a text
last_there : (split : Split) (number : ℕ) → length split.left ≤ position_or_len is_lf split.left → 0 < length (text_at split.place split.left) → lines_at false number split [] ≡ last_line number split.place split.left ∷ []
last_there split number none some =
    let yes : nat_lt 0 (length (text_at split.place split.left)) ≡ true = lt-ltb 0 (length (text_at split.place split.left)) some in
    ap (lines_to_come false number split.place) (append-nil split.left) ∙ (lines_to_come-last false number split.place split.left none ∙ rw yes refl)

last_missing : (split : Split) (number : ℕ) → length split.left ≤ position_or_len is_lf split.left → text_at split.place split.left ≡ [] → lines_at false number split [] ≡ []
last_missing split number none empty =
    ap (lines_to_come false number split.place) (append-nil split.left) ∙ (lines_to_come-last false number split.place split.left none ∙ rw empty refl)

told_last : (answer : Next) (old new : Split) → length old.left ≤ position_or_len is_lf old.left → TakesAll old new → ((number : ℕ) → TellsText answer new (last_line number old.place old.left)) → TellsLast answer old new
told_last answer old new none all text = λ number. record { line = last_line number old.place old.left; first = last_there old number none all.some; place = all.place; text = text number }

pub hands_last_line : HandsLastLine
hands_last_line answers.Line old new none (all, text, short) = told_last answers.Line old new none all (λ number. (text, short))
hands_last_line answers.TooLongLine old new none (all, empty, long) = told_last answers.TooLongLine old new none all (λ number. long)
hands_last_line answers.NeedMore old new none (empty, same) = ((λ number. last_missing old number none empty), same)
