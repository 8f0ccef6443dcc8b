-- Runs: parts of a pattern without `%` and `_`, and where they stand in a text, in either case of a letter of ASCII.
use Rattle.std.specs.Prelude.{◌≡◌, ◌<◌, ◌≤◌, ℕ, Bool, false, ◌||◌, ◌==◌, List, ◌∷◌, ◌++◌, length, take, drop, map}
use Rattle.std.specs.Char.{to_ascii_lowercase}
use Rattle.std.specs.List.{list_any}
use Rattle.std.specs.Str.{IsUtf8}
use Rattle.text_functions.specs.declared.runs.Run.{Run}
use Rattle.text_functions.specs.declared.runs.Run.TheVariants.{Blank, Last, Between}

-- the same in either case of a letter
abbrev pub IsSame : List ℕ → List ℕ → Type 0
IsSame xs ys = map to_ascii_lowercase xs ≡ map to_ascii_lowercase ys

-- a run stands at a place of a text
abbrev pub StandsAt : List ℕ → List ℕ → ℕ → Type 0
StandsAt run text at = IsSame (take (length run) (drop at text)) run

abbrev pub StandsNowhere : List ℕ → List ℕ → Type 0
StandsNowhere run text = (at : ℕ) → ¬ (StandsAt run text at)

-- it stands there, and nowhere before
pub record IsFirstStand (run text : List ℕ) (at : ℕ) : Type 0 where
  pub here : StandsAt run text at
  pub first : (before : ℕ) → before < at → ¬ (StandsAt run text before)

-- a text in which a run stands nowhere
abbrev pub LacksRun : List ℕ → List ℕ → Type 0
LacksRun run text = (front found rest : List ℕ) → text ≡ front ++ (found ++ rest) → ¬ (IsSame found run)

-- what stands behind the first place of a text at which a run stands
pub record IsBehindFirst (run text behind : List ℕ) : Type 0 where
  pub before : List ℕ
  pub found : List ℕ
  pub whole : text ≡ before ++ (found ++ behind)
  pub same : IsSame found run
  pub first : (front other rest : List ℕ) → text ≡ front ++ (other ++ rest) → IsSame other run → length before ≤ length front

abbrev pub EndsWithRun : List ℕ → List ℕ → Type 0
EndsWithRun run text = (before : List ℕ) × (found : List ℕ) × (text ≡ before ++ found) × IsSame found run

-- no `%` and no `_`
abbrev pub is_sign : ℕ → Bool
is_sign byte = byte == 37 || byte == 95

abbrev pub IsPlain : List ℕ → Type 0
IsPlain run = list_any is_sign run ≡ false

-- what the first characters of a pattern are
abbrev pub IsRun : List ℕ → Run → Type 0
IsRun pattern Blank = (run : List ℕ) × (rest : List ℕ) × (pattern ≡ run ++ (95 ∷ rest)) × IsPlain run
IsRun pattern (Last run) = (pattern ≡ run.now) × IsPlain run.now × IsUtf8 run.now
IsRun pattern (Between run behind) = (pattern ≡ run.now ++ (37 ∷ behind.now)) × IsPlain run.now × IsUtf8 run.now × IsUtf8 behind.now
