-- Which names a pattern matches.
use Rattle.std.specs.Prelude.{◌≡◌, ◌≢◌, ◌⊎◌, ◌↔◌, ℕ, ◌-◌, ◌≤◌, List, [], ◌∷◌, length, take, drop, Some, IsSome, slice_get, Contains, ◌==◌}
use Rattle.std.specs.Bool.{MatchBool}
use Rattle.std.specs.List.{All}
use Rattle.std.specs.List.Sorted.{IsStrictlySortedBy}
use Rattle.std.specs.Ordering.{nat_cmp}
use Rattle.std.specs.Cmp.Lexicographic.{slice_cmp}
use Rattle.lp_model.specs.Outside.{Folder}

-- a first byte that the pattern's byte stands for, `?` for any, and then what the rest matches
abbrev pub FirstIs : ℕ → (List ℕ → Type 0) → List ℕ → Type 0
FirstIs byte Rest [] = ⊥
FirstIs byte Rest (first ∷ more) = ((byte ≡ 63) ⊎ (first ≡ byte)) × Rest more

-- a pattern matches a text: `*` stands for any bytes, `?` for one, and any other byte for itself
unfoldable pub MatchesPart : List ℕ → List ℕ → Type 0
MatchesPart [] text = text ≡ []
MatchesPart (byte ∷ pattern) text = MatchBool (byte == 42) ((skipped : ℕ) × MatchesPart pattern (drop skipped text)) (FirstIs byte (MatchesPart pattern) text)

-- the last part of a name begins there: at the front or behind a slash, with no slash in it
pub record IsPartStart (name : List ℕ) (start : ℕ) : Type 0 where
  pub within : start ≤ length name
  pub behind : (start ≡ 0) ⊎ (slice_get name (start - 1) ≡ Some 47)
  pub no_slash : All (λ byte. byte ≢ 47) (drop start name)

-- a pattern matches a name: all before the last part is the same, and the last part matches
pub record Matches (pattern name : List ℕ) : Type 0 where
  pub start : ℕ
  pub of_pattern : IsPartStart pattern start
  pub of_name : IsPartStart name start
  pub folder : take start name ≡ take start pattern
  pub part : MatchesPart (drop start pattern) (drop start name)

-- these are the names of the files that match, in byte order, each once
pub record AreMatches (files : Folder) (pattern : List ℕ) (names : List (List ℕ)) : Type 0 where
  pub ordered : IsStrictlySortedBy (slice_cmp nat_cmp) names
  pub each : (name : List ℕ) → Contains names name ↔ (IsSome (files name) × Matches pattern name)
