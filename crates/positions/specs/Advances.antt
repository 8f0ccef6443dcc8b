-- Kept places with an entry more.
use Rattle.std.specs.Prelude.{◌≡◌, ℕ, List, Option, Some, None, IsSome}
use Rattle.std.specs.List.{AllByRecursion}
use Rattle.std.specs.BTreeMap.{is_at}
use Rattle.std.specs.Map.{lookup}
use Rattle.std.specs.Ordering.{nat_cmp}
use Rattle.std.specs.Cmp.Lexicographic.{slice_cmp}
use Rattle.ledger_model.specs.Entries.{Span}
use Rattle.ledger_model.specs.Grammar.{span_layout}
use Rattle.positions.specs.declared.place.Left.{Left}
use Rattle.positions.specs.Places.{Places, place_in, IsEndOf, Kept}

-- each log has the place that it had
abbrev pub AreSame : Places → Places → Type 0
AreSame old new = (identity : List ℕ) → place_in new identity ≡ place_in old identity

-- nothing is kept otherwise
pub record IsUnchanged (old new : Kept) : Type 0 where
  pub input : new.input ≡ old.input
  pub places : AreSame old.places new.places

-- a place is set aside for a log, or it has one
abbrev pub HasRoom : Places → List ℕ → Type 0
HasRoom places identity = IsSome (lookup (is_at (slice_cmp nat_cmp identity)) places)

-- what has room keeps it
abbrev pub KeepsRoom : Places → Places → Type 0
KeepsRoom old new = (identity : List ℕ) → HasRoom old identity → HasRoom new identity

-- where a span in its form left its log
pub record IsLeftBy (span : Span) (left : Left) : Type 0 where
  pub identity_is : left.identity ≡ span.identity
  pub ends : span_layout.Fits span → IsEndOf span left.place

-- a text to be kept, where none is
abbrev pub new_input : Option (List ℕ) → List ℕ → Option (List ℕ)
new_input None text = Some text
new_input (Some kept) text = None

-- there is room for the logs of some spans, and of some places
abbrev pub HaveRoom : Places → List Span → Type 0
HaveRoom places spans = AllByRecursion (λ span. HasRoom places span.identity) spans

abbrev pub LeftsHaveRoom : Places → List Left → Type 0
LeftsHaveRoom places lefts = AllByRecursion (λ left. HasRoom places left.identity) lefts

-- a text in the stead of the one that is kept, if there is one
abbrev pub kept_with : Option (List ℕ) → Option (List ℕ) → Option (List ℕ)
kept_with None kept = kept
kept_with (Some text) kept = Some text
