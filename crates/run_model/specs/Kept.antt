-- What the entries of a ledger have taken of each log.
use Rattle.std.specs.Prelude.{◌≡◌, ℕ, ◌≤◌, Bool, ◌&&◌, List, [], ◌∷◌, flat_map, bytes_eq, count_by, nat_le, if◌then◌else◌}
use Rattle.lp_model.specs.Lines.{Line}
use Rattle.lp_model.specs.Complete.{IsAmong}
use Rattle.ledger_model.specs.Entries.{Entry, Span}
use Rattle.run_model.specs.Logs.{generation_name}

-- the spans of all entries, in order
abbrev pub spans_of : List Entry → List Span
spans_of entries = flat_map (λ entry. entry.spans) entries

abbrev pub is_of : List ℕ → Span → Bool
is_of identity span = bytes_eq span.identity identity

-- where spans leave a log, which they find at a place
abbrev pub place_after : List ℕ → ℕ → List Span → ℕ
place_after identity place [] = place
place_after identity place (span ∷ spans) = place_after identity (if is_of identity span then span.to else place) spans

-- the kept place of a log: the end of its last span, or 0
abbrev pub kept_place : List ℕ → List Entry → ℕ
kept_place identity entries = place_after identity 0 (spans_of entries)

-- a span of some log
pub record HasSpan (identity : List ℕ) (spans : List Span) : Type 0 where
  pub span : Span
  pub among : IsAmong span spans
  pub same : span.identity ≡ identity

-- the entries know a generation of a stem
abbrev pub Knows : List Entry → List ℕ → ℕ → Type 0
Knows entries stem number = HasSpan (generation_name stem number) (spans_of entries)

-- a line of a log lies in a span
abbrev pub lies_in : List ℕ → Line → Span → Bool
lies_in identity line span = is_of identity span && (nat_le span.from line.start && nat_le line.end span.to)

-- a line of a log lies in exactly one span of one entry
pub record IsTakenOnce (identity : List ℕ) (line : Line) (entries : List Entry) : Type 0 where
  pub once : count_by (lies_in identity line) (spans_of entries) ≡ 1

-- a line of a log lies in no span, and starts at or behind the kept place
pub record IsLeft (identity : List ℕ) (line : Line) (entries : List Entry) : Type 0 where
  pub behind : kept_place identity entries ≤ line.start
  pub none : count_by (lies_in identity line) (spans_of entries) ≡ 0
