-- What a sampler knows of the rows that it was given.
use Rattle.std.specs.Prelude.{◌≡◌, ◌-◌, ◌==◌, ℕ, Bool, true, false, not, ◌&&◌, List, length, map, if◌then◌else◌}
use Rattle.std.specs.List.{list_all, range_with_len}
use Rattle.lp_time.specs.declared.piece.Piece.{Piece}
use Rattle.lp_values.specs.declared.kind.Kind.{Kind}
use Rattle.lp_values.specs.declared.kind.Kind.TheVariants.{Integer, Real, Text, Stamp, Any}
use Rattle.delimited_input.specs.Kinds.{Row, is_integer, is_number, is_time, is_missing, filled_of, sample_of}
use Rattle.delimited_input.specs.declared.tally.Tally.{Tally}

-- what texts tell of a column
abbrev pub tally_of : List Piece → List (List ℕ) → Tally
tally_of pattern texts = record {
  filled = not (length (filled_of texts) == 0);
  integers = list_all is_integer (filled_of texts);
  numbers = list_all is_number (filled_of texts);
  times = list_all (is_time pattern) (filled_of texts);
}

abbrev pub new_tally : Tally
new_tally = record { filled = false; integers = true; numbers = true; times = true }

-- one text more
abbrev pub tally_with : List Piece → Tally → List ℕ → Tally
tally_with pattern tally text =
    if is_missing text then tally
    else record {
      filled = true;
      integers = tally.integers && is_integer text;
      numbers = tally.numbers && is_number text;
      times = tally.times && is_time pattern text;
    }

-- the kind that a tally tells, where there was a row
abbrev pub kind_told : Tally → Kind
kind_told tally =
    if tally.filled
    then (if tally.integers then Integer else if tally.numbers then Real else if tally.times then Stamp else Text)
    else Text

-- the kind of a column, which is any where no row was met
abbrev pub kind_seen : Bool → Tally → Kind
kind_seen met tally = if met then kind_told tally else Any

pub record Sampled : Type 0 where
  pub columns : ℕ
  pub limit : ℕ
  pub pattern : List Piece
  -- whether there was a row
  pub met : Bool
  -- how many rows may still tell
  pub left : ℕ
  pub tallies : List Tally

-- a sampler stands for the rows that it was given
pub record StandsFor (sampled : Sampled) (rows : List Row) : Type 0 where
  pub met : sampled.met ≡ not (length rows == 0)
  pub left : sampled.left ≡ sampled.limit - length rows
  pub tallies : sampled.tallies ≡ map (λ column. tally_of sampled.pattern (sample_of sampled.limit rows column)) (range_with_len 0 sampled.columns)
