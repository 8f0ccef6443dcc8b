-- The NAT text of values: tables of so many rows, one behind another.
use Rattle.std.specs.Prelude.{◌≡◌, ℕ, Bool, true, false, ◌&&◌, ◌||◌, List, [], ◌∷◌, ◌++◌, map, length, nat_lt, ◌==◌, if◌then◌else◌, Option, Some, None}
use Rattle.lp_values.specs.declared.value.Value.{Value}
use Rattle.lp_values.specs.declared.value.Value.TheVariants.{Text}
use Rattle.output_formats.specs.declared.csv.Headers.{Headers}
use Rattle.text_formats.specs.Tables.{Cells, cells_of, block_text}

abbrev pub Rows : Type 0
Rows = List Cells

-- whether so many rows fill a block; without a limit none do
abbrev pub is_full : Option ℕ → ℕ → Bool
is_full None count = false
is_full (Some limit) count = count == limit

-- rows in blocks, behind some of the first block: full ones, and where `ends`, one of those that are left, which has no
-- rows where there are none at all
unfoldable pub blocks_behind : Option ℕ → Bool → Bool → Rows → Rows → List Rows
blocks_behind limit ends first held [] = if ends && (first || nat_lt 0 (length held)) then held ∷ [] else []
blocks_behind limit ends first held (row ∷ rows) =
    if is_full limit (length (held ++ row ∷ [])) then (held ++ row ∷ []) ∷ blocks_behind limit ends false [] rows
    else blocks_behind limit ends first (held ++ row ∷ []) rows

-- an empty line before each block but the first
abbrev pub gap_before : Bool → List ℕ
gap_before first = if first then [] else 10 ∷ []

unfoldable pub blocks_text : (Rows → List ℕ) → Bool → List Rows → List ℕ
blocks_text layout first [] = []
blocks_text layout first (block ∷ blocks) = gap_before first ++ layout block ++ blocks_text layout false blocks

-- the names as a row: each is shown as a value that is that text
abbrev pub title : List (List ℕ) → Cells
title names = cells_of (map Text names)

-- how the text of rows is wanted, and what of it is held back: the rows of a block that isn't full
pub record NatState : Type 0 where
  pub limit : Option ℕ
  pub headers : Headers
  pub title : Cells
  -- whether no block is out
  pub first : Bool
  pub held : Rows

-- the cells of the rows, in blocks, each laid out under the names
abbrev pub nat_of : Option ℕ → Headers → Bool → List (List ℕ) → List (List Value) → List ℕ
nat_of limit headers fresh names rows = blocks_text (block_text headers (title names)) true (blocks_behind limit true true [] (map cells_of rows))

-- the text of the blocks that are complete
abbrev pub complete_of : Option ℕ → Headers → List (List ℕ) → List (List Value) → List ℕ
complete_of limit headers names rows = blocks_text (block_text headers (title names)) true (blocks_behind limit false true [] (map cells_of rows))

-- what is out is the text of the complete blocks, and what is held back gives the rest, whatever rows follow
pub record IsNatText (state : NatState) (names : List (List ℕ)) (rows : List (List Value)) (so_far : List ℕ) : Type 0 where
  pub titled : state.title ≡ title names
  pub complete : so_far ≡ complete_of state.limit state.headers names rows
  pub later : (ends : Bool) (more : List (List Value)) → blocks_text (block_text state.headers (title names)) true (blocks_behind state.limit ends true [] (map cells_of (rows ++ more)))
      ≡ so_far ++ blocks_text (block_text state.headers (title names)) state.first (blocks_behind state.limit ends state.first state.held (map cells_of more))
