-- The blocks of a NAT text, one row after the other.
use Rattle.std.proofs.Common.{◌≡◌, ℕ, Bool, true, false, ◌||◌, List, [], ◌∷◌, ◌++◌, length, map, nat_lt, ap, sym, ◌∙◌, refl, append_assoc, subst}
use Rattle.lp_model.specs.Outside.{Begins, GrowsIn}
use Rattle.lp_model.proofs.Growing.{append-nil}
use Rattle.lp_values.specs.declared.value.Value.{Value}
use Rattle.text_formats.specs.Tables.{Cells, cells_of, block_text}
use Rattle.text_formats.specs.NatBeginning.{nat_begins}
use Rattle.text_formats.specs.Nat.{Rows, NatState, IsNatText, is_full, blocks_behind, blocks_text, gap_before, title, nat_of, complete_of}

-- the text of the rows that follow a state
abbrev pub following : NatState → List (List ℕ) → Bool → List (List Value) → List ℕ
following state names ends more = blocks_text (block_text state.headers (title names)) state.first (blocks_behind state.limit ends state.first state.held (map cells_of more))

abbrev pub block_of : NatState → Cells → Rows → List ℕ
block_of state title rows = gap_before state.first ++ block_text state.headers title rows

no_more : (rows : List (List Value)) → rows ≡ rows ++ []
no_more [] = refl
no_more (row ∷ rows) = ap (λ t. row ∷ t) (no_more rows)

-- no row yet
pub nat_begun : (state : NatState) (names : List (List ℕ)) → state.title ≡ title names → state.first ≡ true → state.held ≡ [] → IsNatText state names [] []
unfolding blocks_behind blocks_text
nat_begun state names titled first held = record {
  titled = titled;
  complete = refl;
  later = λ ends more. rw (first, held) refl;
}

-- what is complete is what comes out without the end
complete_from : (state : NatState) (names : List (List ℕ)) (rows : List (List Value)) (so_far : List ℕ)
    → ((ends : Bool) (more : List (List Value)) → blocks_text (block_text state.headers (title names)) true (blocks_behind state.limit ends true [] (map cells_of (rows ++ more))) ≡ so_far ++ following state names ends more)
    → so_far ≡ complete_of state.limit state.headers names rows
unfolding blocks_behind blocks_text
complete_from state names rows so_far later =
    sym (ap (λ r. complete_of state.limit state.headers names r) (no_more rows) ∙ (later false [] ∙ sym (append-nil so_far)))

held_step : (state : NatState) (names : List (List ℕ)) (row : List Value) (ends : Bool) (more : List (List Value)) → is_full state.limit (length (state.held ++ cells_of row ∷ [])) ≡ false
    → following state names ends (row ∷ more) ≡ following (record state { held = state.held ++ cells_of row ∷ [] }) names ends more
unfolding blocks_behind
held_step state names row ends more open_ = rw open_ refl

filled_step : (state : NatState) (names : List (List ℕ)) (row : List Value) (ends : Bool) (more : List (List Value)) → is_full state.limit (length (state.held ++ cells_of row ∷ [])) ≡ true → state.title ≡ title names
    → following state names ends (row ∷ more) ≡ block_of state state.title (state.held ++ cells_of row ∷ []) ++ following (record state { first = false; held = [] }) names ends more
unfolding blocks_behind blocks_text
filled_step state names row ends more full titled =
    rw (full, titled) refl

-- a row that doesn't fill a block
pub nat_held : (state : NatState) (names : List (List ℕ)) (rows : List (List Value)) (row : List Value) (so_far : List ℕ) → is_full state.limit (length (state.held ++ cells_of row ∷ [])) ≡ false → IsNatText state names rows so_far
    → IsNatText (record state { held = state.held ++ cells_of row ∷ [] }) names (rows ++ row ∷ []) (so_far ++ [])
nat_held state names rows row so_far open_ is =
    let new : NatState = record state { held = state.held ++ cells_of row ∷ [] } in
    let later : (ends : Bool) (more : List (List Value)) → blocks_text (block_text state.headers (title names)) true (blocks_behind state.limit ends true [] (map cells_of ((rows ++ row ∷ []) ++ more))) ≡ (so_far ++ []) ++ following new names ends more =
    λ ends more.
    ap (λ r. blocks_text (block_text state.headers (title names)) true (blocks_behind state.limit ends true [] (map cells_of r))) (append_assoc rows (row ∷ []) more)
    ∙ (is.later ends (row ∷ more)
    ∙ (ap (λ t. so_far ++ t) (held_step state names row ends more open_) ∙ ap (λ t. t ++ following new names ends more) (append-nil so_far))) in
    record { titled = is.titled; complete = complete_from new names (rows ++ row ∷ []) (so_far ++ []) later; later = later }

-- a row that fills one
pub nat_filled : (state : NatState) (names : List (List ℕ)) (rows : List (List Value)) (row : List Value) (so_far : List ℕ) → is_full state.limit (length (state.held ++ cells_of row ∷ [])) ≡ true → IsNatText state names rows so_far
    → IsNatText (record state { first = false; held = [] }) names (rows ++ row ∷ []) (so_far ++ block_of state state.title (state.held ++ cells_of row ∷ []))
nat_filled state names rows row so_far full is =
    let new : NatState = record state { first = false; held = [] } in
    let block = block_of state state.title (state.held ++ cells_of row ∷ []) in
    let later : (ends : Bool) (more : List (List Value)) → blocks_text (block_text state.headers (title names)) true (blocks_behind state.limit ends true [] (map cells_of ((rows ++ row ∷ []) ++ more))) ≡ (so_far ++ block) ++ following new names ends more =
    λ ends more.
    ap (λ r. blocks_text (block_text state.headers (title names)) true (blocks_behind state.limit ends true [] (map cells_of r))) (append_assoc rows (row ∷ []) more)
    ∙ (is.later ends (row ∷ more)
    ∙ (ap (λ t. so_far ++ t) (filled_step state names row ends more full is.titled) ∙ sym (append_assoc so_far block (following new names ends more)))) in
    record { titled = is.titled; complete = complete_from new names (rows ++ row ∷ []) (so_far ++ block) later; later = later }

-- the end: the rows that are left are a block, and where there are none at all so are no rows
pub nat_ended : (state : NatState) (fresh : Bool) (names : List (List ℕ)) (rows : List (List Value)) (so_far : List ℕ) → (state.first || nat_lt 0 (length state.held)) ≡ true → IsNatText state names rows so_far
    → nat_of state.limit state.headers fresh names rows ≡ so_far ++ block_of state state.title state.held
unfolding blocks_behind blocks_text
nat_ended state fresh names rows so_far left is =
    let last : following state names true [] ≡ block_of state state.title state.held = rw (left, is.titled) (sym (append-nil (gap_before state.first ++ block_text state.headers (title names) state.held))) in
    ap (nat_of state.limit state.headers fresh names) (no_more rows) ∙ (is.later true [] ∙ ap (λ t. so_far ++ t) last)

pub nat_over : (state : NatState) (fresh : Bool) (names : List (List ℕ)) (rows : List (List Value)) (so_far : List ℕ) → (state.first || nat_lt 0 (length state.held)) ≡ false → IsNatText state names rows so_far
    → nat_of state.limit state.headers fresh names rows ≡ so_far ++ []
unfolding blocks_behind blocks_text
nat_over state fresh names rows so_far none is =
    let last : following state names true [] ≡ [] = rw none refl in
    ap (nat_of state.limit state.headers fresh names) (no_more rows) ∙ (is.later true [] ∙ ap (λ t. so_far ++ t) last)

-- within the block that a row fills
pub nat_in_row : (state : NatState) (names : List (List ℕ)) (rows more : List (List Value)) (row : List Value) (fresh : Bool) (part rest so_far : List ℕ) → is_full state.limit (length (state.held ++ cells_of row ∷ [])) ≡ true
    → block_of state state.title (state.held ++ cells_of row ∷ []) ≡ part ++ rest → IsNatText state names rows so_far → Begins (so_far ++ part) (nat_of state.limit state.headers fresh names (rows ++ (row ∷ more)))
nat_in_row state names rows more row fresh part rest so_far full whole is =
    let behind = following (record state { first = false; held = [] }) names true more in (
      rest ++ behind,
      is.later true (row ∷ more)
          ∙ (ap (λ t. so_far ++ t) (filled_step state names row true more full is.titled ∙ (ap (λ t. t ++ behind) whole ∙ append_assoc part rest behind)) ∙ sym (append_assoc so_far part (rest ++ behind))),
    )

pub nat_in_end : (state : NatState) (old new : List ℕ) → (state.first || nat_lt 0 (length state.held)) ≡ true → GrowsIn old new (block_of state state.title state.held)
    → (part : List ℕ) × (new ≡ old ++ part) × ((fresh : Bool) (names : List (List ℕ)) (rows : List (List Value)) (so_far : List ℕ) → IsNatText state names rows so_far → Begins (so_far ++ part) (nat_of state.limit state.headers fresh names rows))
nat_in_end state old new left (part, added, (rest, whole)) = (
  part,
  added,
  λ fresh names rows so_far is. (rest, nat_ended state fresh names rows so_far left is ∙ (ap (λ t. so_far ++ t) whole ∙ sym (append_assoc so_far part rest))),
)

-- a call that holds a row
pub nat_row_refused : (state : NatState) (row : List Value) (old new : List ℕ) → new ≡ old
    → (part : List ℕ) × (new ≡ old ++ part) × ((fresh : Bool) (names : List (List ℕ)) (rows more : List (List Value)) (so_far : List ℕ) → IsNatText state names rows so_far
    → Begins (so_far ++ part) (nat_of state.limit state.headers fresh names (rows ++ (row ∷ more))))
nat_row_refused state row old new same = (
  [],
  same ∙ append-nil old,
  λ fresh names rows more so_far is.
      let begun = nat_begins state fresh names rows (row ∷ more) so_far is in
      (begun.0, begun.1 ∙ ap (λ t. t ++ begun.0) (append-nil so_far)),
)

abbrev pub Held : NatState → NatState → List Value → Type 0
Held old new row = new ≡ record old { held = old.held ++ cells_of row ∷ [] }

test_of : (old new : NatState) (row : List Value) (test : Bool) → Held old new row → is_full new.limit (length new.held) ≡ test → is_full old.limit (length (old.held ++ cells_of row ∷ [])) ≡ test
test_of old new row test held is = sym (ap (λ (s : NatState). is_full s.limit (length s.held)) held) ∙ is

pub nat_row_held : (old new : NatState) (row : List Value) (to : List ℕ) → Held old new row → is_full new.limit (length new.held) ≡ false
    → (added : List ℕ) × (to ≡ to ++ added) × ((fresh : Bool) (names : List (List ℕ)) (rows : List (List Value)) (so_far : List ℕ) → IsNatText old names rows so_far → IsNatText new names (rows ++ row ∷ []) (so_far ++ added))
nat_row_held old new row to held open_ = (
  [],
  append-nil to,
  λ fresh names rows so_far is.
      let P : NatState → Type 0 = λ s. IsNatText s names (rows ++ row ∷ []) (so_far ++ []) in
      subst P (sym held) (nat_held old names rows row so_far (test_of old new row false held open_) is),
)

-- a call that fills a block
pub nat_row_filled : (old mid new : NatState) (row : List Value) (before after : List ℕ) → Held old mid row → is_full mid.limit (length mid.held) ≡ true → new ≡ record mid { first = false; held = [] } → after ≡ before ++ block_of mid mid.title mid.held
    → (added : List ℕ) × (after ≡ before ++ added) × ((fresh : Bool) (names : List (List ℕ)) (rows : List (List Value)) (so_far : List ℕ) → IsNatText old names rows so_far → IsNatText new names (rows ++ row ∷ []) (so_far ++ added))
nat_row_filled old mid new row before after held full next added =
    let block = block_of old old.title (old.held ++ cells_of row ∷ []) in
    let now : new ≡ record old { first = false; held = [] } = next ∙ ap (λ (s : NatState). record s { first = false; held = [] }) held in (
      block,
      added ∙ ap (λ (s : NatState). before ++ block_of s s.title s.held) held,
      λ fresh names rows so_far is.
          let P : NatState → Type 0 = λ s. IsNatText s names (rows ++ row ∷ []) (so_far ++ block) in
          subst P (sym now) (nat_filled old names rows row so_far (test_of old mid row true held full) is),
    )

pub nat_row_stopped : (old mid : NatState) (row : List Value) (before after : List ℕ) → Held old mid row → is_full mid.limit (length mid.held) ≡ true → GrowsIn before after (block_of mid mid.title mid.held)
    → (part : List ℕ) × (after ≡ before ++ part) × ((fresh : Bool) (names : List (List ℕ)) (rows more : List (List Value)) (so_far : List ℕ) → IsNatText old names rows so_far
    → Begins (so_far ++ part) (nat_of old.limit old.headers fresh names (rows ++ (row ∷ more))))
nat_row_stopped old mid row before after held full (part, added, (rest, whole)) = (
  part,
  added,
  λ fresh names rows more so_far is.
      nat_in_row old names rows more row fresh part rest so_far (test_of old mid row true held full) (sym (ap (λ (s : NatState). block_of s s.title s.held) held) ∙ whole) is,
)

-- after it stopped, the row isn't held
pub nat_row_kept : (old mid new : NatState) (row : List Value) → Held old mid row → ((last : Cells) (rest : Rows) → mid.held ≡ rest ++ last ∷ [] → new ≡ record mid { held = rest }) → new ≡ old
nat_row_kept old mid new row held forgotten =
    forgotten (cells_of row) old.held (ap (λ (s : NatState). s.held) held) ∙ ap (λ (s : NatState). record s { held = old.held }) held
