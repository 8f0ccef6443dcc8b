-- The fields of a line.
use Rattle.std.proofs.Common.{◌≡◌, ℕ, suc, ◌+◌, ◌-◌, ◌<◌, ◌≤◌, Bool, true, false, cond, ◌==◌, List, [], ◌∷◌, ◌++◌, length, map, drop, replicate, get_or, Option, Some, None, option_map, refl, sym, ap, ◌∙◌, arith, rules, tests, eq-eqb}
use Rattle.std.proofs.lemmas.List.{append-nil, append_assoc, map-append, length_push, length-map, length-drop, drop_more, drop_all}
use Rattle.std.specs.Prelude.{◌≢◌}
use Rattle.lp_model.specs.Reading.{Slots, rows}
use Rattle.line_input.specs.declared.slot.Slot.{Slot}
use Rattle.line_input.specs.Parts.{field_of}
use Rattle.line_input.specs.Taken.{part_of, slot_bytes, slots_of}
use Rattle.ncsa_input.specs.declared.pieces.Piece.{Piece}
use Rattle.ncsa_input.specs.declared.shape.Shape.{Shape}
use Rattle.ncsa_input.specs.Lines.{shapes, may_end, behind_spaces, fields_behind, line_fields, row_reading}
use Rattle.ncsa_input.specs.Pieces.{IsPiece}
use Rattle.ncsa_input.specs.Shapes.{taken}

-- ---- slots that are missing

pub padded_more : (xs : Slots) (n m : ℕ) → n < 10 → m ≡ n + 1 → xs ++ replicate (10 - n) None ≡ (xs ++ None ∷ []) ++ replicate (10 - m) None
padded_more xs n m below e =
    let one : 10 - n ≡ suc (10 - m) = omega arith in
    rw one (sym (append_assoc xs (None ∷ []) (replicate (10 - m) None)))

pub padded_all : (xs : Slots) (n : ℕ) → 10 ≤ n → xs ++ replicate (10 - n) None ≡ xs
padded_all xs n full = let none : 10 - n ≡ 0 = omega arith in rw none (append-nil xs)

-- a row is what the line is
pub row_is : (line : List ℕ) (fields : Option (List (List ℕ))) (found all : List Slot) → Some (slots_of line found) ≡ option_map (map field_of) fields → slots_of line all ≡ slots_of line found ++ replicate (10 - length found) None
    → rows (slots_of line all ∷ []) ≡ row_reading fields
row_is line None found all e padded = absurd cc
row_is line (Some fields) found all e padded =
    let same : slots_of line found ≡ map field_of fields = cc in
    let size : length found ≡ length fields = sym (length-map found (slot_bytes line)) ∙ (ap length same ∙ length-map fields field_of) in
    ap (λ slots. rows (slots ∷ [])) (padded ∙ (ap (λ s. s ++ replicate (10 - length found) None) same ∙ ap (λ n. map field_of fields ++ replicate (10 - n) None) size))

-- ---- one part more

pub none_there : (parts : ℕ) (shape : Shape) (more : List Shape) (text : List ℕ) → taken shape text ≡ None → fields_behind parts (shape ∷ more) text ≡ None
unfolding fields_behind
none_there parts shape more text e = rw e refl

pub ends_there : (parts : ℕ) (shape : Shape) (more : List Shape) (text field rest : List ℕ) → taken shape text ≡ Some (field, rest) → length rest ≡ 0 → fields_behind parts (shape ∷ more) text ≡ cond (may_end (parts + 1)) (Some (field ∷ [])) None
unfolding fields_behind
ends_there parts shape more text field rest e none = let is : (length rest == 0) ≡ true = eq-eqb (length rest) 0 none in rw (e, is) refl

pub unparted : (parts : ℕ) (shape : Shape) (more : List Shape) (text field rest : List ℕ) → taken shape text ≡ Some (field, rest) → length rest ≢ 0 → behind_spaces rest ≡ None → fields_behind parts (shape ∷ more) text ≡ None
unfolding fields_behind
unparted parts shape more text field rest e some none = let other : (length rest == 0) ≡ false = search (rules, tests) in rw (e, other, none) refl

pub goes_on : (parts : ℕ) (shape : Shape) (more : List Shape) (text field rest next : List ℕ) → taken shape text ≡ Some (field, rest) → length rest ≢ 0 → behind_spaces rest ≡ Some next
    → fields_behind parts (shape ∷ more) text ≡ option_map (λ fields. field ∷ fields) (fields_behind (parts + 1) more next)
unfolding fields_behind
goes_on parts shape more text field rest next e some there = let other : (length rest == 0) ≡ false = search (rules, tests) in rw (e, other, there) refl

-- how far the reading of a line has come
pub record ReadTo (line : List ℕ) (at parts : ℕ) (slots : Slots) : Type 0 where
  pub within : at ≤ length line
  pub done : List (List ℕ)
  pub many : length slots ≡ parts
  pub filled : slots ≡ map field_of done
  pub rest : line_fields line ≡ option_map (λ fields. done ++ fields) (fields_behind parts (drop parts shapes) (drop at line))

same_fields : (r : Option (List (List ℕ))) → r ≡ option_map (λ fields. [] ++ fields) r
same_fields None = refl
same_fields (Some fields) = refl

pub read_none : (line : List ℕ) → ReadTo line 0 0 []
read_none line = record { within = omega arith; done = []; many = refl; filled = refl; rest = same_fields (line_fields line) }

next_shapes : (parts : ℕ) (shape d : Shape) → parts < 10 → shape ≡ get_or shapes parts d → drop parts shapes ≡ shape ∷ drop (parts + 1) shapes
next_shapes parts shape d below e = drop_more shapes parts d below ∙ ap (λ s. s ∷ drop (parts + 1) shapes) (sym e)

-- the line isn't of this form
pub read_other : (line : List ℕ) (at parts : ℕ) (slots : Slots) (shape d : Shape) → ReadTo line at parts slots → parts < 10 → shape ≡ get_or shapes parts d → taken shape (drop at line) ≡ None → line_fields line ≡ None
read_other line at parts slots shape d read below e none =
    read.rest ∙ ap (option_map (λ fields. read.done ++ fields)) (ap (λ s. fields_behind parts s (drop at line)) (next_shapes parts shape d below e) ∙ none_there parts shape (drop (parts + 1) shapes) (drop at line) none)

field_at : List ℕ → Piece → List ℕ
field_at line piece = part_of line piece.bytes.from piece.bytes.to

pub read_unparted : (line : List ℕ) (at parts : ℕ) (slots : Slots) (shape d : Shape) (piece : Piece) → ReadTo line at parts slots → parts < 10 → shape ≡ get_or shapes parts d → IsPiece shape line at piece
    → piece.end ≢ length line → behind_spaces (drop piece.end line) ≡ None → line_fields line ≡ None
read_unparted line at parts slots shape d piece read below e is more none =
    let some : length (drop piece.end line) ≢ 0 = λ z. more (omega (arith, length-drop piece.end line, is.within)) in
    read.rest ∙ ap (option_map (λ fields. read.done ++ fields)) (ap (λ s. fields_behind parts s (drop at line)) (next_shapes parts shape d below e)
    ∙ unparted parts shape (drop (parts + 1) shapes) (drop at line) (part_of line piece.bytes.from piece.bytes.to) (drop piece.end line) is.takes some none)

pushed : (done : List (List ℕ)) (field : List ℕ) (r : Option (List (List ℕ))) → option_map (λ fields. done ++ fields) (option_map (λ fields. field ∷ fields) r) ≡ option_map (λ fields. (done ++ field ∷ []) ++ fields) r
pushed done field None = refl
pushed done field (Some fields) = ap Some (sym (append_assoc done (field ∷ []) fields))

-- one part more was read
pub read_more : (line : List ℕ) (at parts next : ℕ) (slots new : Slots) (shape d : Shape) (piece : Piece) → ReadTo line at parts slots → parts < 10 → shape ≡ get_or shapes parts d → IsPiece shape line at piece
    → piece.end ≢ length line → behind_spaces (drop piece.end line) ≡ Some (drop next line) → next ≤ length line → new ≡ slots ++ field_of (part_of line piece.bytes.from piece.bytes.to) ∷ [] → ReadTo line next (parts + 1) new
read_more line at parts next slots new shape d piece read below e is more there within pushes =
    let field : List ℕ = part_of line piece.bytes.from piece.bytes.to in
    let some : length (drop piece.end line) ≢ 0 = λ z. more (omega (arith, length-drop piece.end line, is.within)) in
    record {
      within = within;
      done = read.done ++ field ∷ [];
      many = ap length pushes ∙ (length_push slots (field_of field) ∙ ap (λ n. n + 1) read.many);
      filled = pushes ∙ (ap (λ s. s ++ field_of field ∷ []) read.filled ∙ sym (map-append field_of read.done (field ∷ [])));
      rest = read.rest ∙ (ap (option_map (λ fields. read.done ++ fields)) (ap (λ s. fields_behind parts s (drop at line)) (next_shapes parts shape d below e)
          ∙ goes_on parts shape (drop (parts + 1) shapes) (drop at line) field (drop piece.end line) (drop next line) is.takes some there)
          ∙ pushed read.done field (fields_behind (parts + 1) (drop (parts + 1) shapes) (drop next line)));
    }

told_end : (b : Bool) (n : ℕ) (slots : Slots) (done : List (List ℕ)) (field : List ℕ) → slots ≡ map field_of (done ++ field ∷ [])
    → cond b (Some slots) None ≡ option_map (map field_of) (option_map (λ fields. done ++ fields) (cond b (Some (field ∷ [])) None))
told_end true n slots done field e = ap Some e
told_end false n slots done field e = refl

-- the line ends behind a part
pub read_end : (line : List ℕ) (at parts : ℕ) (slots new : Slots) (shape d : Shape) (piece : Piece) → ReadTo line at parts slots → parts < 10 → shape ≡ get_or shapes parts d → IsPiece shape line at piece
    → piece.end ≡ length line → new ≡ slots ++ field_of (part_of line piece.bytes.from piece.bytes.to) ∷ [] → cond (may_end (parts + 1)) (Some new) None ≡ option_map (map field_of) (line_fields line)
read_end line at parts slots new shape d piece read below e is end pushes =
    let field : List ℕ = part_of line piece.bytes.from piece.bytes.to in
    let none : length (drop piece.end line) ≡ 0 = omega (arith, length-drop piece.end line) in
    told_end (may_end (parts + 1)) 0 new read.done field (pushes ∙ (ap (λ s. s ++ field_of field ∷ []) read.filled ∙ sym (map-append field_of read.done (field ∷ []))))
    ∙ ap (option_map (map field_of)) (sym (read.rest ∙ ap (option_map (λ fields. read.done ++ fields)) (ap (λ s. fields_behind parts s (drop at line)) (next_shapes parts shape d below e)
    ∙ ends_there parts shape (drop (parts + 1) shapes) (drop at line) field (drop piece.end line) is.takes none)))

-- the line goes on behind the last part
pub read_past : (line : List ℕ) (at parts : ℕ) (slots : Slots) → ReadTo line at parts slots → 10 ≤ parts → line_fields line ≡ None
unfolding fields_behind
read_past line at parts slots read past =
    read.rest ∙ ap (λ s. option_map (λ fields. read.done ++ fields) (fields_behind parts s (drop at line))) (drop_all parts shapes past)

pub parts_read : (line : List ℕ) (at parts : ℕ) (fields new : List Slot) (slot : Slot) → ReadTo line at parts (slots_of line fields) → new ≡ fields ++ slot ∷ [] → length new ≡ parts + 1
parts_read line at parts fields new slot read e =
    let many : length (slots_of line fields) ≡ parts = read.many in
    let same : length (slots_of line fields) ≡ length fields = length-map fields (slot_bytes line) in
    omega (arith, ap length e, length_push fields slot)
