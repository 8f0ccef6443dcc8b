-- A line, cut field by field.
use Rattle.std.proofs.Common.{◌≡◌, ℕ, ◌+◌, ◌<◌, ◌≤◌, Bool, true, false, List, [], ◌∷◌, ◌++◌, length, map, take, drop, Option, Some, None, sym, ap, ◌∙◌, arith, append_assoc}
use Rattle.std.proofs.lemmas.Bool.{le-leb, lt-leb}
use Rattle.std.proofs.lemmas.List.{append-nil, length-append, length-map, take_all, take-map}
use Rattle.std.proofs.Math.Seq.{take-append_seam}
use Rattle.std.specs.List.{flat_map}
use Rattle.std.specs.Option.{option_to_list}
use Rattle.line_input.specs.declared.slot.Slot.{Slot}
use Rattle.line_input.specs.Taken.{slot_bytes, slots_of}
use Rattle.delimited_input.specs.Cuts.{IsCut}
use Rattle.delimited_input.specs.Fields.{first_field, fields_of}
use Rattle.delimited_input.specs.Lines.{slot_of}
use Rattle.delimited_input.specs.Pieces.{Adds, IsStep}
use Rattle.delimited_input.specs.declared.piece.Step.TheVariants.{Next, Last}
use Rattle.delimited_input.proofs.Agreeing.{fields_step}

module _ (line : List ℕ) (separator : ℕ) (quotes : Bool) where
  -- the fields from a place on
  abbrev pub from_place : ℕ → List (List ℕ)
  from_place at = fields_of separator quotes (drop at line)

  -- so many fields were cut, up to a place
  pub record CutUpTo (at count : ℕ) (row : List Slot) : Type 0 where
    pub within : at ≤ length line
    pub many : length row ≡ count
    pub parts : map slot_of (fields_of separator quotes line) ≡ slots_of line row ++ map slot_of (from_place at)

  pub cut_none : (row : List Slot) → row ≡ [] → CutUpTo 0 0 row
  cut_none row e = record { within = omega arith; many = ap length e; parts = ap (λ (r : List Slot). slots_of line r ++ map slot_of (fields_of separator quotes line)) (sym e) }

  one_longer : (old new : List Slot) (field : List ℕ) → Adds line old new field → length new ≡ length old + 1
  one_longer old new field adds =
      let size = length-append (slots_of line old) (slot_of field ∷ []) in
      let before = length-map old (slot_bytes line) in
      let after = length-map new (slot_bytes line) in
      let same = ap length adds in
      omega arith

  -- a field and what is left behind it are the fields from a place on
  parted : (at : ℕ) (left : Option (List ℕ)) → (first_field separator quotes (drop at line)).1 ≡ left → from_place at ≡ (first_field separator quotes (drop at line)).0 ∷ flat_map (fields_of separator quotes) (option_to_list left)
  parted at left e = fields_step separator quotes (drop at line) ∙ ap (λ (r : Option (List ℕ)). (first_field separator quotes (drop at line)).0 ∷ flat_map (fields_of separator quotes) (option_to_list r)) e

  -- one field more is kept
  kept_more : (rest behind : List (List ℕ)) (field : List ℕ) (old new : List Slot) → map slot_of (fields_of separator quotes line) ≡ slots_of line old ++ map slot_of rest → rest ≡ field ∷ behind → Adds line old new field
      → map slot_of (fields_of separator quotes line) ≡ slots_of line new ++ map slot_of behind
  kept_more rest behind field old new so_far first adds =
      so_far
      ∙ (ap (λ (parts : List (List ℕ)). slots_of line old ++ map slot_of parts) first
      ∙ (sym (append_assoc (slots_of line old) (slot_of field ∷ []) (map slot_of behind))
      ∙ ap (λ s. s ++ map slot_of behind) (sym adds)))

  -- a field that a separator ends
  pub cut_more : (at next count : ℕ) (old new : List Slot) → CutUpTo at count old → IsStep quotes (first_field separator quotes (drop at line)) line old new (Next next) → CutUpTo next (count + 1) new
  cut_more at next count old new cut step =
      let field : List ℕ = (first_field separator quotes (drop at line)).0 in
      let first : from_place at ≡ field ∷ from_place next = parted at (Some (drop next line)) step.1 ∙ ap (λ (parts : List (List ℕ)). field ∷ parts) (append-nil (from_place next)) in
      record {
        within = step.2;
        many = one_longer old new field step.0 ∙ ap (λ n. n + 1) cut.many;
        parts = kept_more (from_place at) (from_place next) field old new cut.parts first step.0;
      }

  -- the line's last field
  pub cut_last : (at count most : ℕ) (old new : List Slot) → CutUpTo at count old → IsStep quotes (first_field separator quotes (drop at line)) line old new Last → count < most → IsCut line (fields_of separator quotes line) most new true
  cut_last at count most old new cut step room =
      let field : List ℕ = (first_field separator quotes (drop at line)).0 in
      let first : from_place at ≡ field ∷ [] = parted at None step.1 in
      let size = one_longer old new field step.0 in
      let before = cut.many in
      let all : map slot_of (fields_of separator quotes line) ≡ slots_of line new = kept_more (from_place at) [] field old new cut.parts first step.0 ∙ append-nil (slots_of line new) in
      let many : length (fields_of separator quotes line) ≡ length new = sym (length-map (fields_of separator quotes line) slot_of) ∙ (ap length all ∙ length-map new (slot_bytes line)) in
      record {
        kept = sym all ∙ ap (map slot_of) (sym (take_all most (fields_of separator quotes line) (omega arith)));
        whole = sym (le-leb (length (fields_of separator quotes line)) most (omega arith));
      }

  -- more fields than are wanted
  pub cut_off : (at count most : ℕ) (row : List Slot) → CutUpTo at count row → count ≡ most → IsCut line (fields_of separator quotes line) most row false
  cut_off at count most row cut full =
      let step = ap length (fields_step separator quotes (drop at line)) in
      let size = length-map row (slot_bytes line) in
      let before = cut.many in
      let rest = length-map (from_place at) slot_of in
      let whole = length-map (fields_of separator quotes line) slot_of in
      let both = length-append (slots_of line row) (map slot_of (from_place at)) in
      let same = ap length cut.parts in
      record {
        kept = sym (take-append_seam (slots_of line row) (map slot_of (from_place at)))
            ∙ (ap (λ n. take n (slots_of line row ++ map slot_of (from_place at))) (size ∙ (before ∙ full))
            ∙ (ap (take most) (sym cut.parts)
            ∙ take-map slot_of most (fields_of separator quotes line)));
        whole = sym (lt-leb (length (fields_of separator quotes line)) most (omega arith));
      }
