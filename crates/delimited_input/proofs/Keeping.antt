-- The first fields of a row of csv.
use Rattle.std.proofs.Common.{◌≡◌, ℕ, suc, zero, ◌+◌, ◌<◌, ◌≤◌, true, nat_le, List, [], ◌∷◌, ◌++◌, length, map, take, Some, None, sym, ap, ◌∙◌, arith}
use Rattle.std.proofs.lemmas.Bool.{le-leb}
use Rattle.std.proofs.lemmas.List.{map-append, take_all}
use Rattle.csv.specs.Records.{field_at}
use Rattle.line_input.specs.declared.slot.Slot.{Slot}
use Rattle.line_input.specs.Taken.{slot_bytes, slots_of}
use Rattle.delimited_input.specs.Cuts.{IsCut}
use Rattle.delimited_input.specs.Lines.{slot_of}

taken_more : (fields : List (List ℕ)) (index : ℕ) (field : List ℕ) → field_at fields index ≡ Some field → take (suc index) fields ≡ take index fields ++ field ∷ []
unfolding field_at
taken_more [] index field e = absurd cc
taken_more (f ∷ fs) zero field e = let same : f ≡ field = cc in ap (λ (t : List ℕ). t ∷ []) same
taken_more (f ∷ fs) (suc index) field e = ap (λ t. f ∷ t) (taken_more fs index field e)

-- one field more is kept
pub kept_more : (line : List ℕ) (all : List (List ℕ)) (index : ℕ) (fields more : List Slot) (slot : Slot) (field : List ℕ)
    → slots_of line fields ≡ map slot_of (take index all) → field_at all index ≡ Some field → slot_bytes line slot ≡ slot_of field → more ≡ fields ++ slot ∷ []
    → slots_of line more ≡ map slot_of (take (index + 1) all)
kept_more line all index fields more slot field kept at is pushes =
    let next : index + 1 ≡ suc index = omega arith in
    ap (slots_of line) pushes
    ∙ (map-append (slot_bytes line) fields (slot ∷ [])
    ∙ (ap (λ s. slots_of line fields ++ s ∷ []) is
    ∙ (ap (λ s. s ++ slot_of field ∷ []) kept
    ∙ (sym (map-append slot_of (take index all) (field ∷ []))
    ∙ (ap (map slot_of) (sym (taken_more all index field at))
    ∙ ap (λ n. map slot_of (take n all)) (sym next))))))

no_field : (fields : List (List ℕ)) (index : ℕ) → field_at fields index ≡ None → length fields ≤ index
unfolding field_at
no_field [] index e = omega arith
no_field (f ∷ fs) zero e = absurd cc
no_field (f ∷ fs) (suc index) e = let more = no_field fs index e in omega arith

-- the row has no further field
pub kept_all : (line : List ℕ) (all : List (List ℕ)) (index most : ℕ) (fields : List Slot) → slots_of line fields ≡ map slot_of (take index all) → field_at all index ≡ None → index < most
    → IsCut line all most fields true
kept_all line all index most fields kept none room =
    let few = no_field all index none in
    record {
      kept = kept ∙ ap (map slot_of) (take_all index all few ∙ sym (take_all most all (omega arith)));
      whole = sym (le-leb (length all) most (omega arith));
    }

-- as many fields are kept as are wanted
pub kept_full : (line : List ℕ) (all : List (List ℕ)) (index most size : ℕ) (fields : List Slot) → slots_of line fields ≡ map slot_of (take index all) → index ≡ most → size ≡ length all
    → IsCut line all most fields (nat_le size most)
kept_full line all index most size fields kept full many = record {
  kept = kept ∙ ap (λ n. map slot_of (take n all)) full;
  whole = ap (λ n. nat_le n most) many;
}
