-- What outputs hold back, behind one row more.
use Rattle.std.proofs.Common.{◌≡◌, ◌≢◌, ◌⊎◌, inl, inr, ◌<◌, ◌+◌, ◌-◌, ℕ, zero, suc, Bool, true, false, true≢false, ◌||◌, List, [], ◌∷◌, ◌++◌, length, set, get_or, slice_get, Some, refl, sym, ◌∙◌, ap, subst, arith, length-append, append_assoc}
use Rattle.std.specs.Prelude.{bytes_eq}
use Rattle.std.specs.Cmp.Lexicographic.{nat_list_eq_equiv}
use Rattle.std.proofs.lemmas.List.{append-nil, length-set, get_or-set_other, get_or_append_left}
use Rattle.std.proofs.lemmas.Grind.{get_or-set_at}
use Rattle.log_listing.specs.Firsts.{is_among, with_name}
use Rattle.multiplex.specs.Naming.{stars}
use Rattle.multiplex.specs.Splitting.{output_names}
use Rattle.order_top.specs.Finish.{Row}
use Rattle.row_output.specs.declared.file_output.FileOutput.{FileOutput}
use Rattle.row_output.specs.FileTexts.{HoldLittle, held_back}
use Rattle.row_output.proofs.Naming.{IsNoneOrSome, none_or_some, names_plain, names_starred, with_known, with_new}

or_true : (b : Bool) → (b || true) ≡ true
or_true true = refl
or_true false = refl

-- a name that stands at one of the first places is among the first
at_front : (names more : List (List ℕ)) (i : ℕ) (name : List ℕ) → i < length names → slice_get (names ++ more) i ≡ Some name → is_among names name ≡ true
at_front [] more i name less at = absurd (omega (arith, less))
at_front (first ∷ names) more zero name less at = ap (λ (b : Bool). b || is_among names name) (ap (bytes_eq name) (some_same first name at) ∙ nat_list_eq_equiv.refl name)
  where
    some_same : (one other : List ℕ) → Some one ≡ Some other → one ≡ other
    some_same one other e = cc
at_front (first ∷ names) more (suc i) name less at = ap (λ (b : Bool). bytes_eq name first || b) (at_front names more i name (omega (arith, less)) at) ∙ or_true (bytes_eq name first)

-- with one name more, all places but its own are old ones
all_but_one : (names : List (List ℕ)) (name : List ℕ) (i k : ℕ) → slice_get (with_name names name) i ≡ Some name → i < length (with_name names name) → k < length (with_name names name) → k ≢ i → k < length names
all_but_one names name i k at less within other = by (is_among names name) refl
  where
    by : (b : Bool) → is_among names name ≡ b → k < length names
    by true e = subst (λ (l : List (List ℕ)). k < length l) (with_known names name e) within
    by false e = place (none_or_some (length names - i)) (none_or_some (length names - k))
      where
        long : length (with_name names name) ≡ length names + 1
        long = ap length (with_new names name e) ∙ length-append names (name ∷ [])

        place : IsNoneOrSome (length names - i) → IsNoneOrSome (length names - k) → k < length names
        place own (inr some) = omega (arith, some)
        place (inl none) (inl last) = absurd (other (omega (arith, none, last, long, less, within)))
        place (inr some) (inl last) =
            absurd (true≢false (sym (at_front names (name ∷ []) i name (omega (arith, some)) (ap (λ (l : List (List ℕ)). slice_get l i) (sym (with_new names name e)) ∙ at)) ∙ e))

-- the output of a row holds little, and so do the others, where they did or there is none
pub little_put : (names : List (List ℕ)) (name : List ℕ) (before more : List FileOutput) (i : ℕ) (file : FileOutput) → slice_get (with_name names name) i ≡ Some name → length (before ++ more) ≡ length (with_name names name) → length before ≡ length names
    → i < length (before ++ more) → held_back file < 4096 → (length (with_name names name) ≡ 1) ⊎ HoldLittle before → HoldLittle (set (before ++ more) i file)
little_put names name before more i file at long old less small (inl one) = λ k d within.
    let size = length-set (before ++ more) i file in
    let same : k ≡ i = omega (arith, within, size, long, one, less) in
    subst (λ (f : FileOutput). held_back f < 4096) (sym (get_or-set_at (before ++ more) i k file d same less)) small
little_put names name before more i file at long old less small (inr little) = λ k d within. at_place k d within (none_or_some ((k - i) + (i - k)))
  where
    at_place : (k : ℕ) (d : FileOutput) → k < length (set (before ++ more) i file) → IsNoneOrSome ((k - i) + (i - k)) → held_back (get_or (set (before ++ more) i file) k d) < 4096
    at_place k d within (inl none) = subst (λ (f : FileOutput). held_back f < 4096) (sym (get_or-set_at (before ++ more) i k file d (omega (arith, none)) less)) small
    at_place k d within (inr some) =
        let size = length-set (before ++ more) i file in
        let other : k ≢ i = λ same. omega (arith, same, some) in
        let kept = all_but_one names name i k at (omega (arith, less, long)) (omega (arith, within, size, long)) other in
        let there : k < length before = omega (arith, kept, old) in
        subst (λ (f : FileOutput). held_back f < 4096) (sym (get_or-set_other (before ++ more) i k file d other ∙ get_or_append_left before more d k there)) (little k d there)

-- one row has one output
pub one_output : (pattern : List ℕ) (row : Row) → length (output_names pattern (row ∷ [])) ≡ 1
one_output pattern row = by (none_or_some (stars pattern))
  where
    by : IsNoneOrSome (stars pattern) → length (output_names pattern (row ∷ [])) ≡ 1
    by (inl none) = ap length (names_plain pattern (row ∷ []) none)
    by (inr some) = ap length (names_starred pattern (row ∷ []) some)

-- as many outputs as before are those before
pub none_more : (before more now : List FileOutput) → now ≡ before ++ more → length now ≡ length before → now ≡ before
none_more before [] now front same = front ∙ append-nil before
none_more before (file ∷ more) now front same = absurd (omega (arith, same, ap length front, length-append before (file ∷ more)))

-- one output more behind those since
pub one_more : (before more mid now : List FileOutput) (file : FileOutput) → mid ≡ before ++ more → now ≡ mid ++ file ∷ [] → now ≡ before ++ (more ++ file ∷ [])
one_more before more mid now file so_far next = next ∙ (ap (λ (l : List FileOutput). l ++ file ∷ []) so_far ∙ append_assoc before more (file ∷ []))
