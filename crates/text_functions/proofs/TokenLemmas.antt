-- A token by its number, and the first that passes a test.
use Rattle.std.specs.List.{slice_get}
use Rattle.std.specs.Option.{option_map}
use Rattle.std.proofs.Common.{◌≡◌, ℕ, zero, suc, ◌-◌, ◌<◌, Bool, true, false, cond, if◌then◌else◌, List, [], ◌∷◌, length, find, Option, Some, None, refl, sym, ap, ◌∙◌, arith}
use Rattle.text_functions.specs.Pieces.{pieces, Lacks, IsCutAtFirst}
use Rattle.text_functions.proofs.PieceLemmas.{pieces-cut, pieces-lacks}

at_zero : (x : List ℕ) (xs : List (List ℕ)) (n : ℕ) → n ≡ 0 → slice_get (x ∷ xs) n ≡ Some x
at_zero x xs n e = ap (slice_get (x ∷ xs)) e

at_later : (x : List ℕ) (xs : List (List ℕ)) (n : ℕ) → 0 < n → slice_get (x ∷ xs) n ≡ slice_get xs (n - 1)
at_later x xs zero some = absurd (omega arith)
at_later x xs (suc n) some = let e : n ≡ suc n - 1 = omega arith in ap (slice_get xs) e

pub token_here : (part text before behind : List ℕ) (n : ℕ) → 0 < length part → IsCutAtFirst part text before behind → n ≡ 0 → slice_get (pieces part text) n ≡ Some before
token_here part text before behind n some cut e =
    ap (λ (ps : List (List ℕ)). slice_get ps n) (pieces-cut part text before behind some cut) ∙ at_zero before (pieces part behind) n e

pub token_next : (part text before behind : List ℕ) (n : ℕ) → 0 < length part → IsCutAtFirst part text before behind → 0 < n → slice_get (pieces part text) n ≡ slice_get (pieces part behind) (n - 1)
token_next part text before behind n some cut more =
    ap (λ (ps : List (List ℕ)). slice_get ps n) (pieces-cut part text before behind some cut) ∙ at_later before (pieces part behind) n more

pub token_last : (part text : List ℕ) (n : ℕ) → Lacks part text → n ≡ 0 → slice_get (pieces part text) n ≡ Some text
token_last part text n none e = ap (λ (ps : List (List ℕ)). slice_get ps n) (pieces-lacks part text none) ∙ at_zero text [] n e

pub token_past : (part text : List ℕ) (n : ℕ) → Lacks part text → 0 < n → slice_get (pieces part text) n ≡ None
token_past part text n none more = ap (λ (ps : List (List ℕ)). slice_get ps n) (pieces-lacks part text none) ∙ at_later text [] n more

module _ (test : List ℕ → Bool) (behind_name : List ℕ → List ℕ) where
  here_by : (b : Bool) (x : List ℕ) (more : Option (List ℕ)) (v : List ℕ) → Some v ≡ (if b then Some (behind_name x) else None) → Some v ≡ option_map behind_name (cond b (Some x) more)
  here_by true x more v e = e
  here_by false x more v e = cc

  next_by : (b : Bool) (x : List ℕ) (more : Option (List ℕ)) → None ≡ (if b then Some (behind_name x) else None) → cond b (Some x) more ≡ more
  next_by true x more e = cc
  next_by false x more e = refl

  last_by : (b : Bool) (x : List ℕ) (r : Option (List ℕ)) → r ≡ (if b then Some (behind_name x) else None) → r ≡ option_map behind_name (cond b (Some x) None)
  last_by true x r e = e
  last_by false x r e = e

  pub value_here : (part text before behind v : List ℕ) → 0 < length part → IsCutAtFirst part text before behind → Some v ≡ (if test before then Some (behind_name before) else None) → Some v ≡ option_map behind_name (find test (pieces part text))
  value_here part text before behind v some cut e =
      here_by (test before) before (find test (pieces part behind)) v e ∙ ap (λ (ps : List (List ℕ)). option_map behind_name (find test ps)) (sym (pieces-cut part text before behind some cut))

  pub value_next : (part text before behind : List ℕ) → 0 < length part → IsCutAtFirst part text before behind → None ≡ (if test before then Some (behind_name before) else None) → find test (pieces part text) ≡ find test (pieces part behind)
  value_next part text before behind some cut e =
      ap (find test) (pieces-cut part text before behind some cut) ∙ next_by (test before) before (find test (pieces part behind)) e

  pub value_last : (part text : List ℕ) (r : Option (List ℕ)) → Lacks part text → r ≡ (if test text then Some (behind_name text) else None) → r ≡ option_map behind_name (find test (pieces part text))
  value_last part text r none e =
      last_by (test text) text r e ∙ ap (λ (ps : List (List ℕ)). option_map behind_name (find test ps)) (sym (pieces-lacks part text none))
