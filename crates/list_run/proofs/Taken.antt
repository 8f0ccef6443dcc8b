-- One record was taken.
use Rattle.std.proofs.Common.{◌≡◌, ◌+◌, ◌<◌, List, [], ◌∷◌, Option, Some, None, ℕ, drop, set, get_or, length, fold, ap, ap₂, sym, ◌∙◌, refl, arith}
use Rattle.std.specs.List.{cons_option}
use Rattle.std.proofs.lemmas.List.{append-nil, drop-set-lt, at_drop_more}
use Rattle.lp_values.specs.declared.value.Value.{Value}
use Rattle.log_reading.specs.Found.{Found}
use Rattle.list_run.specs.Gathering.{Remembered, remembering}
use Rattle.list_run.specs.Lists.{values_of}
use Rattle.list_run.specs.Collected.{Collects}

-- a value was moved out of a row and gathered
pub moved_one : (before after : Remembered) (row left : List Value) (value none : Value) (i : ℕ) → i < length row → value ≡ get_or row i none → left ≡ set row i none → after ≡ remembering before value
    → fold remembering after (drop (i + 1) left) ≡ fold remembering before (drop i row)
moved_one before after row left value none i within is moved adds =
    ap₂ (fold remembering) (adds ∙ ap (remembering before) is) (ap (drop (i + 1)) moved ∙ drop-set-lt (i + 1) row i none (omega arith))
    ∙ sym (at_drop_more (fold remembering before) row i none within)

module _ {P : Type 0} (picks : P → Found → Option (List Value)) (s : P) (found : Found) where
  -- the picker drops it
  pub collects_dropped : (w : Remembered) → None ≡ picks s found → Collects picks s w (found ∷ []) s w
  collects_dropped w dropped = record {
    picker = refl;
    values = ap (λ (o : Option (List Value)). fold remembering w (values_of (cons_option o []))) dropped;
  }

  -- the picker makes a row of it, whose values are gathered
  pub collects_kept : (u v : Remembered) (row : List Value) → Some row ≡ picks s found → v ≡ fold remembering u row → Collects picks s u (found ∷ []) s v
  collects_kept u v row kept put = record {
    picker = refl;
    values = put ∙ (ap (fold remembering u) (sym (append-nil row)) ∙ ap (λ (o : Option (List Value)). fold remembering u (values_of (cons_option o []))) kept);
  }
