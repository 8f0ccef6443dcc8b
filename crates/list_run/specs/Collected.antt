-- What a collector has gathered.
use Rattle.std.specs.Prelude.{◌≡◌, List, [], ◌++◌, fold, Option}
use Rattle.std.proofs.Common.{ap, ap₂, sym, ◌∙◌, refl, subst}
use Rattle.std.proofs.lemmas.List.Concat.{flat_map-append}
use Rattle.std.proofs.lemmas.List.Sums.{fold-append}
use Rattle.lp_values.specs.declared.value.Value.{Value}
use Rattle.log_reading.specs.Found.{Found, Met, rows_met}
use Rattle.log_reading.proofs.RowsMet.{rows_met-append}
use Rattle.query_run.specs.Rows.{picked}
use Rattle.query_run.specs.Writing.{picked-append}
use Rattle.list_run.specs.Gathering.{Remembered, remembering}
use Rattle.list_run.specs.Lists.{values_of}

-- the values of the picked rows of what was found were gathered, and the picker stays
pub record Collects {P : Type 0} (picks : P → Found → Option (List Value)) (old : P) (before : Remembered) (founds : List Found) (new : P) (now : Remembered) : Type 0 where
  pub picker : new ≡ old
  pub values : now ≡ fold remembering before (values_of (picked (picks old) founds))

module _ {P : Type 0} (picks : P → Found → Option (List Value)) where
  pub collects_none : (s : P) (w : Remembered) → Collects picks s w [] s w
  collects_none s w = record { picker = refl; values = refl }

  values_append : (s : P) (xs ys : List Found) → values_of (picked (picks s) (xs ++ ys)) ≡ values_of (picked (picks s) xs) ++ values_of (picked (picks s) ys)
  values_append s xs ys = ap values_of (picked-append (picks s) xs ys) ∙ flat_map-append (λ (row : List Value). row) (picked (picks s) xs) (picked (picks s) ys)

  collects_on : (a b c : P) (u v w : Remembered) (xs ys : List Found) → Collects picks a u xs b v → Collects picks b v ys c w → Collects picks a u (xs ++ ys) c w
  collects_on a b c u v w xs ys f s =
      let first = values_of (picked (picks a) xs) in
      record {
        picker = s.picker ∙ f.picker;
        values = s.values
            ∙ (ap₂ (λ before (p : P). fold remembering before (values_of (picked (picks p) ys))) f.values f.picker
            ∙ (sym (fold-append remembering u first (values_of (picked (picks a) ys))) ∙ ap (fold remembering u) (sym (values_append a xs ys))));
      }

  pub collects_more : (a b c : P) (u v w : Remembered) (xs ys : List Met) → Collects picks a u (rows_met xs) b v → Collects picks b v (rows_met ys) c w → Collects picks a u (rows_met (xs ++ ys)) c w
  collects_more a b c u v w xs ys f s =
      let Of : List Found → Type 0 = λ founds. Collects picks a u founds c w in
      subst Of (sym (rows_met-append xs ys)) (collects_on a b c u v w (rows_met xs) (rows_met ys) f s)
