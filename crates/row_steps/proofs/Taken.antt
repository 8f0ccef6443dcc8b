-- One record was taken.
use Rattle.std.proofs.Common.{◌≡◌, ℕ, Bool, List, [], ◌∷◌, ◌++◌, Option, Some, None, map, sym, ◌∙◌, ap, subst, refl}
use Rattle.std.specs.List.{cons_option}
use Rattle.std.proofs.lemmas.List.{append-nil}
use Rattle.lp_values.specs.declared.value.Value.{Value}
use Rattle.lp_values.specs.declared.group.AggKind.{AggKind}
use Rattle.log_reading.specs.Found.{Found}
use Rattle.group_rollup.specs.Groups.{Record}
use Rattle.group_rollup.specs.Tables.{Holds}
use Rattle.row_steps.specs.Grouped.{cut, records_of}
use Rattle.row_steps.specs.Gathered.{GatheredAt, Gathers}

-- the picker drops it
pub gathers_dropped : {P Q O : Type 0} (picks : P → Found → Option (List Value)) (s : GatheredAt P Q O) (found : Found) → None ≡ picks s.picker found → Gathers picks s (found ∷ []) s
gathers_dropped picks s found dropped =
    let none : records_of s.groups.width (picks s.picker) (found ∷ []) ≡ [] = ap (λ (o : Option (List Value)). map (cut s.groups.width) (cons_option o [])) (sym dropped) in
    record {
      grown = λ width kinds rollup records holds. subst (λ (t : List Record). Holds width kinds rollup s.groups t) (sym (append-nil records) ∙ ap (λ (t : List Record). records ++ t) (sym none)) holds;
      picker = refl;
      plan = refl;
      width = refl;
      kinds = refl;
      out = refl;
    }

-- the picker makes a row of it
pub gathers_kept : {P Q O : Type 0} (picks : P → Found → Option (List Value)) (s t : GatheredAt P Q O) (found : Found) (keys : ℕ) (row : List Value) → Some row ≡ picks s.picker found → s.groups.width ≡ keys
    → ((many : ℕ) (kinds : List AggKind) (rollup : Bool) (records : List Record) → Holds many kinds rollup s.groups records → Holds many kinds rollup t.groups (records ++ cut keys row ∷ []))
    → t.picker ≡ s.picker → t.plan ≡ s.plan → t.groups.width ≡ s.groups.width → t.groups.kinds ≡ s.groups.kinds → t.out ≡ s.out → Gathers picks s (found ∷ []) t
gathers_kept picks s t found keys row kept wide step picker plan width kinds out =
    let one : records_of s.groups.width (picks s.picker) (found ∷ []) ≡ cut keys row ∷ [] =
    ap (λ (o : Option (List Value)). map (cut s.groups.width) (cons_option o [])) (sym kept) ∙ ap (λ (n : ℕ). cut n row ∷ []) wide in
    record {
      grown = λ many kinds rollup records holds. subst (λ (rs : List Record). Holds many kinds rollup t.groups (records ++ rs)) (sym one) (step many kinds rollup records holds);
      picker = picker;
      plan = plan;
      width = width;
      kinds = kinds;
      out = out;
    }
