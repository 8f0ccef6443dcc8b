-- What a taker of groups has gathered.
use Rattle.std.specs.Prelude.{◌≡◌, ℕ, Bool, List, [], ◌++◌, map, Option}
use Rattle.std.proofs.Common.{ap, sym, ◌∙◌, refl, subst, append_assoc}
use Rattle.std.proofs.lemmas.List.{append-nil, map-append}
use Rattle.lp_values.specs.declared.value.Value.{Value}
use Rattle.lp_values.specs.declared.group.AggKind.{AggKind}
use Rattle.log_reading.specs.Found.{Found, Met, rows_met}
use Rattle.log_reading.proofs.RowsMet.{rows_met-append}
use Rattle.query_run.specs.Rows.{picked}
use Rattle.query_run.specs.Writing.{picked-append}
use Rattle.group_rollup.specs.Groups.{Record}
use Rattle.group_rollup.specs.Tables.{Table, Holds}
use Rattle.row_steps.specs.Grouped.{cut, records_of}

-- a taker of groups at one moment, and the output at hand
pub record GatheredAt (P Q O : Type 0) : Type 0 where
  pub picker : P
  pub plan : Q
  pub groups : Table
  pub out : O

abbrev pub gathered_at : {P Q O : Type 0} → P → Q → Table → O → GatheredAt P Q O
gathered_at picker plan groups out = record { picker = picker; plan = plan; groups = groups; out = out }

-- From one moment to another the groups' records have grown by the picked rows of what was found, each cut into keys and
-- arguments. All else stays, and the output is as it was.
pub record Gathers {P Q O : Type 0} (picks : P → Found → Option (List Value)) (old : GatheredAt P Q O) (founds : List Found) (new : GatheredAt P Q O) : Type 0 where
  pub grown : (width : ℕ) (kinds : List AggKind) (rollup : Bool) (records : List Record) → Holds width kinds rollup old.groups records → Holds width kinds rollup new.groups (records ++ records_of old.groups.width (picks old.picker) founds)
  pub picker : new.picker ≡ old.picker
  pub plan : new.plan ≡ old.plan
  pub width : new.groups.width ≡ old.groups.width
  pub kinds : new.groups.kinds ≡ old.groups.kinds
  pub out : new.out ≡ old.out

records_append : (keys : ℕ) (picks : Found → Option (List Value)) (xs ys : List Found) → records_of keys picks (xs ++ ys) ≡ records_of keys picks xs ++ records_of keys picks ys
records_append keys picks xs ys = ap (map (cut keys)) (picked-append picks xs ys) ∙ map-append (cut keys) (picked picks xs) (picked picks ys)

pub gathers_none : {P Q O : Type 0} (picks : P → Found → Option (List Value)) (s : GatheredAt P Q O) → Gathers picks s [] s
gathers_none picks s = record {
  grown = λ width kinds rollup records holds. subst (λ (t : List Record). Holds width kinds rollup s.groups t) (sym (append-nil records)) holds;
  picker = refl;
  plan = refl;
  width = refl;
  kinds = refl;
  out = refl;
}

pub gathers_more : {P Q O : Type 0} (picks : P → Found → Option (List Value)) (a b c : GatheredAt P Q O) (xs ys : List Found) → Gathers picks a xs b → Gathers picks b ys c → Gathers picks a (xs ++ ys) c
gathers_more picks a b c xs ys f s =
    let first = records_of a.groups.width (picks a.picker) xs in
    let second = records_of b.groups.width (picks b.picker) ys in
    let same : second ≡ records_of a.groups.width (picks a.picker) ys = ap (λ n. records_of n (picks b.picker) ys) f.width ∙ ap (λ p. records_of a.groups.width (picks p) ys) f.picker in
    record {
      grown = λ width kinds rollup records holds.
          let whole : (records ++ first) ++ second ≡ records ++ records_of a.groups.width (picks a.picker) (xs ++ ys) =
          append_assoc records first second ∙ ap (λ t. records ++ t) (ap (λ t. first ++ t) same ∙ sym (records_append a.groups.width (picks a.picker) xs ys)) in
          subst (λ (t : List Record). Holds width kinds rollup c.groups t) whole (s.grown width kinds rollup (records ++ first) (f.grown width kinds rollup records holds));
      picker = s.picker ∙ f.picker;
      plan = s.plan ∙ f.plan;
      width = s.width ∙ f.width;
      kinds = s.kinds ∙ f.kinds;
      out = s.out ∙ f.out;
    }

pub gathers_more_met : {P Q O : Type 0} (picks : P → Found → Option (List Value)) (a b c : GatheredAt P Q O) (xs ys : List Met) → Gathers picks a (rows_met xs) b → Gathers picks b (rows_met ys) c → Gathers picks a (rows_met (xs ++ ys)) c
gathers_more_met picks a b c xs ys f s = subst (λ (t : List Found). Gathers picks a t c) (sym (rows_met-append xs ys)) (gathers_more picks a b c (rows_met xs) (rows_met ys) f s)
