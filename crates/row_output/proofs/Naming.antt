-- The names of outputs, with one row more.
use Rattle.std.proofs.Common.{◌≡◌, ◌≢◌, ◌⊎◌, inl, inr, ◌<◌, ◌≤◌, ◌+◌, ℕ, zero, suc, Bool, true, false, true≢false, not, cond, ◌||◌, ◌==◌, List, [], ◌∷◌, ◌++◌, length, map, filter, take, drop, slice_get, All, Option, Some, None, take-append-drop, refl, sym, ◌∙◌, ap, subst, arith, length-append, if◌then◌else◌}
use Rattle.std.specs.Prelude.{bytes_eq}
use Rattle.std.specs.Cmp.Lexicographic.{nat_list_eq_equiv}
use Rattle.std.proofs.lemmas.Bool.Decides.{Decides-eqb}
use Rattle.std.proofs.Math.Seq.{take-append_seam, take-length}
use Rattle.std.proofs.lemmas.List.{map-append, append-nil, take_more, drop_more}
use Rattle.std.proofs.lemmas.Option.{slice_get_within, get_or_from_slice_get}
use Rattle.std.proofs.lemmas.List.Elements.{All-head, All-tail, All-weaker, All-push, All-map, filter-append}
use Rattle.std.proofs.lemmas.List.Folds.{list_any-append}
use Rattle.std.proofs.lemmas.Slice.Eq.{bytes_eq-Decides}
use Rattle.log_listing.specs.Firsts.{is_among, firsts, with_name}
use Rattle.lp_outside.specs.NameFault.{name_fault}
use Rattle.multiplex.specs.Naming.{filled, stars}
use Rattle.multiplex.specs.Placing.{Numbering, CanBeAdded, IsNewName}
use Rattle.multiplex.specs.Splitting.{OutputRows, output_names, row_name, rows_named, split}
use Rattle.multiplex.proofs.Names.{firsts_push, among_firsts}
use Rattle.multiplex.proofs.Distinct.{Differ}
use Rattle.multiplex.proofs.Splits.{no_values, plain_name, names_differ, names_kept, not_zero}
use Rattle.order_top.specs.Finish.{Row}
use Rattle.text_output.specs.Output.{StageKind}
use Rattle.row_output.specs.declared.fault.Refused.{Refused}
use Rattle.row_output.specs.declared.fault.Refused.TheVariants as R
use Rattle.row_output.specs.Asked.{Files, AreGood, IsRefusedAs, IsRefusedBy, IsFirstRefused}
use Rattle.row_output.specs.Files.{FilesStop, IsBase, Opened}
use Rattle.row_output.specs.FileTexts.{StopsAmong, StopsFree}
use Rattle.row_output.specs.FileRows.{AreNamesOf}

or_true : (b : Bool) → (b || true) ≡ true
or_true true = refl
or_true false = refl

or_first : (a b : Bool) → a ≡ true → (a || b) ≡ true
or_first a b e = ap (λ (c : Bool). c || b) e

-- the names of outputs, where there are no stars and where there are
pub names_plain : (pattern : List ℕ) (rows : List Row) → stars pattern ≡ 0 → output_names pattern rows ≡ pattern ∷ []
names_plain pattern rows none = ap (λ (b : Bool). if b then pattern ∷ [] else firsts (map (row_name pattern) rows)) ((Decides-eqb (stars pattern) 0).1 none)

pub names_starred : (pattern : List ℕ) (rows : List Row) → 0 < stars pattern → output_names pattern rows ≡ firsts (map (row_name pattern) rows)
names_starred pattern rows some = ap (λ (b : Bool). if b then pattern ∷ [] else firsts (map (row_name pattern) rows)) (not_zero (stars pattern) some)

-- with stars or without
abbrev pub IsNoneOrSome : ℕ → Type 0
IsNoneOrSome n = (n ≡ 0) ⊎ (0 < n)

pub none_or_some : (n : ℕ) → IsNoneOrSome n
none_or_some zero = inl refl
none_or_some (suc n) = inr (omega arith)

-- a name that is among them isn't put there again
pub with_known : (names : List (List ℕ)) (name : List ℕ) → is_among names name ≡ true → with_name names name ≡ names
with_known names name there = ap (λ (b : Bool). if b then names else names ++ name ∷ []) there

pub with_new : (names : List (List ℕ)) (name : List ℕ) → is_among names name ≡ false → with_name names name ≡ names ++ name ∷ []
with_new names name new = ap (λ (b : Bool). if b then names else names ++ name ∷ []) new

is_itself : (name : List ℕ) → is_among (name ∷ []) name ≡ true
is_itself name = ap (λ (b : Bool). b || false) (nat_list_eq_equiv.refl name)

-- without stars there is one name, whether it is opened or not
pub plain_after : (outputs : Numbering) (rows : List Row) → stars outputs.pattern ≡ 0 → AreNamesOf outputs rows → with_name outputs.names outputs.pattern ≡ outputs.pattern ∷ []
plain_after outputs rows none (inl names) =
    let one : outputs.names ≡ outputs.pattern ∷ [] = names ∙ names_plain outputs.pattern rows none in
    ap (λ (l : List (List ℕ)). with_name l outputs.pattern) one ∙ with_known (outputs.pattern ∷ []) outputs.pattern (is_itself outputs.pattern)
plain_after outputs rows none (inr (names, no_rows)) = ap (λ (l : List (List ℕ)). with_name l outputs.pattern) names

-- with stars the names are those of the rows
pub starred_are : (outputs : Numbering) (rows : List Row) → 0 < stars outputs.pattern → AreNamesOf outputs rows → outputs.names ≡ output_names outputs.pattern rows
starred_are outputs rows some (inl names) = names
starred_are outputs rows some (inr (names, no_rows)) =
    names ∙ sym (ap (output_names outputs.pattern) no_rows ∙ names_starred outputs.pattern [] some)

-- the names after a row
pub names_after : (outputs : Numbering) (rows : List Row) (row : Row) → AreNamesOf outputs rows → with_name outputs.names (row_name outputs.pattern row) ≡ output_names outputs.pattern (rows ++ row ∷ [])
names_after outputs rows row are = by (none_or_some (stars outputs.pattern))
  where
    by : IsNoneOrSome (stars outputs.pattern) → with_name outputs.names (row_name outputs.pattern row) ≡ output_names outputs.pattern (rows ++ row ∷ [])
    by (inl none) =
        ap (with_name outputs.names) (plain_name outputs.pattern row none) ∙ (plain_after outputs rows none are ∙ sym (names_plain outputs.pattern (rows ++ row ∷ []) none))
    by (inr some) =
        ap (λ (l : List (List ℕ)). with_name l (row_name outputs.pattern row)) (starred_are outputs rows some are ∙ names_starred outputs.pattern rows some)
        ∙ (sym (firsts_push (map (row_name outputs.pattern) rows) (row_name outputs.pattern row))
        ∙ (ap firsts (sym (map-append (row_name outputs.pattern) rows (row ∷ []))) ∙ sym (names_starred outputs.pattern (rows ++ row ∷ []) some)))

-- the names differ
pub names_of_differ : (outputs : Numbering) (rows : List Row) → AreNamesOf outputs rows → Differ outputs.names
names_of_differ outputs rows (inl names) = subst Differ (sym names) (names_differ outputs.pattern rows)
names_of_differ outputs rows (inr (names, no_rows)) = subst Differ (sym names) tt

or_false : (a b : Bool) → a ≡ false → b ≡ false → (a || b) ≡ false
or_false a b e f = ap (λ (c : Bool). c || b) e ∙ f

differ_push : (names : List (List ℕ)) (name : List ℕ) → is_among names name ≡ false → Differ names → Differ (names ++ name ∷ [])
differ_push [] name new differ = (refl, tt)
differ_push (x ∷ xs) name new differ = (
  list_any-append (bytes_eq x) xs (name ∷ []) ∙ or_false (is_among xs x) (is_among (name ∷ []) x) differ.0 (or_false (bytes_eq x name) false (turned (bytes_eq x name) refl) refl),
  differ_push xs name (rest (bytes_eq name x) (is_among xs name) new) differ.1,
)
  where
    rest : (a b : Bool) → (a || b) ≡ false → b ≡ false
    rest true b e = absurd (true≢false e)
    rest false b e = e

    turned : (b : Bool) → bytes_eq x name ≡ b → bytes_eq x name ≡ false
    turned false e = e
    turned true e =
        let same : name ≡ x = sym ((bytes_eq-Decides x name).0 e) in
        absurd (true≢false (sym (or_first (bytes_eq name x) (is_among xs name) ((bytes_eq-Decides name x).1 same)) ∙ new))

pub differ_with : (names : List (List ℕ)) (name : List ℕ) → Differ names → Differ (with_name names name)
differ_with names name differ = by (is_among names name) refl
  where
    by : (b : Bool) → is_among names name ≡ b → Differ (with_name names name)
    by true e = subst Differ (sym (with_known names name e)) differ
    by false e = subst Differ (sym (with_new names name e)) (differ_push names name e differ)

-- a name among some is among these with one more
pub among_with : (names : List (List ℕ)) (name other : List ℕ) → is_among names other ≡ true → is_among (with_name names name) other ≡ true
among_with names name other there = by (is_among names name) refl
  where
    by : (b : Bool) → is_among names name ≡ b → is_among (with_name names name) other ≡ true
    by true e = ap (λ (l : List (List ℕ)). is_among l other) (with_known names name e) ∙ there
    by false e = ap (λ (l : List (List ℕ)). is_among l other) (with_new names name e) ∙ (list_any-append (bytes_eq other) names (name ∷ []) ∙ or_first (is_among names other) (is_among (name ∷ []) other) there)

-- no row has a name that isn't among theirs
none_named : (pattern : List ℕ) (rows : List Row) (name : List ℕ) → is_among (map (row_name pattern) rows) name ≡ false → filter (λ row. bytes_eq name (row_name pattern row)) rows ≡ []
none_named pattern [] name off = refl
none_named pattern (row ∷ rows) name off = by (none_named pattern rows name) (bytes_eq name (row_name pattern row)) refl
  where
    by : (is_among (map (row_name pattern) rows) name ≡ false → filter (λ row. bytes_eq name (row_name pattern row)) rows ≡ []) → (b : Bool) → bytes_eq name (row_name pattern row) ≡ b → filter (λ row. bytes_eq name (row_name pattern row)) (row ∷ rows) ≡ []
    by rest true e = absurd (true≢false (sym (or_first (bytes_eq name (row_name pattern row)) (is_among (map (row_name pattern) rows) name) e) ∙ off))
    by rest false e =
        ap (λ (b : Bool). cond b (row ∷ filter (λ row. bytes_eq name (row_name pattern row)) rows) (filter (λ row. bytes_eq name (row_name pattern row)) rows)) e
        ∙ rest (sym (ap (λ (b : Bool). b || is_among (map (row_name pattern) rows) name) e) ∙ off)

-- where all rows have one name, no other is among theirs
one_named : (pattern : List ℕ) (rows : List Row) (name : List ℕ) → stars pattern ≡ 0 → is_among (pattern ∷ []) name ≡ false → is_among (map (row_name pattern) rows) name ≡ false
one_named pattern [] name none off = refl
one_named pattern (row ∷ rows) name none off =
    or_false (bytes_eq name (row_name pattern row)) (is_among (map (row_name pattern) rows) name)
    (ap (bytes_eq name) (plain_name pattern row none) ∙ first (bytes_eq name pattern) off) (one_named pattern rows name none off)
  where
    first : (b : Bool) → (b || false) ≡ false → b ≡ false
    first true e = e
    first false e = refl

off_rows : (pattern : List ℕ) (rows : List Row) (name : List ℕ) → is_among (output_names pattern rows) name ≡ false → is_among (map (row_name pattern) rows) name ≡ false
off_rows pattern rows name off = by (none_or_some (stars pattern))
  where
    by : IsNoneOrSome (stars pattern) → is_among (map (row_name pattern) rows) name ≡ false
    by (inl none) = one_named pattern rows name none (sym (ap (λ (l : List (List ℕ)). is_among l name) (names_plain pattern rows none)) ∙ off)
    by (inr some) = sym (among_firsts name (map (row_name pattern) rows)) ∙ (sym (ap (λ (l : List (List ℕ)). is_among l name) (names_starred pattern rows some)) ∙ off)

pub no_rows_of : (outputs : Numbering) (rows : List Row) (name : List ℕ) → AreNamesOf outputs rows → is_among outputs.names name ≡ false → rows_named outputs.pattern rows name ≡ []
no_rows_of outputs rows name (inl names) off =
    ap (map (drop (stars outputs.pattern))) (none_named outputs.pattern rows name (off_rows outputs.pattern rows name (sym (ap (λ (l : List (List ℕ)). is_among l name) names) ∙ off)))
no_rows_of outputs rows name (inr (names, no_rows)) off = ap (λ (l : List Row). rows_named outputs.pattern l name) no_rows

-- the rows of each name, with one row more
rows_more : (pattern : List ℕ) (rows : List Row) (row : Row) (name : List ℕ) (b : Bool) → bytes_eq name (row_name pattern row) ≡ b
    → rows_named pattern (rows ++ row ∷ []) name ≡ rows_named pattern rows name ++ map (drop (stars pattern)) (cond b (row ∷ []) [])
rows_more pattern rows row name b e =
    ap (map (drop (stars pattern))) (filter-append (λ row. bytes_eq name (row_name pattern row)) rows (row ∷ []) ∙ ap (λ (b : Bool). filter (λ row. bytes_eq name (row_name pattern row)) rows ++ cond b (row ∷ []) []) e)
    ∙ map-append (drop (stars pattern)) (filter (λ row. bytes_eq name (row_name pattern row)) rows) (cond b (row ∷ []) [])

pub rows_own : (pattern : List ℕ) (rows : List Row) (row : Row) → rows_named pattern (rows ++ row ∷ []) (row_name pattern row) ≡ rows_named pattern rows (row_name pattern row) ++ drop (stars pattern) row ∷ []
rows_own pattern rows row = rows_more pattern rows row (row_name pattern row) true (nat_list_eq_equiv.refl (row_name pattern row))

pub rows_other : (pattern : List ℕ) (rows : List Row) (row : Row) (name : List ℕ) → name ≢ row_name pattern row → rows_named pattern (rows ++ row ∷ []) name ≡ rows_named pattern rows name
rows_other pattern rows row name other = by (bytes_eq name (row_name pattern row)) refl
  where
    by : (b : Bool) → bytes_eq name (row_name pattern row) ≡ b → rows_named pattern (rows ++ row ∷ []) name ≡ rows_named pattern rows name
    by true e = absurd (other ((bytes_eq-Decides name (row_name pattern row)).0 e))
    by false e = rows_more pattern rows row name false e ∙ append-nil (rows_named pattern rows name)

-- a name of some rows' outputs is one of more rows' outputs
pub names_more : (pattern : List ℕ) (rows more : List Row) (name : List ℕ) → is_among (output_names pattern rows) name ≡ true → is_among (output_names pattern (rows ++ more)) name ≡ true
names_more pattern rows more name there = by (none_or_some (stars pattern))
  where
    by : IsNoneOrSome (stars pattern) → is_among (output_names pattern (rows ++ more)) name ≡ true
    by (inl none) = ap (λ (l : List (List ℕ)). is_among l name) (names_plain pattern (rows ++ more) none ∙ sym (names_plain pattern rows none)) ∙ there
    by (inr some) =
        let own : is_among (map (row_name pattern) rows) name ≡ true = sym (among_firsts name (map (row_name pattern) rows)) ∙ (sym (ap (λ (l : List (List ℕ)). is_among l name) (names_starred pattern rows some)) ∙ there) in
        ap (λ (l : List (List ℕ)). is_among l name) (names_starred pattern (rows ++ more) some)
        ∙ (among_firsts name (map (row_name pattern) (rows ++ more))
        ∙ (ap (λ (l : List (List ℕ)). is_among l name) (map-append (row_name pattern) rows more)
        ∙ (list_any-append (bytes_eq name) (map (row_name pattern) rows) (map (row_name pattern) more) ∙ or_first (is_among (map (row_name pattern) rows) name) (is_among (map (row_name pattern) more) name) own)))

pub names_of_among : (outputs : Numbering) (rows more : List Row) (name : List ℕ) → AreNamesOf outputs rows → is_among outputs.names name ≡ true → is_among (output_names outputs.pattern (rows ++ more)) name ≡ true
names_of_among outputs rows more name (inl names) there = names_more outputs.pattern rows more name (sym (ap (λ (l : List (List ℕ)). is_among l name) names) ∙ there)
names_of_among outputs rows more name (inr (names, no_rows)) there = absurd (true≢false (sym there ∙ ap (λ (l : List (List ℕ)). is_among l name) names))

-- where no name of some is forbidden, none that is among them is
free_among : (forbidden names : List (List ℕ)) (name : List ℕ) → All (λ other. is_among forbidden other ≡ false) names → is_among names name ≡ true → is_among forbidden name ≡ false
free_among forbidden [] name free there = absurd (true≢false (sym there))
free_among forbidden (own ∷ names) name free there = decide (bytes_eq name own) refl (λ later. free_among forbidden names name (All-tail (λ other. is_among forbidden other ≡ false) own names free) later)
  where
    decide : (d : Bool) → bytes_eq name own ≡ d → (is_among names name ≡ true → is_among forbidden name ≡ false) → is_among forbidden name ≡ false
    decide true e rest = ap (is_among forbidden) ((bytes_eq-Decides name own).0 e) ∙ All-head (λ other. is_among forbidden other ≡ false) own names free
    decide false e rest = rest (sym (ap (λ (b : Bool). b || is_among names name) e) ∙ there)

-- outputs of these names are some of the outputs of rows
pub stops_for : {S : Type 0} (kind : StageKind S) (files : Files) (names : List (List ℕ)) (start : S) (rows : List Row) (now : S) → ((name : List ℕ) → is_among names name ≡ true → is_among (output_names files.pattern rows) name ≡ true)
    → All (λ name. is_among files.forbidden name ≡ false) names → StopsAmong kind files.mode names start now → FilesStop kind files start rows now
stops_for kind files names start rows now among free stops = record {
  opened = stops.opened;
  named = All-weaker (λ (o : Opened). is_among names o.name ≡ true) (λ (o : Opened). is_among (map (λ (r : OutputRows). r.name) (split files.pattern rows)) o.name ≡ true)
      (λ o there. ap (λ (l : List (List ℕ)). is_among l o.name) (names_kept files.pattern rows (output_names files.pattern rows)) ∙ among o.name there) stops.opened stops.named;
  free = All-weaker (λ (o : Opened). is_among names o.name ≡ true) (λ (o : Opened). is_among files.forbidden o.name ≡ false) (λ o there. free_among files.forbidden names o.name free there) stops.opened stops.named;
  bases = stops.bases;
  spares = stops.spares;
}

pub stops_free : {S : Type 0} (kind : StageKind S) (files : Files) (known : List (List ℕ)) (start : S) (rows : List Row) (now : S) → ((name : List ℕ) → is_among known name ≡ true → is_among (output_names files.pattern rows) name ≡ true)
    → StopsFree kind files known start now → FilesStop kind files start rows now
stops_free kind files known start rows now among stops = stops_for kind files stops.names start rows now (λ name there. among name (stops.among name there)) stops.free stops.stops

-- one name more is good
good_push : (forbidden names : List (List ℕ)) (name : List ℕ) → CanBeAdded forbidden names name → AreGood forbidden names → AreGood forbidden (names ++ name ∷ [])
good_push forbidden names name can good =
    let long = length-append names (name ∷ []) in
    let room = can.room in
    record {
      few = omega (arith, long, room);
      good = All-push (λ name. name_fault name ≡ None) names name good.good can.good;
      free = All-push (λ name. is_among forbidden name ≡ false) names name good.free can.free;
    }

pub good_with : (forbidden names : List (List ℕ)) (name : List ℕ) → (is_among names name ≡ false → CanBeAdded forbidden names name) → AreGood forbidden names → AreGood forbidden (with_name names name)
good_with forbidden names name can good = by (is_among names name) refl
  where
    by : (b : Bool) → is_among names name ≡ b → AreGood forbidden (with_name names name)
    by true e = subst (AreGood forbidden) (sym (with_known names name e)) good
    by false e = subst (AreGood forbidden) (sym (with_new names name e)) (good_push forbidden names name (can e) good)

-- why the one name without stars is refused
pub refused_plain : (outputs : Numbering) (files : Files) (rows more : List Row) (name : List ℕ) (fault : Refused) → files.pattern ≡ outputs.pattern → files.forbidden ≡ outputs.forbidden → stars outputs.pattern ≡ 0 → name ≡ outputs.pattern → AreNamesOf outputs rows
    → IsNewName outputs name → IsRefusedAs outputs.forbidden outputs.names name fault → IsRefusedBy files more fault
refused_plain outputs files rows more name fault pattern forbidden none own (inl names) new refused =
    let one : outputs.names ≡ outputs.pattern ∷ [] = names ∙ names_plain outputs.pattern rows none in
    let here : is_among outputs.names name ≡ true = ap (is_among outputs.names) own ∙ (ap (λ (l : List (List ℕ)). is_among l outputs.pattern) one ∙ is_itself outputs.pattern) in
    absurd (true≢false (sym here ∙ new))
refused_plain outputs files rows more name fault pattern forbidden none own (inr (names, no_rows)) new refused =
    let a = subst (λ (l : List (List ℕ)). IsRefusedAs outputs.forbidden l name fault) names refused in
    let b = subst (λ (n : List ℕ). IsRefusedAs outputs.forbidden [] n fault) (own ∙ sym pattern) a in
    inl (ap stars pattern ∙ none, subst (λ (l : List (List ℕ)). IsRefusedAs l [] files.pattern fault) (sym forbidden) b)

-- why that of a row is
pub refused_row : (outputs : Numbering) (files : Files) (rows : List Row) (row : Row) (more : List Row) (fault : Refused) → files.pattern ≡ outputs.pattern → files.forbidden ≡ outputs.forbidden → AreNamesOf outputs rows → AreGood outputs.forbidden outputs.names
    → IsNewName outputs (row_name outputs.pattern row) → IsRefusedAs outputs.forbidden outputs.names (row_name outputs.pattern row) fault → IsRefusedBy files (rows ++ (row ∷ more)) fault
refused_row outputs files rows row more fault pattern forbidden are good new refused = by (none_or_some (stars outputs.pattern))
  where
    by : IsNoneOrSome (stars outputs.pattern) → IsRefusedBy files (rows ++ (row ∷ more)) fault
    by (inl none) = refused_plain outputs files rows (rows ++ (row ∷ more)) (row_name outputs.pattern row) fault pattern forbidden none (plain_name outputs.pattern row none) are new refused
    by (inr some) =
        let names : outputs.names ≡ output_names files.pattern rows = starred_are outputs rows some are ∙ ap (λ (p : List ℕ). output_names p rows) (sym pattern) in
        let own : row_name outputs.pattern row ≡ row_name files.pattern row = ap (λ (p : List ℕ). row_name p row) (sym pattern) in
        inr (
          subst (λ (n : ℕ). 0 < n) (sym (ap stars pattern)) some,
          record {
            before = rows;
            row = row;
            more = more;
            parts = refl;
            good = subst (λ (l : List (List ℕ)). AreGood l (output_names files.pattern rows)) (sym forbidden) (subst (AreGood outputs.forbidden) names good);
            new = sym (ap (λ (l : List (List ℕ)). is_among l (row_name files.pattern row)) names) ∙ (ap (is_among outputs.names) (sym own) ∙ new);
            refused = subst (λ (l : List (List ℕ)). IsRefusedAs l (output_names files.pattern rows) (row_name files.pattern row) fault) (sym forbidden)
                (subst (λ (n : List ℕ). IsRefusedAs outputs.forbidden (output_names files.pattern rows) n fault) own (subst (λ (l : List (List ℕ)). IsRefusedAs outputs.forbidden l (row_name outputs.pattern row) fault) names refused));
          },
        )

-- the front of names with one more
pub take_front : (names : List (List ℕ)) (name : List ℕ) → take (length names) (with_name names name) ≡ names
take_front names name = by (is_among names name) refl
  where
    by : (b : Bool) → is_among names name ≡ b → take (length names) (with_name names name) ≡ names
    by true e = ap (take (length names)) (with_known names name e) ∙ take-length names
    by false e = ap (take (length names)) (with_new names name e) ∙ take-append_seam names (name ∷ [])

-- a name among the first ones is among all
pub among_take : (n : ℕ) (names : List (List ℕ)) (name : List ℕ) → is_among (take n names) name ≡ true → is_among names name ≡ true
among_take n names name there =
    ap (λ (l : List (List ℕ)). is_among l name) (sym (take-append-drop n names))
    ∙ (list_any-append (bytes_eq name) (take n names) (drop n names) ∙ or_first (is_among (take n names) name) (is_among (drop n names) name) there)

-- names that differ, in two parts
pub differ_parts : (done : List (List ℕ)) (name : List ℕ) (more : List (List ℕ)) → Differ (done ++ (name ∷ more)) → (is_among done name ≡ false) × (is_among more name ≡ false)
differ_parts [] name more differ = (refl, differ.0)
differ_parts (first ∷ done) name more differ =
    let rest = differ_parts done name more differ.1 in
    (or_false (bytes_eq name first) (is_among done name) (other (bytes_eq name first) refl) rest.0, rest.1)
  where
    stands : is_among (done ++ (name ∷ more)) name ≡ true
    stands = list_any-append (bytes_eq name) done (name ∷ more) ∙ (ap (λ (b : Bool). is_among done name || (b || is_among more name)) (nat_list_eq_equiv.refl name) ∙ or_true (is_among done name))

    other : (b : Bool) → bytes_eq name first ≡ b → bytes_eq name first ≡ false
    other false e = e
    other true e = absurd (true≢false (sym stands ∙ (ap (is_among (done ++ (name ∷ more))) ((bytes_eq-Decides name first).0 e) ∙ differ.0)))

-- the name at a place isn't among those before it, where they differ, and comes behind them
pub next_at : (names : List (List ℕ)) (n : ℕ) (name : List ℕ) → slice_get names n ≡ Some name → take (n + 1) names ≡ take n names ++ name ∷ []
next_at names n name at =
    let less = slice_get_within names n name at in
    take_more names n [] less ∙ ap (λ (x : List ℕ). take n names ++ x ∷ []) (get_or_from_slice_get names n name [] at)

pub off_before : (names : List (List ℕ)) (n : ℕ) (name : List ℕ) → Differ names → slice_get names n ≡ Some name → is_among (take n names) name ≡ false
off_before names n name differ at =
    let less = slice_get_within names n name at in
    let behind : drop n names ≡ name ∷ drop (n + 1) names = drop_more names n [] less ∙ ap (λ (x : List ℕ). x ∷ drop (n + 1) names) (get_or_from_slice_get names n name [] at) in
    let whole : names ≡ take n names ++ (name ∷ drop (n + 1) names) = sym (take-append-drop n names) ∙ ap (λ (l : List (List ℕ)). take n names ++ l) behind in
    (differ_parts (take n names) name (drop (n + 1) names) (subst Differ whole differ)).0
