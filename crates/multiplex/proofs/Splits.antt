-- Rows that are split, and their names.
use Rattle.std.proofs.Common.{◌≡◌, ◌<◌, ℕ, zero, suc, Bool, true, false, not, cond, ◌||◌, ◌==◌, List, [], ◌∷◌, map, filter, take, drop, slice_get, Some, refl, sym, ◌∙◌, ap, subst, arith, if◌then◌else◌}
use Rattle.std.specs.Prelude.{bytes_eq}
use Rattle.std.specs.Cmp.Lexicographic.{nat_list_eq_equiv}
use Rattle.std.proofs.lemmas.Bool.Decides.{Decides-eqb}
use Rattle.lp_values.specs.declared.value.Value.{Value}
use Rattle.log_listing.specs.Firsts.{firsts}
use Rattle.multiplex.specs.Naming.{filled, stars}
use Rattle.multiplex.specs.Splitting.{OutputRows, row_name, rows_named, output_names, split}
use Rattle.multiplex.specs.Placing.{Numbering, index_among, StandFor}
use Rattle.multiplex.proofs.Names.{among, among_firsts}
use Rattle.multiplex.proofs.Distinct.{Differ, firsts_differ, same_place, kept_alike}

pub names_kept : (pattern : List ℕ) (rows : List (List Value)) (names : List (List ℕ)) → map (λ (o : OutputRows). o.name) (map (λ name. record { name = name; rows = rows_named pattern rows name }) names) ≡ names
names_kept pattern rows [] = refl
names_kept pattern rows (x ∷ xs) = ap (λ (l : List (List ℕ)). x ∷ l) (names_kept pattern rows xs)

names_by_row : (pattern : List ℕ) (rows : List (List Value)) → map (filled pattern) (map (take (stars pattern)) rows) ≡ map (row_name pattern) rows
names_by_row pattern [] = refl
names_by_row pattern (row ∷ rows) = ap (λ (l : List (List ℕ)). row_name pattern row ∷ l) (names_by_row pattern rows)

pub not_zero : (n : ℕ) → 0 < n → (n == 0) ≡ false
not_zero n less = by (n == 0) refl
  where
    by : (b : Bool) → (n == 0) ≡ b → (n == 0) ≡ false
    by true e = absurd (let same : n ≡ 0 = (Decides-eqb n 0).0 e in omega (arith, less, same))
    by false e = e

-- a pattern without values is a name itself
pub no_values : (pattern : List ℕ) → filled pattern [] ≡ pattern
no_values [] = refl
no_values (byte ∷ more) = ap (λ (l : List ℕ). byte ∷ l) (no_values more)

pub plain_name : (pattern : List ℕ) (row : List Value) → stars pattern ≡ 0 → row_name pattern row ≡ pattern
plain_name pattern row none = ap (λ (n : ℕ). filled pattern (take n row)) none ∙ no_values pattern

-- where all names are one, no other is left
one_first : {X : Type 0} (name : List ℕ) (of : X → List ℕ) (xs : List X) → ((x : X) → of x ≡ name) → filter (λ other. not (bytes_eq other name)) (firsts (map of xs)) ≡ []
one_first name of [] all = refl
one_first name of (x ∷ xs) all =
    ap (λ (n : List ℕ). filter (λ other. not (bytes_eq other name)) (n ∷ filter (λ other. not (bytes_eq other n)) (firsts (map of xs)))) (all x)
    ∙ ap (λ (l : List (List ℕ)). filter (λ other. not (bytes_eq other name)) (name ∷ l)) (one_first name of xs all)
    ∙ ap (λ (b : Bool). cond (not b) (name ∷ []) []) (nat_list_eq_equiv.refl name)

-- where there are stars, the names of the outputs are those of the rows
pub split_stars : (outputs : Numbering) (rows : List (List Value)) → 0 < stars outputs.pattern → StandFor outputs (map (take (stars outputs.pattern)) rows) → map (λ (o : OutputRows). o.name) (split outputs.pattern rows) ≡ outputs.names
split_stars outputs rows some stand =
    let pattern = outputs.pattern in
    names_kept pattern rows (output_names pattern rows)
    ∙ ap (λ (b : Bool). if b then pattern ∷ [] else firsts (map (row_name pattern) rows)) (not_zero (stars pattern) some)
    ∙ ap firsts (sym (names_by_row pattern rows)) ∙ sym stand

-- and where there are none, there is one
pub split_plain : (outputs : Numbering) (rows : List (List Value)) → stars outputs.pattern ≡ 0 → StandFor outputs ([] ∷ map (take (stars outputs.pattern)) rows) → map (λ (o : OutputRows). o.name) (split outputs.pattern rows) ≡ outputs.names
split_plain outputs rows none stand =
    let pattern = outputs.pattern in
    let own = filled pattern [] in
    let rest : filter (λ other. not (bytes_eq other own)) (firsts (map (filled pattern) (map (take (stars pattern)) rows))) ≡ [] =
    ap (λ (l : List (List ℕ)). filter (λ other. not (bytes_eq other own)) (firsts l)) (names_by_row pattern rows) ∙ one_first own (row_name pattern) rows (λ row. plain_name pattern row none ∙ sym (no_values pattern)) in
    names_kept pattern rows (output_names pattern rows)
    ∙ ap (λ (n : ℕ). if n == 0 then pattern ∷ [] else firsts (map (row_name pattern) rows)) none
    ∙ ap (λ (l : List ℕ). l ∷ []) (sym (no_values pattern))
    ∙ ap (λ (l : List (List ℕ)). own ∷ l) (sym rest) ∙ sym stand

-- the names of outputs differ
pub names_differ : (pattern : List ℕ) (rows : List (List Value)) → Differ (output_names pattern rows)
names_differ pattern rows = by (stars pattern == 0) refl
  where
    by : (b : Bool) → (stars pattern == 0) ≡ b → Differ (output_names pattern rows)
    by true e = subst (λ (b : Bool). Differ (if b then pattern ∷ [] else firsts (map (row_name pattern) rows))) (sym e) (refl, tt)
    by false e = subst (λ (b : Bool). Differ (if b then pattern ∷ [] else firsts (map (row_name pattern) rows))) (sym e) (firsts_differ (map (row_name pattern) rows))

-- and each row has one of them
row_is_named : (pattern : List ℕ) (rows : List (List Value)) (row : List Value) → among (row_name pattern row) (map (row_name pattern) rows) ≡ true → among (row_name pattern row) (output_names pattern rows) ≡ true
row_is_named pattern rows row there = by (stars pattern == 0) refl
  where
    by : (b : Bool) → (stars pattern == 0) ≡ b → among (row_name pattern row) (output_names pattern rows) ≡ true
    by true e =
        ap (λ (b : Bool). among (row_name pattern row) (if b then pattern ∷ [] else firsts (map (row_name pattern) rows))) e
        ∙ ap (λ (n : List ℕ). among n (pattern ∷ [])) (plain_name pattern row ((Decides-eqb (stars pattern) 0).0 e))
        ∙ ap (λ (b : Bool). b || false) (nat_list_eq_equiv.refl pattern)
    by false e =
        ap (λ (b : Bool). among (row_name pattern row) (if b then pattern ∷ [] else firsts (map (row_name pattern) rows))) e
        ∙ among_firsts (row_name pattern row) (map (row_name pattern) rows) ∙ there

some_same : (one other : OutputRows) → Some one ≡ Some other → one ≡ other
some_same one other same = cc

output_found : (pattern : List ℕ) (rows : List (List Value)) (names : List (List ℕ)) (i : ℕ) (output : OutputRows) → slice_get (map (λ name. record { name = name; rows = rows_named pattern rows name }) names) i ≡ Some output
    → (name : List ℕ) × (slice_get names i ≡ Some name) × (output.rows ≡ rows_named pattern rows name)
output_found pattern rows [] i output at = absurd (cc)
output_found pattern rows (x ∷ xs) zero output at = (x, refl, ap (λ (o : OutputRows). o.rows) (sym (some_same (record { name = x; rows = rows_named pattern rows x }) output at)))
output_found pattern rows (x ∷ xs) (suc i) output at = output_found pattern rows xs i output at

-- the rows of an output are those of its index
pub rows_by_index : (pattern : List ℕ) (rows : List (List Value)) (index : ℕ) (output : OutputRows) → slice_get (split pattern rows) index ≡ Some output
    → output.rows ≡ map (drop (stars pattern)) (filter (λ row. index_among (output_names pattern rows) (row_name pattern row) == index) rows)
rows_by_index pattern rows index output at =
    let names = output_names pattern rows in
    let found = output_found pattern rows names index output at in
    found.2 ∙ ap (map (drop (stars pattern))) (kept_alike (row_name pattern) (λ row. bytes_eq found.0 (row_name pattern row)) (λ row. index_among names (row_name pattern row) == index) rows
    (λ row there. same_place names index found.0 (row_name pattern row) (names_differ pattern rows) found.1 (row_is_named pattern rows row there)))
