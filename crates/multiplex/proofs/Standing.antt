-- Outputs that stand for rows, and their indices.
use Rattle.std.proofs.Common.{◌≡◌, ℕ, Bool, true, false, ◌||◌, List, [], ◌∷◌, ◌++◌, map, refl, sym, ◌∙◌, ap, subst, if◌then◌else◌}
use Rattle.std.specs.Prelude.{bytes_eq}
use Rattle.std.specs.Cmp.Lexicographic.{nat_list_eq_equiv}
use Rattle.std.proofs.lemmas.List.{map-append}
use Rattle.lp_values.specs.declared.value.Value.{Value}
use Rattle.multiplex.specs.Naming.{filled}
use Rattle.log_listing.specs.Firsts.{firsts, with_name}
use Rattle.multiplex.specs.Placing.{Numbering, index_among, after_row, StandFor, indices_of}
use Rattle.multiplex.proofs.Names.{among, among_firsts, firsts_push, index_stays, index_new, index_end}

or_true : (b : Bool) → (b || true) ≡ true
or_true true = refl
or_true false = refl

-- the outputs stand for one row more
pub stand_more : (outputs : Numbering) (rows : List (List Value)) (values : List Value) → StandFor outputs rows → StandFor (after_row outputs (filled outputs.pattern values)) (rows ++ values ∷ [])
stand_more outputs rows values stand =
    let name = filled outputs.pattern in
    ap (λ (l : List (List ℕ)). with_name l (name values)) stand ∙ sym (firsts_push (map name rows) (name values)) ∙ ap firsts (sym (map-append name rows (values ∷ [])))

-- names that are there keep their places
stay_all : (name : List Value → List ℕ) (names more : List (List ℕ)) (rows : List (List Value)) → ((x : List ℕ) → among x (map name rows) ≡ true → among x names ≡ true)
    → map (λ values. index_among (names ++ more) (name values)) rows ≡ map (λ values. index_among names (name values)) rows
stay_all name names more [] there = refl
stay_all name names more (row ∷ rows) there =
    let own : among (name row) (map name (row ∷ rows)) ≡ true = ap (λ (b : Bool). b || among (name row) (map name rows)) (nat_list_eq_equiv.refl (name row)) in
    ap (λ (n : ℕ). n ∷ map (λ values. index_among (names ++ more) (name values)) rows) (index_stays names more (name row) (there (name row) own))
    ∙ ap (λ (l : List ℕ). index_among names (name row) ∷ l) (stay_all name names more rows (λ x one. there x (ap (λ (b : Bool). bytes_eq x (name row) || b) one ∙ or_true (bytes_eq x (name row)))))

-- the indices of the rows before stay, and the row's comes behind them
pub indices_more : (outputs : Numbering) (rows : List (List Value)) (values : List Value) → StandFor outputs rows
    → indices_of (after_row outputs (filled outputs.pattern values)) (rows ++ values ∷ []) ≡ indices_of outputs rows ++ index_among outputs.names (filled outputs.pattern values) ∷ []
indices_more outputs rows values stand = map-append (λ (v : List Value). index_among (with_name outputs.names (filled outputs.pattern values)) (filled outputs.pattern v)) rows (values ∷ []) ∙ by (among (filled outputs.pattern values) outputs.names) refl
  where
    known : (x : List ℕ) → among x (map (filled outputs.pattern) rows) ≡ true → among x outputs.names ≡ true
    known x there = ap (among x) stand ∙ among_firsts x (map (filled outputs.pattern) rows) ∙ there

    by : (b : Bool) → among (filled outputs.pattern values) outputs.names ≡ b
        → map (λ (v : List Value). index_among (with_name outputs.names (filled outputs.pattern values)) (filled outputs.pattern v)) rows ++ index_among (with_name outputs.names (filled outputs.pattern values)) (filled outputs.pattern values) ∷ []
        ≡ indices_of outputs rows ++ index_among outputs.names (filled outputs.pattern values) ∷ []
    by true e =
        let same : with_name outputs.names (filled outputs.pattern values) ≡ outputs.names = ap (λ (b : Bool). if b then outputs.names else outputs.names ++ filled outputs.pattern values ∷ []) e in
        ap (λ (l : List (List ℕ)). map (λ (v : List Value). index_among l (filled outputs.pattern v)) rows ++ index_among l (filled outputs.pattern values) ∷ []) same
    by false e =
        let name = filled outputs.pattern values in
        let more : with_name outputs.names name ≡ outputs.names ++ name ∷ [] = ap (λ (b : Bool). if b then outputs.names else outputs.names ++ filled outputs.pattern values ∷ []) e in
        ap (λ (l : List (List ℕ)). map (λ (v : List Value). index_among l (filled outputs.pattern v)) rows ++ index_among l (filled outputs.pattern values) ∷ []) more
        ∙ ap (λ (l : List ℕ). l ++ index_among (outputs.names ++ name ∷ []) name ∷ []) (stay_all (filled outputs.pattern) outputs.names (name ∷ []) rows known)
        ∙ ap (λ (n : ℕ). indices_of outputs rows ++ n ∷ []) (index_end outputs.names name e ∙ sym (index_new outputs.names name e))

pub stand_at : (old new : Numbering) (rows : List (List Value)) (values : List Value) → new ≡ after_row old (filled old.pattern values) → StandFor old rows → StandFor new (rows ++ values ∷ [])
stand_at old new rows values is stand = subst (λ (o : Numbering). StandFor o (rows ++ values ∷ [])) (sym is) (stand_more old rows values stand)

pub indices_at : (old new : Numbering) (rows : List (List Value)) (values : List Value) (index : ℕ) → new ≡ after_row old (filled old.pattern values) → index ≡ index_among old.names (filled old.pattern values) → StandFor old rows
    → indices_of new (rows ++ values ∷ []) ≡ indices_of old rows ++ index ∷ []
indices_at old new rows values index is at stand =
    ap (λ (o : Numbering). indices_of o (rows ++ values ∷ [])) is ∙ indices_more old rows values stand ∙ ap (λ (n : ℕ). indices_of old rows ++ n ∷ []) (sym at)
