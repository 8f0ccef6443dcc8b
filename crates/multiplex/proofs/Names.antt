-- Names, each once, and their places.
use Rattle.std.proofs.Common.{◌≡◌, ℕ, suc, ◌+◌, Bool, true, false, not, cond, ◌||◌, ◌&&◌, true≢false, List, [], ◌∷◌, ◌++◌, length, filter, slice_get, get_or, position, Some, Result, Ok, Err, IfOk, is_some, refl, sym, ◌∙◌, ap, arith, if◌then◌else◌}
use Rattle.std.specs.Prelude.{bytes_eq}
use Rattle.std.specs.List.{list_any}
use Rattle.std.specs.Map.{lookup, keys_of}
use Rattle.std.specs.Cmp.Lexicographic.{nat_list_eq_equiv}
use Rattle.std.proofs.lemmas.Slice.Eq.{bytes_eq-Decides}
use Rattle.std.proofs.lemmas.List.{get_or_push, length_push, append-nil}
use Rattle.std.proofs.lemmas.List.Elements.{filter-append}
use Rattle.std.proofs.lemmas.Map.Views.{any-filter_same}
use Rattle.std.proofs.lemmas.List.Quantifiers.{position-Some}
use Rattle.std.proofs.lemmas.Option.{slice_get-get_or}
use Rattle.indexmap.specs.IndexMap.{insert_entry}
use Rattle.log_listing.specs.Firsts.{firsts, with_name}
use Rattle.multiplex.specs.Placing.{index_among}

-- a name is among some
abbrev pub among : List ℕ → List (List ℕ) → Bool
among name names = list_any (bytes_eq name) names

pub one_name : (a b : List ℕ) → bytes_eq a b ≡ true → a ≡ b
one_name a b = (bytes_eq-Decides a b).0

-- a name that isn't there would be the next
pub index_new : (names : List (List ℕ)) (name : List ℕ) → among name names ≡ false → index_among names name ≡ length names
index_new [] name new = refl
index_new (x ∷ xs) name new = by (index_new xs name) (bytes_eq name x) refl
  where
    by : (among name xs ≡ false → index_among xs name ≡ length xs) → (b : Bool) → bytes_eq name x ≡ b → index_among (x ∷ xs) name ≡ length (x ∷ xs)
    by rest true e = absurd (true≢false (sym (ap (λ (b : Bool). b || among name xs) e) ∙ new))
    by rest false e =
        let more : index_among xs name ≡ length xs = rest (sym (ap (λ (b : Bool). b || among name xs) e) ∙ new) in
        let here : index_among (x ∷ xs) name ≡ 1 + index_among xs name = ap (λ (b : Bool). cond (not b) (1 + index_among xs name) 0) e in
        omega (arith, here, more)

-- and has that place when it is put there
pub index_end : (names : List (List ℕ)) (name : List ℕ) → among name names ≡ false → index_among (names ++ name ∷ []) name ≡ length names
index_end [] name new = ap (λ (b : Bool). cond (not b) 1 0) (nat_list_eq_equiv.refl name)
index_end (x ∷ xs) name new = by (index_end xs name) (bytes_eq name x) refl
  where
    by : (among name xs ≡ false → index_among (xs ++ name ∷ []) name ≡ length xs) → (b : Bool) → bytes_eq name x ≡ b → index_among ((x ∷ xs) ++ name ∷ []) name ≡ length (x ∷ xs)
    by rest true e = absurd (true≢false (sym (ap (λ (b : Bool). b || among name xs) e) ∙ new))
    by rest false e =
        let more : index_among (xs ++ name ∷ []) name ≡ length xs = rest (sym (ap (λ (b : Bool). b || among name xs) e) ∙ new) in
        let here : index_among ((x ∷ xs) ++ name ∷ []) name ≡ 1 + index_among (xs ++ name ∷ []) name = ap (λ (b : Bool). cond (not b) (1 + index_among (xs ++ name ∷ []) name) 0) e in
        omega (arith, here, more)

-- a name keeps its place when others go behind it
pub index_stays : (names more : List (List ℕ)) (name : List ℕ) → among name names ≡ true → index_among (names ++ more) name ≡ index_among names name
index_stays [] more name there = absurd (true≢false (sym there))
index_stays (x ∷ xs) more name there = by (index_stays xs more name) (bytes_eq name x) refl
  where
    by : (among name xs ≡ true → index_among (xs ++ more) name ≡ index_among xs name) → (b : Bool) → bytes_eq name x ≡ b → index_among ((x ∷ xs) ++ more) name ≡ index_among (x ∷ xs) name
    by rest true e =
        let new : index_among ((x ∷ xs) ++ more) name ≡ 0 = ap (λ (b : Bool). cond (not b) (1 + index_among (xs ++ more) name) 0) e in
        let old : index_among (x ∷ xs) name ≡ 0 = ap (λ (b : Bool). cond (not b) (1 + index_among xs name) 0) e in
        new ∙ sym old
    by rest false e =
        let more_is : index_among (xs ++ more) name ≡ index_among xs name = rest (sym (ap (λ (b : Bool). b || among name xs) e) ∙ there) in
        let new : index_among ((x ∷ xs) ++ more) name ≡ 1 + index_among (xs ++ more) name = ap (λ (b : Bool). cond (not b) (1 + index_among (xs ++ more) name) 0) e in
        let old : index_among (x ∷ xs) name ≡ 1 + index_among xs name = ap (λ (b : Bool). cond (not b) (1 + index_among xs name) 0) e in
        new ∙ ap (λ (n : ℕ). 1 + n) more_is ∙ sym old

-- at its place stands the name
pub name_at_index : (names : List (List ℕ)) (name : List ℕ) → among name names ≡ true → slice_get names (index_among names name) ≡ Some name
name_at_index [] name there = absurd (true≢false (sym there))
name_at_index (x ∷ xs) name there = by (name_at_index xs name) (bytes_eq name x) refl
  where
    by : (among name xs ≡ true → slice_get xs (index_among xs name) ≡ Some name) → (b : Bool) → bytes_eq name x ≡ b → slice_get (x ∷ xs) (index_among (x ∷ xs) name) ≡ Some name
    by rest true e =
        let here : index_among (x ∷ xs) name ≡ 0 = ap (λ (b : Bool). cond (not b) (1 + index_among xs name) 0) e in
        ap (slice_get (x ∷ xs)) here ∙ ap Some (sym (one_name name x e))
    by rest false e =
        let here : index_among (x ∷ xs) name ≡ 1 + index_among xs name = ap (λ (b : Bool). cond (not b) (1 + index_among xs name) 0) e in
        let next : index_among (x ∷ xs) name ≡ suc (index_among xs name) = omega (arith, here) in
        ap (slice_get (x ∷ xs)) next ∙ rest (sym (ap (λ (b : Bool). b || among name xs) e) ∙ there)

-- and at the next place the one that is new
pub name_at_end : (names : List (List ℕ)) (name : List ℕ) → slice_get (names ++ name ∷ []) (length names) ≡ Some name
name_at_end names name = slice_get-get_or (names ++ name ∷ []) (length names) [] (omega (arith, length_push names name)) ∙ ap Some (get_or_push names name [] (length names) refl)

-- other names are taken out, and this one stays or not as before
pub among_others : (x name : List ℕ) (names : List (List ℕ)) → among name (filter (λ other. not (bytes_eq other x)) names) ≡ (not (bytes_eq name x) && among name names)
among_others x name names = any-filter_same (bytes_eq name) (λ other. not (bytes_eq other x)) (not (bytes_eq name x)) (λ k same. ap (λ (n : List ℕ). not (bytes_eq n x)) (sym (one_name name k same))) names

-- a name is among the first ones where it is among all
pub among_firsts : (name : List ℕ) (names : List (List ℕ)) → among name (firsts names) ≡ among name names
among_firsts name [] = refl
among_firsts name (x ∷ xs) = by (among_firsts name xs) (bytes_eq name x) refl
  where
    by : among name (firsts xs) ≡ among name xs → (b : Bool) → bytes_eq name x ≡ b → among name (firsts (x ∷ xs)) ≡ among name (x ∷ xs)
    by rest true e = ap (λ (b : Bool). b || among name (filter (λ other. not (bytes_eq other x)) (firsts xs))) e ∙ sym (ap (λ (b : Bool). b || among name xs) e)
    by rest false e =
        let same : among name (filter (λ other. not (bytes_eq other x)) (firsts xs)) ≡ among name xs = among_others x name (firsts xs) ∙ ap (λ (b : Bool). not b && among name (firsts xs)) e ∙ rest in
        ap (λ (b : Bool). bytes_eq name x || b) same

-- one name more
pub firsts_push : (names : List (List ℕ)) (name : List ℕ) → firsts (names ++ name ∷ []) ≡ with_name (firsts names) name
firsts_push [] name = refl
firsts_push (x ∷ xs) name = ap (λ (l : List (List ℕ)). x ∷ filter (λ other. not (bytes_eq other x)) l) (firsts_push xs name) ∙ by (bytes_eq name x) (among name (firsts xs)) refl refl
  where
    added : (b : Bool) → among name (firsts xs) ≡ b → x ∷ filter (λ other. not (bytes_eq other x)) (with_name (firsts xs) name) ≡ x ∷ filter (λ other. not (bytes_eq other x)) (if b then firsts xs else firsts xs ++ name ∷ [])
    added b f = ap (λ (b : Bool). x ∷ filter (λ other. not (bytes_eq other x)) (if b then firsts xs else firsts xs ++ name ∷ [])) f

    kept : (b : Bool) → among name (firsts (x ∷ xs)) ≡ b → (if b then firsts (x ∷ xs) else firsts (x ∷ xs) ++ name ∷ []) ≡ with_name (firsts (x ∷ xs)) name
    kept b f = sym (ap (λ (b : Bool). if b then firsts (x ∷ xs) else firsts (x ∷ xs) ++ name ∷ []) f)

    pushed : filter (λ other. not (bytes_eq other x)) (firsts xs ++ name ∷ []) ≡ filter (λ other. not (bytes_eq other x)) (firsts xs) ++ cond (not (bytes_eq name x)) (name ∷ []) []
    pushed = filter-append (λ other. not (bytes_eq other x)) (firsts xs) (name ∷ [])

    test : among name (firsts (x ∷ xs)) ≡ (bytes_eq name x || (not (bytes_eq name x) && among name (firsts xs)))
    test = ap (λ (b : Bool). bytes_eq name x || b) (among_others x name (firsts xs))

    front : (b : Bool) → bytes_eq name x ≡ b → (d : Bool) → among name (firsts xs) ≡ d → among name (firsts (x ∷ xs)) ≡ (b || (not b && d))
    front b e d f = test ∙ ap (λ (c : Bool). bytes_eq name x || (not c && among name (firsts xs))) e ∙ ap (λ (c : Bool). c || (not b && among name (firsts xs))) e ∙ ap (λ (c : Bool). b || (not b && c)) f

    tail : (b : Bool) → bytes_eq name x ≡ b → filter (λ other. not (bytes_eq other x)) (firsts xs ++ name ∷ []) ≡ filter (λ other. not (bytes_eq other x)) (firsts xs) ++ cond (not b) (name ∷ []) []
    tail b e = pushed ∙ ap (λ (c : Bool). filter (λ other. not (bytes_eq other x)) (firsts xs) ++ cond (not c) (name ∷ []) []) e

    by : (b d : Bool) → bytes_eq name x ≡ b → among name (firsts xs) ≡ d → x ∷ filter (λ other. not (bytes_eq other x)) (with_name (firsts xs) name) ≡ with_name (firsts (x ∷ xs)) name
    by true true e f = added true f ∙ kept true (front true e true f)
    by false true e f = added true f ∙ kept true (front false e true f)
    by true false e f = added false f ∙ ap (λ (l : List (List ℕ)). x ∷ l) (tail true e ∙ append-nil (filter (λ other. not (bytes_eq other x)) (firsts xs))) ∙ kept true (front true e false f)
    by false false e f = added false f ∙ ap (λ (l : List (List ℕ)). x ∷ l) (tail false e) ∙ kept false (front false e false f)

-- a place that was found is the name's
pub name_found : (names : List (List ℕ)) (name : List ℕ) (i : ℕ) → position (bytes_eq name) names ≡ Some i → slice_get names i ≡ Some name
name_found names name i at =
    let there = position-Some (bytes_eq name) names i [] at in
    slice_get-get_or names i [] there.0 ∙ ap Some (sym (one_name name (get_or names i []) there.1))

-- a name is among them where something is found under it
pub is_found : (es : List (List ℕ × List ℕ)) (name : List ℕ) → among name (keys_of es) ≡ is_some (lookup (bytes_eq name) es)
is_found [] name = refl
is_found (e ∷ es) name = by (is_found es name) (bytes_eq name e.0)
  where
    by : among name (keys_of es) ≡ is_some (lookup (bytes_eq name) es) → (b : Bool) → (b || among name (keys_of es)) ≡ is_some (cond b (Some e.1) (lookup (bytes_eq name) es))
    by rest true = refl
    by rest false = rest

-- a name that isn't there is put behind the others
pub entry_new : (es : List (List ℕ × List ℕ)) (name own : List ℕ) → among name (keys_of es) ≡ false → insert_entry bytes_eq es name own ≡ es ++ (name, own) ∷ []
entry_new [] name own new = refl
entry_new (e ∷ es) name own new = by (entry_new es name own) (bytes_eq name e.0) refl
  where
    by : (among name (keys_of es) ≡ false → insert_entry bytes_eq es name own ≡ es ++ (name, own) ∷ []) → (b : Bool) → bytes_eq name e.0 ≡ b → insert_entry bytes_eq (e ∷ es) name own ≡ (e ∷ es) ++ (name, own) ∷ []
    by rest true same = absurd (true≢false (sym (ap (λ (b : Bool). b || among name (keys_of es)) same) ∙ new))
    by rest false same =
        ap (λ (b : Bool). if b then (e.0, own) ∷ es else e ∷ insert_entry bytes_eq es name own) same
        ∙ ap (λ (l : List (List ℕ × List ℕ)). e ∷ l) (rest (sym (ap (λ (b : Bool). b || among name (keys_of es)) same) ∙ new))

-- two facts of what was answered make a third
pub both_ok : {T E : Type 0} (r : Result T E) (P Q R : T → Type 0) → ((x : T) → P x → Q x → R x) → IfOk r P → IfOk r Q → IfOk r R
both_ok (Ok x) P Q R make p q = make x p q
both_ok (Err e) P Q R make p q = tt
