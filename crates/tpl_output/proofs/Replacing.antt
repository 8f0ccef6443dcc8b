-- A section filled from one place to the next, and what a buffer holds where a text stopped short.
use Rattle.std.proofs.Common.{◌≡◌, ℕ, ℤ, zero, suc, ◌+◌, ◌-◌, ◌<◌, ◌≤◌, Bool, true, false, List, [], ◌∷◌, ◌++◌, length, drop, get_or, ap, sym, ◌∙◌, refl, append_assoc, arith}
use Rattle.std.proofs.lemmas.List.{drop_more, drop_all}
use Rattle.std.proofs.Common.{length-drop}
use Rattle.lp_model.specs.Outside.{Begins, GrowsIn}
use Rattle.lp_model.proofs.Buffers.{grows_along}
use Rattle.lp_values.specs.declared.value.Value.{Value}
use Rattle.text_formats.proofs.Stopping.{stopped_in_head, stopped_in_row}
use Rattle.tpl_output.specs.declared.filling.Filling.{Filling}
use Rattle.tpl_output.specs.Marks.{filled, filled_from, mark_at, shown, size_of}
use Rattle.tpl_output.specs.Tpl.{TplState, IsTplText, rendered, tpl_of}

skipped : (names : List (List ℕ)) (moment : ℤ) (body : Bool) (values : List Value) (skip : ℕ) (cs : List ℕ) → filled_from names moment body values skip cs ≡ filled_from names moment body values 0 (drop skip cs)
unfolding filled_from
skipped names moment body values zero cs = refl
skipped names moment body values (suc skip) [] = refl
skipped names moment body values (suc skip) (c ∷ cs) = skipped names moment body values skip cs

drop_twice : {X : Type 0} (n m : ℕ) (xs : List X) → drop m (drop n xs) ≡ drop (n + m) xs
drop_twice {X} zero m xs = ap (λ k. drop k xs) (let e : m ≡ 0 + m = omega arith in e)
drop_twice {X} (suc n) m [] = drop_all {X = X} m [] (omega arith) ∙ sym (drop_all {X = X} (suc n + m) [] (omega arith))
drop_twice {X} (suc n) m (x ∷ xs) = drop_twice n m xs ∙ ap (λ k. drop k (x ∷ xs)) (let e : suc (n + m) ≡ suc n + m = omega arith in e)

filled_here : (names : List (List ℕ)) (moment : ℤ) (body : Bool) (values : List Value) (text behind : List ℕ) (at size : ℕ) → at < length text → behind ≡ drop (at + 1) text → size ≡ size_of (mark_at names body (get_or text at 0) behind)
    → filled_from names moment body values 0 (drop at text) ≡ shown names moment values (get_or text at 0) (mark_at names body (get_or text at 0) behind) ++ filled_from names moment body values 0 (drop (at + (1 + size)) text)
unfolding filled_from
filled_here names moment body values text behind at size lt is sized =
    let c = get_or text at 0 in
    let first = shown names moment values c (mark_at names body c behind) in
    let places : (at + 1) + size ≡ at + (1 + size) = omega arith in
    ap (filled_from names moment body values 0) (drop_more text at 0 lt ∙ ap (λ r. c ∷ r) (sym is))
    ∙ ap (λ r. first ++ r)
    (ap (λ k. filled_from names moment body values k behind) (sym sized)
    ∙ (skipped names moment body values size behind
    ∙ ap (filled_from names moment body values 0) (ap (drop size) is ∙ (drop_twice (at + 1) size text ∙ ap (λ k. drop k text) places))))

-- a byte, and the mark that it begins
pub filled_next : (names : List (List ℕ)) (moment : ℤ) (body : Bool) (text behind : List ℕ) (at size : ℕ) (before after : Filling) → at < length text → behind ≡ drop (at + 1) text → size ≡ size_of (mark_at names body (get_or text at 0) behind)
    → ((values : List Value) → rendered after values ≡ rendered before values ++ shown names moment values (get_or text at 0) (mark_at names body (get_or text at 0) behind))
    → ((values : List Value) → filled names moment body values text ≡ rendered before values ++ filled_from names moment body values 0 (drop at text))
    → (values : List Value) → filled names moment body values text ≡ rendered after values ++ filled_from names moment body values 0 (drop (at + (1 + size)) text)
filled_next names moment body text behind at size before after lt is sized one so_far values =
    let first = shown names moment values (get_or text at 0) (mark_at names body (get_or text at 0) behind) in
    let rest = filled_from names moment body values 0 (drop (at + (1 + size)) text) in
    so_far values
    ∙ (ap (λ t. rendered before values ++ t) (filled_here names moment body values text behind at size lt is sized)
    ∙ (sym (append_assoc (rendered before values) first rest) ∙ ap (λ t. t ++ rest) (sym (one values))))

pub place_within : (text behind : List ℕ) (at size : ℕ) → at < length text → behind ≡ drop (at + 1) text → size ≤ length behind → at + (1 + size) ≤ length text
place_within text behind at size lt is fits =
    let n : length behind ≡ length text - (at + 1) = ap length is ∙ length-drop (at + 1) text in
    omega arith

pub filled_all : (names : List (List ℕ)) (moment : ℤ) (body : Bool) (text : List ℕ) (at : ℕ) (filling : Filling) → length text ≤ at
    → ((values : List Value) → filled names moment body values text ≡ rendered filling values ++ filled_from names moment body values 0 (drop at text))
    → (values : List Value) → rendered filling values ≡ filled names moment body values text
unfolding filled_from
filled_all names moment body text at filling past so_far values =
    sym (so_far values ∙ (ap (λ r. rendered filling values ++ filled_from names moment body values 0 r) (drop_all at text past) ∙ nothing (rendered filling values))) where
      nothing : (xs : List ℕ) → xs ++ [] ≡ xs
      nothing [] = refl
      nothing (x ∷ xs) = ap (λ t. x ∷ t) (nothing xs)

-- what begins the rows begins the whole
before_footer : (part whole foot : List ℕ) → Begins part whole → Begins part (whole ++ foot)
before_footer part whole foot (rest, is) = (rest ++ foot, ap (λ t. t ++ foot) is ∙ append_assoc part rest foot)

-- within the header
pub tpl_in_header : (state : TplState) (fresh : Bool) (names : List (List ℕ)) (old new header : List ℕ) → header ≡ filled names state.moment false [] state.sections.header → GrowsIn old new header
    → (part : List ℕ) × (new ≡ old ++ part) × ((rows : List (List Value)) → Begins part (tpl_of state.sections state.moment fresh names rows))
tpl_in_header state fresh names old new header is grows =
    let body : List Value → List ℕ = λ values. filled names state.moment true values state.sections.body in
    let stopped = stopped_in_head (filled names state.moment false [] state.sections.header) body old new (grows_along old new _ _ is grows) in
    (stopped.0, stopped.1, λ rows. before_footer stopped.0 _ (filled names state.moment false [] state.sections.footer) (stopped.2 rows))

-- within a row
pub tpl_in_row : (state : TplState) (values : List Value) (old new : List ℕ) → GrowsIn old new (rendered state.body values)
    → (part : List ℕ) × (new ≡ old ++ part) × ((fresh : Bool) (names : List (List ℕ)) (rows more : List (List Value)) (so_far : List ℕ) → IsTplText state names rows so_far
    → Begins (so_far ++ part) (tpl_of state.sections state.moment fresh names (rows ++ (values ∷ more))))
tpl_in_row state values old new (part, added, (rest, whole)) = (
  part,
  added,
  λ fresh names rows more so_far is.
      let body : List Value → List ℕ = λ row. filled names state.moment true row state.sections.body in
      before_footer (so_far ++ part) _ (filled names state.moment false [] state.sections.footer)
      (stopped_in_row (filled names state.moment false [] state.sections.header) body values rows more part rest so_far (sym (is.body values) ∙ whole) is.out),
)
