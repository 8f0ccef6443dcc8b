-- What stays over calls for some outputs.
use Rattle.std.proofs.Common.{◌≡◌, ◌≢◌, ◌<◌, ◌≤◌, ◌+◌, ℕ, Bool, true, false, true≢false, ◌||◌, List, [], ◌∷◌, ◌++◌, length, map, All, refl, sym, ◌∙◌, ap, subst, arith, length-append}
use Rattle.std.specs.Prelude.{bytes_eq}
use Rattle.std.proofs.lemmas.List.{map-append}
use Rattle.std.proofs.lemmas.List.Elements.{All-weaker, All-push}
use Rattle.std.proofs.lemmas.List.Folds.{list_any-append}
use Rattle.std.proofs.lemmas.Slice.Eq.{bytes_eq-Decides}
use Rattle.log_listing.specs.Firsts.{is_among}
use Rattle.lp_outside.specs.declared.stage.Mark.{Mark}
use Rattle.text_output.specs.Output.{StageKind, Spares}
use Rattle.row_output.specs.Files.{Opened, SparesBut}
use Rattle.row_output.specs.FileTexts.{KeepsStage}

-- a name that is among some differs from one that isn't
pub off_names : (names : List (List ℕ)) (name other : List ℕ) → is_among names name ≡ true → is_among names other ≡ false → other ≢ name
off_names names name other there off = λ same. true≢false (sym there ∙ (ap (is_among names) (sym same) ∙ off))

or_left : (a b : Bool) → (a || b) ≡ false → a ≡ false
or_left true b e = e
or_left false b e = refl

pub off_front : (names more : List (List ℕ)) (name : List ℕ) → is_among (names ++ more) name ≡ false → is_among names name ≡ false
off_front names more name off = or_left (is_among names name) (is_among more name) (sym (list_any-append (bytes_eq name) names more) ∙ off)

-- the names of outputs
abbrev pub called : List Opened → List (List ℕ)
called opened = map (λ (o : Opened). o.name) opened

off_opened : (opened more : List Opened) (name : List ℕ) → is_among (called (opened ++ more)) name ≡ false → is_among (called opened) name ≡ false
off_opened opened more name off = off_front (called opened) (called more) name (sym (ap (λ (l : List (List ℕ)). is_among l name) (map-append (λ (o : Opened). o.name) opened more)) ∙ off)

-- what ends where the text of an output begins stays
abbrev pub Front : {S : Type 0} → StageKind S → ℕ → S → S → Opened → Type 0
Front kind count before now o = (kind.state before).tells → (output : ℕ) (base : ℕ) (mark : Mark) (text : List ℕ) → count ≤ output → base + mark.length ≤ o.base
    → (kind.state before).is_text output o.name base mark text → (kind.state now).is_text output o.name base mark text

-- a call that asks changes nothing
pub spares_kept : {S : Type 0} (kind : StageKind S) (opened : List Opened) (start a b : S) → ((kind.state start).tells → (kind.state a).tells) → SparesBut kind opened start a → KeepsStage kind a b → SparesBut kind opened start b
spares_kept kind opened start a b still s keeps = record {
  others = λ tells output name base mark text high off is. (keeps.texts (still tells)).all output name base mark text (s.others tells output name base mark text high off is);
  fronts = All-weaker (Front kind (length opened) start a) (Front kind (length opened) start b) (λ o front tells output base mark text high low is. (keeps.texts (still tells)).all output o.name base mark text (front tells output base mark text high low is)) opened s.fronts;
  lengths = λ tells name bytes off.
      let first = s.lengths tells name bytes off in
      let second = keeps.lengths (still tells) name bytes in
      (λ is. second.0 (first.0 is), λ is. first.1 (second.1 is));
  ended = λ name base mark off is. keeps.ended name base mark (s.ended name base mark off is);
}

-- one more output may have bytes
pub spares_more : {S : Type 0} (kind : StageKind S) (opened : List Opened) (new : Opened) (start a : S) → is_among (called opened) new.name ≡ false → SparesBut kind opened start a → SparesBut kind (opened ++ new ∷ []) start a
spares_more kind opened new start a fresh s =
    let long = length-append opened (new ∷ []) in
    record {
      others = λ tells output name base mark text high off is. s.others tells output name base mark text (omega (arith, long, high)) (off_opened opened (new ∷ []) name off) is;
      fronts = All-push (Front kind (length (opened ++ new ∷ [])) start a) opened new
          (All-weaker (Front kind (length opened) start a) (Front kind (length (opened ++ new ∷ [])) start a) (λ o front tells output base mark text high low is. front tells output base mark text (omega (arith, long, high)) low is) opened s.fronts)
          (λ tells output base mark text high low is. s.others tells output new.name base mark text (omega (arith, long, high)) fresh is);
      lengths = λ tells name bytes off. s.lengths tells name bytes (off_opened opened (new ∷ []) name off);
      ended = λ name base mark off is. s.ended name base mark (off_opened opened (new ∷ []) name off) is;
    }

-- calls for one of the outputs
pub spares_put : {S : Type 0} (kind : StageKind S) (opened : List Opened) (index : ℕ) (name : List ℕ) (place : ℕ) (start a b : S) → ((kind.state start).tells → (kind.state a).tells)
    → index < length opened → is_among (called opened) name ≡ true → All (λ (o : Opened). o.name ≡ name → o.base ≡ place) opened
    → SparesBut kind opened start a → Spares kind index name place a b → SparesBut kind opened start b
spares_put {S} kind opened index name place start a b still low there bases s calls = record {
  others = λ tells output other base mark text high off is.
      calls.others (still tells) output other base mark text (apart output high) (off_names (called opened) name other there off) (s.others tells output other base mark text high off is);
  fronts = both (Front kind (length opened) start a) (λ (o : Opened). o.name ≡ name → o.base ≡ place) (Front kind (length opened) start b) (λ o. on o) opened s.fronts bases;
  lengths = λ tells other bytes off.
      let first = s.lengths tells other bytes off in
      let second = calls.lengths (still tells) other bytes (off_names (called opened) name other there off) in
      (λ is. second.0 (first.0 is), λ is. first.1 (second.1 is));
  ended = λ other base mark off is. calls.ended other base mark (off_names (called opened) name other there off) (s.ended other base mark off is);
}
  where
    apart : (output : ℕ) → length opened ≤ output → output ≢ index
    apart output high same = omega (arith, low, high, same)

    both : (P Q R : Opened → Type 0) → ((o : Opened) → P o → Q o → R o) → (os : List Opened) → All P os → All Q os → All R os
    both P Q R make os p q = λ k d within. make _ (p k d within) (q k d within)

    same_front : (o : Opened) → o.name ≡ name → (o.name ≡ name → o.base ≡ place) → Front kind (length opened) start a o → Front kind (length opened) start b o
    same_front o same base front tells output from mark text high less is =
        calls.fronts (still tells) output o.name from mark text (let at = base same in omega (arith, at, less)) (front tells output from mark text high less is)

    other_front : (o : Opened) → o.name ≢ name → Front kind (length opened) start a o → Front kind (length opened) start b o
    other_front o other front tells output from mark text high less is =
        calls.others (still tells) output o.name from mark text (apart output high) other (front tells output from mark text high less is)

    decide : (o : Opened) → Front kind (length opened) start a o → (o.name ≡ name → o.base ≡ place) → (d : Bool) → bytes_eq o.name name ≡ d → Front kind (length opened) start b o
    decide o front base true e = same_front o ((bytes_eq-Decides o.name name).0 e) base front
    decide o front base false e = other_front o (λ same. true≢false (sym ((bytes_eq-Decides o.name name).1 same) ∙ e)) front

    on : (o : Opened) → Front kind (length opened) start a o → (o.name ≡ name → o.base ≡ place) → Front kind (length opened) start b o
    on o front base = decide o front base (bytes_eq o.name name) refl
