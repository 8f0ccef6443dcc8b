-- The names of columns, one after the other.
use Rattle.std.proofs.Common.{◌≡◌, ℕ, suc, zero, true, false, inl, inr, not, nat_eq, if◌then◌else◌, ◌+◌, ◌<◌, ◌≤◌, Bool, ◌||◌, List, [], ◌∷◌, ◌++◌, length, map, take, get_or, refl, sym, ap, ◌∙◌, arith}
use Rattle.std.specs.List.{enumerate_from, list_any}
use Rattle.std.proofs.lemmas.List.{map-append, take_more, take_all, take-map}
use Rattle.std.proofs.lemmas.List.FromFn.{length-enumerate_from, get_or-enumerate_from}
use Rattle.std.specs.Str.Lossy.{utf8_lossy}
use Rattle.lp_model.specs.Reading.{Columns}
use Rattle.std.proofs.lemmas.Bool.{cases_Bool}
use Rattle.std.proofs.Math.Bool.{or-false, or-true, or_assoc, not-not}
use Rattle.std.specs.Char.{to_ascii_lowercase}
use Rattle.std.specs.Cmp.Lexicographic.{pointwise}
use Rattle.indexmap.specs.IndexSet.{insert_key}
use Rattle.line_input.specs.declared.slot.Slot.{Slot}
use Rattle.slot_reading.specs.Names.{is_same_name}
use Rattle.slot_reading.proofs.NameLemmas.{same_spelling}
use Rattle.delimited_input.specs.Noted.{AreNoted}
use Rattle.delimited_input.specs.Names.{made_name, header_name, header_names, is_made}
use Rattle.delimited_input.specs.Kept.{text_of, texts_of}

-- the name at a place of a header
abbrev name_at : List (List ℕ) → ℕ × List ℕ → List ℕ
name_at fields field = header_name (take field.0 fields) (field.0 + 1) field.1

-- the names of the first fields of a header
abbrev pub names_up_to : List (List ℕ) → ℕ → Columns
names_up_to fields place = map (name_at fields) (take place (enumerate_from 0 fields))

-- one name more
pub names_more : (fields : List (List ℕ)) (place : ℕ) → place < length fields
    → names_up_to fields (place + 1) ≡ names_up_to fields place ++ header_name (take place fields) (place + 1) (get_or fields place []) ∷ []
names_more fields place more =
    let within : place < length (enumerate_from 0 fields) = omega (arith, length-enumerate_from 0 fields) in
    let zero_sum : 0 + place ≡ place = omega arith in
    ap (map (name_at fields)) (take_more (enumerate_from 0 fields) place (0, []) within)
    ∙ (map-append (name_at fields) (take place (enumerate_from 0 fields)) (get_or (enumerate_from 0 fields) place (0, []) ∷ [])
    ∙ ap (λ (field : ℕ × List ℕ). names_up_to fields place ++ name_at fields field ∷ []) (get_or-enumerate_from 0 fields place (0, []) more ∙ ap (λ (n : ℕ). (n, get_or fields place [])) zero_sum))

pub names_all : (fields : List (List ℕ)) (place : ℕ) → length fields ≤ place → names_up_to fields place ≡ header_names fields
unfolding header_names
names_all fields place all = ap (map (name_at fields)) (take_all place (enumerate_from 0 fields) (omega (arith, length-enumerate_from 0 fields)))

-- the field at a place
text_there : (line : List ℕ) (slots : List Slot) (place : ℕ) (d : Slot) → place < length slots → text_of line (get_or slots place d) ≡ get_or (texts_of line slots) place []
text_there line [] place d within = absurd (omega arith)
text_there line (slot ∷ slots) zero d within = refl
text_there line (slot ∷ slots) (suc place) d within = text_there line slots place d (omega arith)

pub name_there : (line : List ℕ) (slots : List Slot) (place : ℕ) (slot : Slot) (name : List ℕ) → place < length slots → slot ≡ get_or slots place slot → name ≡ text_of line slot → name ≡ get_or (texts_of line slots) place []
name_there line slots place slot name within is e = e ∙ (ap (text_of line) is ∙ text_there line slots place slot within)

-- names that were noted
pub noted_none : AreNoted [] []
unfolding AreNoted
noted_none = λ name. refl

any_last : {X : Type 0} (p : X → Bool) (xs : List X) (x : X) → list_any p (xs ++ x ∷ []) ≡ (list_any p xs || p x)
any_last p [] x = or-false (p x)
any_last p (y ∷ ys) x = ap (λ b. p y || b) (any_last p ys x) ∙ sym (or_assoc (p y) (list_any p ys) (p x))

same_folded : (a b : List ℕ) → is_same_name a b ≡ pointwise nat_eq (map to_ascii_lowercase a) (map to_ascii_lowercase b)
unfolding is_same_name
same_folded a b = refl

more_noted : (noted names : List (List ℕ)) (name other : List ℕ) (there : Bool) → list_any (pointwise nat_eq (map to_ascii_lowercase name)) noted ≡ there
    → list_any (pointwise nat_eq (map to_ascii_lowercase other)) noted ≡ list_any (is_same_name other) names
    → list_any (pointwise nat_eq (map to_ascii_lowercase other)) (if there then noted else noted ++ map to_ascii_lowercase name ∷ []) ≡ list_any (is_same_name other) (names ++ name ∷ [])
more_noted noted names name other false found known =
    any_last (pointwise nat_eq (map to_ascii_lowercase other)) noted (map to_ascii_lowercase name)
    ∙ ((λ i. known i || sym (same_folded other name) i) ∙ sym (any_last (is_same_name other) names name))
more_noted noted names name other true found known = elim (cases_Bool (is_same_name other name)) [
  | inl e ↦
      let all : list_any (is_same_name other) names ≡ true = sym known ∙ (ap (λ (spelled : List ℕ). list_any (pointwise nat_eq spelled) noted) (same_spelling other name e) ∙ found) in
      known ∙ (all ∙ (sym (or-true (list_any (is_same_name other) names)) ∙ (ap (λ b. list_any (is_same_name other) names || b) (sym e) ∙ sym (any_last (is_same_name other) names name))))
  | inr e ↦
      known ∙ (sym (or-false (list_any (is_same_name other) names)) ∙ (ap (λ b. list_any (is_same_name other) names || b) (sym e) ∙ sym (any_last (is_same_name other) names name)))
]

pub noted_more : (noted names after : List (List ℕ)) (name : List ℕ) → after ≡ insert_key (pointwise nat_eq) noted (map to_ascii_lowercase name) → AreNoted noted names → AreNoted after (names ++ name ∷ [])
unfolding AreNoted
noted_more noted names after name is are = λ other.
    ap (list_any (pointwise nat_eq (map to_ascii_lowercase other))) is ∙ more_noted noted names name other (list_any (pointwise nat_eq (map to_ascii_lowercase name)) noted) refl (are other)

-- whether a name is one of those that were noted
pub noted_told : (noted names : List (List ℕ)) (name : List ℕ) (is_new : Bool) → is_new ≡ not (list_any (pointwise nat_eq (map to_ascii_lowercase name)) noted) → AreNoted noted names → not is_new ≡ list_any (is_same_name name) names
unfolding AreNoted
noted_told noted names name is_new told are = ap not told ∙ (not-not (list_any (pointwise nat_eq (map to_ascii_lowercase name)) noted) ∙ are name)
