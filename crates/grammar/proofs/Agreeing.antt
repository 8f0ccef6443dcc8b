-- Texts that agree with a front and the token behind it.
use Rattle.std.proofs.Common.{◌≡◌, ◌≢◌, ◌+◌, Bool, true, false, not, ◌&&◌, ◌||◌, List, [], ◌∷◌, ◌++◌, sym, ◌∙◌, ap, append_assoc, append-nil}
use Rattle.std.proofs.lemmas.Bool.{false≢true}
use Rattle.std.proofs.lemmas.List.{append_cancel_left}
use Rattle.grammar.specs.Classes.{Class, for_all}
use Rattle.grammar.specs.Trees.{Token}
use Rattle.grammar.specs.Forms.{Kind, Form, Seq, is_nullable, Many}
use Rattle.grammar.specs.Reading.{starts, continues, Apart, Agrees}
use Rattle.grammar.proofs.Classes.{at_each}
use Rattle.grammar.proofs.Heads.{Heads, apart_of, or_not_first, or_not_second}

pub agrees_shorter : (text a b rest : List Token) → Agrees text (a ++ b) rest → Agrees text a (b ++ rest)
agrees_shorter text a [] [] is = is ∙ append-nil a
agrees_shorter text a [] (t ∷ rest) is = (is.0, is.1 ∙ ap (λ (x : List Token). x ++ t ∷ is.0) (append-nil a))
agrees_shorter text a (b ∷ bs) [] is = (bs, is)
agrees_shorter text a (b ∷ bs) (t ∷ rest) is = (bs ++ t ∷ is.0, is.1 ∙ append_assoc a (b ∷ bs) (t ∷ is.0))

pub agrees_cancel : (a y b rest : List Token) → Agrees (a ++ y) (a ++ b) rest → Agrees y b rest
agrees_cancel a y b [] is = append_cancel_left a y b is
agrees_cancel a y b (t ∷ rest) is = (is.0, append_cancel_left a y (b ++ t ∷ is.0) (is.1 ∙ append_assoc a b (t ∷ is.0)))

pub same_first : {A : Type 0} (x y : A) (xs ys : List A) → x ∷ xs ≡ y ∷ ys → x ≡ y
same_first x y xs ys is = cc

pub no_empty : {A : Type 0} (x : A) (xs : List A) → x ∷ xs ≡ [] → ⊥
no_empty x xs is = cc

-- a text that agrees with tokens begins with their first
pub agrees_first : (t x : Token) (ts front rest all : List Token) → x ∷ all ≡ front ++ rest → Agrees (t ∷ ts) front rest → t ≡ x
agrees_first t x ts [] [] all split is = absurd (no_empty x all split)
agrees_first t x ts [] (r ∷ rest) all split is = same_first t r ts is.0 is.1 ∙ sym (same_first x r all rest split)
agrees_first t x ts (f ∷ front) [] all split is = same_first t f ts front is ∙ sym (same_first x f all _ split)
agrees_first t x ts (f ∷ front) (r ∷ rest) all split is = same_first t f ts _ is.1 ∙ sym (same_first x f all _ split)

pub agrees_none : (t : Token) (ts front rest : List Token) → [] ≡ front ++ rest → Agrees (t ∷ ts) front rest → ⊥
agrees_none t ts [] [] split is = no_empty t ts is
agrees_none t ts [] (r ∷ rest) split is = no_empty r rest (sym split)
agrees_none t ts (f ∷ front) rest split is = no_empty f (front ++ rest) (sym split)

-- the tokens don't begin with the form
abbrev pub Off : {a : Kind} → Form a → List Token → Type 0
Off f [] = is_nullable f ≡ false
Off f (t ∷ ts) = (is_nullable f ≡ false) × (starts f t.class ≡ false)

-- they do
abbrev pub On : {a : Kind} → Form a → List Token → Type 0
On f [] = ⊥
On f (t ∷ ts) = starts f t.class ≡ true

pub off_by : {a : Kind} (f : Form a) (ts z front rest all : List Token) → Off f all → Heads f ts → all ≡ front ++ rest → Agrees (ts ++ z) front rest → ⊥
off_by f [] z front rest [] off h split is = false≢true (sym off ∙ h)
off_by f [] z front rest (x ∷ all) off h split is = false≢true (sym off.0 ∙ h)
off_by f (t ∷ ts) z front rest [] off h split is = agrees_none t (ts ++ z) front rest split is
off_by f (t ∷ ts) z front rest (x ∷ all) off h split is =
    let same : t ≡ x = agrees_first t x (ts ++ z) front rest all split is in
    false≢true (sym off.1 ∙ ap (λ (u : Token). starts f u.class) (sym same) ∙ h)

pub on_by : {a : Kind} (f : Form a) (z front rest all : List Token) → On f all → all ≡ front ++ rest → Apart (Many f) z → Agrees z front rest → ⊥
on_by f [] [] [] (x ∷ all) on split apart is = no_empty x all split
on_by f [] [] (r ∷ rest) (x ∷ all) on split apart is = no_empty r is.0 (sym is.1)
on_by f [] (y ∷ front) [] (x ∷ all) on split apart is = no_empty y front (sym is)
on_by f [] (y ∷ front) (r ∷ rest) (x ∷ all) on split apart is = no_empty y _ (sym is.1)
on_by f (t ∷ ts) front rest (x ∷ all) on split apart is =
    let same : t ≡ x = agrees_first t x ts front rest all split is in
    false≢true (sym (or_not_first _ _ apart) ∙ ap (λ (u : Token). starts f u.class) same ∙ on)
on_by f z front rest [] on split apart is = absurd on

-- two sets of classes with nothing in common
abbrev pub Disjoint : (Class → Bool) → (Class → Bool) → Type 0
Disjoint p q = for_all (λ k. not (p k && q k)) ≡ true

nullable_apart : (x n y : Bool) → (x || (n && y)) ≡ false → n ≡ true → y ≡ false
nullable_apart true n y is null = absurd (false≢true (sym is))
nullable_apart false true y is null = is
nullable_apart false false y is null = absurd (false≢true null)

pub apart_by : {a b : Kind} (f : Form a) (g : Form b) (ys z : List Token) → Disjoint (continues f) (starts g) → Heads g ys → Apart (Seq f g) z → Apart f (ys ++ z)
apart_by f g [] [] disjoint h apart = tt
apart_by f g [] (t ∷ z) disjoint h apart = nullable_apart _ (is_nullable g) _ apart h
apart_by f g (y ∷ ys) z disjoint h apart = apart_of _ _ (at_each (λ k. not (continues f k && starts g k)) disjoint y.class) h

pub apart_second : {a b : Kind} (f : Form a) (g : Form b) (z : List Token) → Apart (Seq f g) z → Apart g z
apart_second f g [] apart = tt
apart_second f g (t ∷ z) apart = or_not_first _ _ apart

pub apart_again : {a : Kind} (f : Form a) (ys z : List Token) → Disjoint (continues f) (starts f) → Heads (Many f) ys → Apart (Many f) z → Apart f (ys ++ z)
apart_again f [] [] disjoint h apart = tt
apart_again f [] (t ∷ z) disjoint h apart = or_not_second (starts f t.class) _ apart
apart_again f (y ∷ ys) z disjoint h apart = apart_of _ _ (at_each (λ k. not (continues f k && starts f k)) disjoint y.class) h
