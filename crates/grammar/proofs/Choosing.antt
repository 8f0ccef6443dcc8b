-- Where a form begins, by the class of the first token; and laws on what was read.
use Rattle.std.proofs.Common.{◌≡◌, ℕ, ◌-◌, ◌<◌, Bool, true, false, not, ◌&&◌, ◌||◌, List, [], ◌∷◌, ◌++◌, pos, refl, sym, ◌∙◌, ap, subst}
use Rattle.std.proofs.lemmas.Bool.{false≢true}
use Rattle.grammar.specs.declared.Class.{Class}
use Rattle.grammar.specs.declared.Class.TheVariants as c
use Rattle.grammar.specs.Classes.{for_all}
use Rattle.grammar.specs.Trees.{Token}
use Rattle.grammar.specs.Forms.{Kind, Worth, Form, Tok, Nest, is_nullable}
use Rattle.grammar.specs.Rules.{a}
use Rattle.grammar.specs.Derivations.{Derivation, tok, tokens, worth}
use Rattle.grammar.specs.Reading.{starts, heads_by, Outcome, read, failed, mapped, Reads, Exact}
use Rattle.grammar.proofs.Classes.{at_each, all_by, same_class}
use Rattle.grammar.proofs.Heads.{implied, apart_of}
use Rattle.grammar.proofs.Agreeing.{On, Off, Disjoint}
use Rattle.grammar.proofs.Opening.{at_tok}
use Rattle.grammar.proofs.Repeating.{exact_nest, exact_deep}

-- each class of the first set is in the second
abbrev pub Within : (Class → Bool) → (Class → Bool) → Type 0
Within p q = for_all (λ k. not (p k) || q k) ≡ true

self_or : (x : Bool) → (not x || x) ≡ true
self_or true = refl
self_or false = refl

pub within_self : (p : Class → Bool) → Within p p
within_self p = all_by (λ k. not (p k) || p k) (λ k. self_or (p k))

pub on_heads : {a : Kind} (f : Form a) (p : Class → Bool) (all : List Token) → Within p (starts f) → heads_by p all ≡ true → On f all
on_heads f p [] within is = false≢true is
on_heads f p (t ∷ ts) within is = implied _ _ (at_each (λ k. not (p k) || starts f k) within t.class) is

not_implied : (x y : Bool) → (not x || y) ≡ true → y ≡ false → x ≡ false
not_implied true y is so = absurd (false≢true (sym so ∙ is))
not_implied false y is so = refl

pub off_heads : {a : Kind} (f : Form a) (p : Class → Bool) (all : List Token) → Within (starts f) p → is_nullable f ≡ false → heads_by p all ≡ false → Off f all
off_heads f p [] within filled is = filled
off_heads f p (t ∷ ts) within filled is = (filled, not_implied _ _ (at_each (λ k. not (starts f k) || p k) within t.class) is)

pub off_other : {a : Kind} (f : Form a) (p : Class → Bool) (all : List Token) → Disjoint (starts f) p → is_nullable f ≡ false → heads_by p all ≡ true → Off f all
off_other f p [] apart filled is = absurd (false≢true is)
off_other f p (t ∷ ts) apart filled is = (filled, apart_of _ _ (at_each (λ k. not (starts f k && p k)) apart t.class) is)

-- a token of each class
pub any : (k : Class) → Derivation _ (a k)
any k = tok (record { at = 0; class = k; number = pos 0; name = [] }) (same_class k)

-- reading one token leaves the others
pub read_token : {p : Class → Bool} {n : ℕ} {all mid : List Token} {t : Token} → Reads n (Tok p) all t mid → (all ≡ t ∷ mid) × (p t.class ≡ true)
read_token {p = p} {all = all} {mid = mid} {t = t} one =
    at_tok (λ d. all ≡ tokens d ++ mid → worth d ≡ t → (all ≡ t ∷ mid) × (p t.class ≡ true))
    (λ u is split same. (split ∙ ap (λ (x : Token). x ∷ mid) same, subst (λ (x : Token). p x.class ≡ true) same is))
    one.way one.split one.gives

pub nest_read : {a : Kind} {p : Class → Bool} {f : Form a} {all mid : List Token} {t : Token} {n : ℕ} {o : Outcome (Worth a)} → 0 < n → Reads n (Tok p) all t mid → Exact (n - 1) f mid o → Exact n (Nest p f) all (mapped (λ w. (t, w)) o)
nest_read {a = b} {p = p} {f = f} {t = t} {n = n} {o = o} some one two =
    let here = read_token one in
    subst (λ (x : List Token). Exact n (Nest p f) x (mapped (λ w. (t, w)) o)) (sym here.0) (exact_nest t some here.1 two)

pub nest_deep : {a : Kind} {p : Class → Bool} {f : Form a} {all mid : List Token} {t : Token} {n : ℕ} → Derivation a f → n ≡ 0 → Reads n (Tok p) all t mid → Exact n (Nest p f) all (failed true all)
nest_deep {p = p} {f = f} {mid = mid} {t = t} {n = n} e none' one =
    let here = read_token one in
    subst (λ (x : List Token). Exact n (Nest p f) x (failed true x)) (sym here.0) (exact_deep t mid e none' here.1)
