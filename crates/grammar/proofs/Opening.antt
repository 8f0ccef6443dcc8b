-- What a derivation of each form is made of.
use Rattle.std.proofs.Common.{◌≡◌, Bool, true, refl, sym, subst, ◌⊎◌, inl, inr}
use Rattle.grammar.specs.Classes.{Class}
use Rattle.grammar.specs.Trees.{Token}
use Rattle.grammar.specs.Forms.{Kind, Worth, Rule, kind, Form, Tok, Seq, Alt, Many, Opt, Map, Nest, Ref}
use Rattle.grammar.specs.Forms.{Kind as k}
use Rattle.grammar.specs.Rules.{rule}
use Rattle.grammar.specs.Derivations.{Derivation, tok, seq, left, right, none, more, absent, present, map, nest, ref}

abbrev Inside : {a : Kind} (f : Form a) → Derivation a f → Type 0
Inside (Tok p) d = (t : Token) × (is : p t.class ≡ true) × (d ≡ tok t is)
Inside (Seq f g) d = (x : Derivation _ f) × (y : Derivation _ g) × (d ≡ seq x y)
Inside (Alt f g) d = ((x : Derivation _ f) × (d ≡ left x)) ⊎ ((y : Derivation _ g) × (d ≡ right y))
Inside (Many f) d = (d ≡ none) ⊎ ((x : Derivation _ f) × (y : Derivation _ (Many f)) × (d ≡ more x y))
Inside (Opt f) d = (d ≡ absent) ⊎ ((x : Derivation _ f) × (d ≡ present x))
Inside (Map h f) d = (x : Derivation _ f) × (d ≡ map x)
Inside (Nest p f) d = (t : Token) × (is : p t.class ≡ true) × (x : Derivation _ f) × (d ≡ nest t is x)
Inside (Ref n) d = (x : Derivation _ (rule n)) × (d ≡ ref x)

opened : {a : Kind} {f : Form a} (d : Derivation a f) → Inside f d
opened (tok t is) = (t, is, refl)
opened (seq d e) = (d, e, refl)
opened (left d) = inl (d, refl)
opened (right d) = inr (d, refl)
opened none = inl refl
opened (more d e) = inr (d, e, refl)
opened absent = inl refl
opened (present d) = inr (d, refl)
opened (map d) = (d, refl)
opened (nest t is d) = (t, is, d, refl)
opened (ref d) = (d, refl)

pub at_tok : {p : Class → Bool} (P : Derivation k.token (Tok p) → Type 0) → ((t : Token) (is : p t.class ≡ true) → P (tok t is)) → (d : Derivation k.token (Tok p)) → P d
at_tok P one d = let o = opened d in subst P (sym o.2) (one o.0 o.1)

pub at_seq : {a b : Kind} {f : Form a} {g : Form b} (P : Derivation (k.pair a b) (Seq f g) → Type 0) → ((x : Derivation a f) (y : Derivation b g) → P (seq x y)) → (d : Derivation (k.pair a b) (Seq f g)) → P d
at_seq P one d = let o = opened d in subst P (sym o.2) (one o.0 o.1)

pub at_alt : {a : Kind} {f g : Form a} (P : Derivation a (Alt f g) → Type 0) → ((x : Derivation a f) → P (left x)) → ((y : Derivation a g) → P (right y)) → (d : Derivation a (Alt f g)) → P d
at_alt P one two d = elim (opened d) [ inl o ↦ subst P (sym o.1) (one o.0) | inr o ↦ subst P (sym o.1) (two o.0) ]

pub at_many : {a : Kind} {f : Form a} (P : Derivation (k.list a) (Many f) → Type 0) → P none → ((x : Derivation a f) (y : Derivation (k.list a) (Many f)) → P (more x y)) → (d : Derivation (k.list a) (Many f)) → P d
at_many P one two d = elim (opened d) [ inl o ↦ subst P (sym o) one | inr o ↦ subst P (sym o.2) (two o.0 o.1) ]

pub at_opt : {a : Kind} {f : Form a} (P : Derivation (k.maybe a) (Opt f) → Type 0) → P absent → ((x : Derivation a f) → P (present x)) → (d : Derivation (k.maybe a) (Opt f)) → P d
at_opt P one two d = elim (opened d) [ inl o ↦ subst P (sym o) one | inr o ↦ subst P (sym o.1) (two o.0) ]

pub at_map : {a b : Kind} {h : Worth a → Worth b} {f : Form a} (P : Derivation b (Map h f) → Type 0) → ((x : Derivation a f) → P (map x)) → (d : Derivation b (Map h f)) → P d
at_map P one d = let o = opened d in subst P (sym o.1) (one o.0)

pub at_nest : {a : Kind} {p : Class → Bool} {f : Form a} (P : Derivation (k.pair k.token a) (Nest p f) → Type 0) → ((t : Token) (is : p t.class ≡ true) (x : Derivation a f) → P (nest t is x)) → (d : Derivation (k.pair k.token a) (Nest p f)) → P d
at_nest P one d = let o = opened d in subst P (sym o.3) (one o.0 o.1 o.2)

pub at_ref : {n : Rule} (P : Derivation (kind n) (Ref n) → Type 0) → ((x : Derivation (kind n) (rule n)) → P (ref x)) → (d : Derivation (kind n) (Ref n)) → P d
at_ref P one d = let o = opened d in subst P (sym o.1) (one o.0)
