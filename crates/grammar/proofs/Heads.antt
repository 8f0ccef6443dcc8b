-- With which token a derivation begins, and how depths compare.
use Rattle.std.proofs.Common.{◌≡◌, ◌≢◌, ℕ, zero, suc, ◌+◌, ◌-◌, ◌≤◌, max, Bool, true, false, not, ◌&&◌, ◌||◌, List, [], ◌∷◌, ◌++◌, length, refl, sym, ◌∙◌, ap, arith}
use Rattle.std.proofs.lemmas.Bool.{false≢true}
use Rattle.grammar.specs.Classes.{Class, for_all}
use Rattle.grammar.specs.Trees.{Token}
use Rattle.grammar.specs.declared.Class.TheVariants as c
use Rattle.grammar.proofs.Classes.{at_each}
use Rattle.grammar.specs.Forms.{Kind, Worth, Rule, Form, Tok, Seq, Alt, Many, Opt, Map, Ref, is_nullable}
use Rattle.grammar.specs.Forms.{Rule as r}
use Rattle.grammar.specs.Rules.{rule, begins, goes_on}
use Rattle.grammar.specs.Derivations.{Derivation, tok, seq, left, right, none, more, absent, present, map, nest, ref, tokens, depth, depth_to}
use Rattle.grammar.specs.Reading.{starts, continues}

pub and_true : (a b : Bool) → a ≡ true → b ≡ true → (a && b) ≡ true
and_true true b one two = two
and_true false b one two = one

pub or_first : (a b : Bool) → a ≡ true → (a || b) ≡ true
or_first true b is = refl
or_first false b is = absurd (false≢true is)

pub or_second : (a b : Bool) → b ≡ true → (a || b) ≡ true
or_second true b is = refl
or_second false b is = is

pub or_not_first : (a b : Bool) → (a || b) ≡ false → a ≡ false
or_not_first true b is = is
or_not_first false b is = refl

pub or_not_second : (a b : Bool) → (a || b) ≡ false → b ≡ false
or_not_second true b is = absurd (false≢true (sym is))
or_not_second false b is = is

-- the first set and no other
pub implied : (a b : Bool) → (not a || b) ≡ true → a ≡ true → b ≡ true
implied true b is yes' = is
implied false b is yes' = absurd (false≢true yes')

pub apart_of : (a b : Bool) → not (a && b) ≡ true → b ≡ true → a ≡ false
apart_of true true is yes' = absurd (false≢true is)
apart_of true false is yes' = absurd (false≢true yes')
apart_of false b is yes' = refl

-- a rule begins as its table says
begun_all : (n : Rule) → for_all (λ k. not (starts (rule n) k) || begins n k) ≡ true
begun_all r.query_rule = refl
begun_all r.item_rule = refl
begun_all r.using_rule = refl
begun_all (r.cond_rule true) = refl
begun_all (r.cond_rule false) = refl
begun_all (r.conj_rule true) = refl
begun_all (r.conj_rule false) = refl
begun_all (r.neg_rule true) = refl
begun_all (r.neg_rule false) = refl
begun_all (r.test_rule true) = refl
begun_all (r.test_rule false) = refl
begun_all (r.tail_rule true) = refl
begun_all (r.tail_rule false) = refl
begun_all (r.range_rule true) = refl
begun_all (r.range_rule false) = refl
begun_all (r.set_rule true) = refl
begun_all (r.set_rule false) = refl
begun_all r.asked_rule = refl
begun_all r.expr_rule = refl

pub begun : (n : Rule) (k : Class) → starts (rule n) k ≡ true → begins n k ≡ true
begun n k = implied _ _ (at_each (λ k. not (starts (rule n) k) || begins n k) (begun_all n) k)

gone_on_all : (n : Rule) → for_all (λ k. not (continues (rule n) k) || goes_on n k) ≡ true
gone_on_all r.query_rule = refl
gone_on_all r.item_rule = refl
gone_on_all r.using_rule = refl
gone_on_all (r.cond_rule true) = refl
gone_on_all (r.cond_rule false) = refl
gone_on_all (r.conj_rule true) = refl
gone_on_all (r.conj_rule false) = refl
gone_on_all (r.neg_rule true) = refl
gone_on_all (r.neg_rule false) = refl
gone_on_all (r.test_rule true) = refl
gone_on_all (r.test_rule false) = refl
gone_on_all (r.tail_rule true) = refl
gone_on_all (r.tail_rule false) = refl
gone_on_all (r.range_rule true) = refl
gone_on_all (r.range_rule false) = refl
gone_on_all (r.set_rule true) = refl
gone_on_all (r.set_rule false) = refl
gone_on_all r.asked_rule = refl
gone_on_all r.expr_rule = refl

pub gone_on : (n : Rule) (k : Class) → continues (rule n) k ≡ true → goes_on n k ≡ true
gone_on n k = implied _ _ (at_each (λ k. not (continues (rule n) k) || goes_on n k) (gone_on_all n) k)

pub filled : (n : Rule) → is_nullable (rule n) ≡ false
filled r.query_rule = refl
filled r.item_rule = refl
filled r.using_rule = refl
filled (r.cond_rule true) = refl
filled (r.cond_rule false) = refl
filled (r.conj_rule true) = refl
filled (r.conj_rule false) = refl
filled (r.neg_rule true) = refl
filled (r.neg_rule false) = refl
filled (r.test_rule true) = refl
filled (r.test_rule false) = refl
filled (r.tail_rule true) = refl
filled (r.tail_rule false) = refl
filled (r.range_rule true) = refl
filled (r.range_rule false) = refl
filled (r.set_rule true) = refl
filled (r.set_rule false) = refl
filled r.asked_rule = refl
filled r.expr_rule = refl

abbrev pub Heads : {a : Kind} → Form a → List Token → Type 0
Heads f [] = is_nullable f ≡ true
Heads f (t ∷ ts) = starts f t.class ≡ true

heads_seq : {a b : Kind} (f : Form a) (g : Form b) (xs ys : List Token) → Heads f xs → Heads g ys → Heads (Seq f g) (xs ++ ys)
heads_seq f g [] [] h i = and_true _ _ h i
heads_seq f g [] (y ∷ ys) h i = or_second (starts f y.class) _ (and_true _ _ h i)
heads_seq f g (x ∷ xs) ys h i = or_first _ _ h

heads_left : {a : Kind} (f g : Form a) (xs : List Token) → Heads f xs → Heads (Alt f g) xs
heads_left f g [] h = or_first _ _ h
heads_left f g (x ∷ xs) h = or_first _ _ h

heads_right : {a : Kind} (f g : Form a) (xs : List Token) → Heads g xs → Heads (Alt f g) xs
heads_right f g [] h = or_second (is_nullable f) _ h
heads_right f g (x ∷ xs) h = or_second (starts f x.class) _ h

heads_many : {a : Kind} (f : Form a) (xs ys : List Token) → Heads f xs → Heads (Many f) ys → Heads (Many f) (xs ++ ys)
heads_many f [] [] h i = refl
heads_many f [] (y ∷ ys) h i = i
heads_many f (x ∷ xs) ys h i = h

heads_opt : {a : Kind} (f : Form a) (xs : List Token) → Heads f xs → Heads (Opt f) xs
heads_opt f [] h = refl
heads_opt f (x ∷ xs) h = h

heads_map : (a b : Kind) (w : Worth a → Worth b) (f : Form a) (xs : List Token) → Heads f xs → Heads (Map w f) xs
heads_map a b w f [] h = h
heads_map a b w f (x ∷ xs) h = h

heads_ref : (n : Rule) (xs : List Token) → Heads (rule n) xs → Heads (Ref n) xs
heads_ref n [] h = absurd (false≢true (sym (filled n) ∙ h))
heads_ref n (x ∷ xs) h = begun n x.class h

-- a derivation begins with a token with which its form begins
pub heads : {a : Kind} {f : Form a} (d : Derivation a f) → Heads f (tokens d)
heads (tok t is) = is
heads (seq {f = f} {g = g} d e) = heads_seq f g (tokens d) (tokens e) (heads d) (heads e)
heads (left {f = f} {g = g} d) = heads_left f g (tokens d) (heads d)
heads (right {f = f} {g = g} d) = heads_right f g (tokens d) (heads d)
heads none = refl
heads (more {f = f} d e) = heads_many f (tokens d) (tokens e) (heads d) (heads e)
heads absent = refl
heads (present {f = f} d) = heads_opt f (tokens d) (heads d)
heads (map {a = a} {b = b} {h = h} {f = f} d) = heads_map a b h f (tokens d) (heads d)
heads (nest t is d) = is
heads (ref {n = n} d) = heads_ref n (tokens d) (heads d)

none_both : (x y n : ℕ) → x ≡ 0 → (f : ℕ → ℕ) → f 0 ≡ 0 → max x (f (0 - n)) ≡ 0
none_both x y n one f two = let none' : 0 - n ≡ 0 = omega arith in rw (one, none', two) refl

pub depth_none : {a : Kind} {f : Form a} (d : Derivation a f) → depth_to 0 d ≡ 0
depth_none (tok t is) = refl
depth_none (seq d e) = none_both _ 0 (length (tokens d)) (depth_none d) (λ n. depth_to n e) (depth_none e)
depth_none (left d) = depth_none d
depth_none (right d) = depth_none d
depth_none none = refl
depth_none (more d e) = none_both _ 0 (length (tokens d)) (depth_none d) (λ n. depth_to n e) (depth_none e)
depth_none absent = refl
depth_none (present d) = depth_none d
depth_none (map d) = depth_none d
depth_none (nest t is d) = refl
depth_none (ref d) = depth_none d

max_below : (a b x y : ℕ) → a ≤ x → b ≤ y → max a b ≤ max x y
max_below a b x y one two = omega arith

pub depth_below : {a : Kind} {f : Form a} (n : ℕ) (d : Derivation a f) → depth_to n d ≤ depth d
depth_below n (tok t is) = omega arith
depth_below n (seq d e) = max_below _ _ _ _ (depth_below n d) (depth_below (n - length (tokens d)) e)
depth_below n (left d) = depth_below n d
depth_below n (right d) = depth_below n d
depth_below n none = omega arith
depth_below n (more d e) = max_below _ _ _ _ (depth_below n d) (depth_below (n - length (tokens d)) e)
depth_below n absent = omega arith
depth_below n (present d) = depth_below n d
depth_below n (map d) = depth_below n d
depth_below zero (nest t is d) = omega arith
depth_below (suc n) (nest t is d) = let one = depth_below n d in omega arith
depth_below n (ref d) = depth_below n d
