-- One tree for a list of tokens: what derives from a form is what is read of it.
use Rattle.std.proofs.Common.{◌≡◌, ℕ, ◌-◌, ◌≤◌, max, Bool, true, false, not, ◌&&◌, List, [], ◌∷◌, ◌++◌, refl, sym, ◌∙◌, subst, arith, append_assoc, append-nil}
use Rattle.std.proofs.lemmas.Bool.{false≢true}
use Rattle.grammar.specs.Trees as model
use Rattle.grammar.specs.Trees.{Token}
use Rattle.grammar.specs.Forms.{Kind, Worth, Rule, Form, Seq, Alt, Many, Opt, Map, Nest, Ref, is_nullable}
use Rattle.grammar.specs.Rules.{rule, query}
use Rattle.grammar.specs.Derivations.{Derivation, tok, seq, left, right, none, more, absent, present, map, nest, ref, tokens, worth, depth}
use Rattle.grammar.specs.Reading.{starts, continues, Apart, read, Reads}
use Rattle.grammar.specs.Whole.{Derives}
use Rattle.grammar.proofs.Classes.{and_left, and_right, at_each}
use Rattle.grammar.proofs.Heads.{Heads, heads, apart_of, gone_on, or_not_first, or_not_second}
use Rattle.grammar.proofs.Agreeing.{On, Off, Disjoint, apart_by, apart_second, apart_again}
use Rattle.grammar.proofs.Laws.{seq_reads, exact_left, exact_right, exact_map, exact_ref}
use Rattle.grammar.proofs.Repeating.{exact_tok, exact_absent, exact_present, exact_none, exact_more, exact_nest}
use Rattle.grammar.proofs.Checking.{is_told_apart, told_apart}
use Rattle.grammar.proofs.Answering.{exact_of}
use Rattle.grammar.proofs.Ending.{one_tree}

not_true : (b : Bool) → not b ≡ true → b ≡ false
not_true true is = sym is
not_true false is = refl

second_of : (x y : Bool) → not (x && y) ≡ true → x ≡ true → y ≡ false
second_of true true is so = sym is
second_of true false is so = refl
second_of false y is so = absurd (false≢true so)

first_max : (x y n : ℕ) → max x y ≤ n → x ≤ n
first_max x y n is = omega arith

second_max : (x y n : ℕ) → max x y ≤ n → y ≤ n
second_max x y n is = omega arith

-- tokens of a form begin with it, and not with one that begins otherwise
on_of : {a : Kind} (f : Form a) (ts z : List Token) → Heads f ts → is_nullable f ≡ false → On f (ts ++ z)
on_of f [] z h filled = absurd (false≢true (sym filled ∙ h))
on_of f (t ∷ ts) z h filled = h

off_second : {a : Kind} (f g : Form a) (ts z : List Token) → Heads f ts → is_nullable f ≡ false → is_nullable g ≡ false → Disjoint (starts f) (starts g) → Off g (ts ++ z)
off_second f g [] z h filled other apart = absurd (false≢true (sym filled ∙ h))
off_second f g (t ∷ ts) z h filled other apart = (other, second_of _ _ (at_each (λ k. not (starts f k && starts g k)) apart t.class) h)

off_first : {a : Kind} (f g : Form a) (ts z : List Token) → Heads g ts → is_nullable g ≡ false → is_nullable f ≡ false → Disjoint (starts f) (starts g) → Off f (ts ++ z)
off_first f g [] z h filled other apart = absurd (false≢true (sym filled ∙ h))
off_first f g (t ∷ ts) z h filled other apart = (other, apart_of _ _ (at_each (λ k. not (starts f k && starts g k)) apart t.class) h)

off_many : {a : Kind} (f : Form a) (z : List Token) → is_nullable f ≡ false → Apart (Many f) z → Off f z
off_many f [] filled apart = filled
off_many f (t ∷ z) filled apart = (filled, or_not_first _ _ apart)

off_opt : {a : Kind} (f : Form a) (z : List Token) → is_nullable f ≡ false → Apart (Opt f) z → Off f z
off_opt f [] filled apart = filled
off_opt f (t ∷ z) filled apart = (filled, or_not_first _ _ apart)

apart_left : {a : Kind} (f g : Form a) (z : List Token) → Apart (Alt f g) z → Apart f z
apart_left f g [] apart = tt
apart_left f g (t ∷ z) apart = or_not_first _ _ apart

apart_right : {a : Kind} (f g : Form a) (z : List Token) → Apart (Alt f g) z → Apart g z
apart_right f g [] apart = tt
apart_right f g (t ∷ z) apart = or_not_second (continues f t.class) _ apart

apart_opt : {a : Kind} (f : Form a) (z : List Token) → Apart (Opt f) z → Apart f z
apart_opt f [] apart = tt
apart_opt f (t ∷ z) apart = or_not_second (starts f t.class) _ apart

apart_map : (a b : Kind) (h : Worth a → Worth b) (f : Form a) (z : List Token) → Apart (Map {a = a} {b = b} h f) z → Apart f z
apart_map a b h f [] apart = tt
apart_map a b h f (t ∷ z) apart = apart

apart_nest : {a : Kind} (p : _ → Bool) (f : Form a) (z : List Token) → Apart (Nest p f) z → Apart f z
apart_nest p f [] apart = tt
apart_nest p f (t ∷ z) apart = apart

not_so : (x y : Bool) → (x ≡ true → y ≡ true) → y ≡ false → x ≡ false
not_so true y so is = sym (so refl) ∙ is
not_so false y so is = refl

apart_ref : (m : Rule) (z : List Token) → Apart (Ref m) z → Apart (rule m) z
apart_ref m [] apart = tt
apart_ref m (t ∷ z) apart = not_so _ _ (gone_on m t.class) apart

-- what derives from a form that is told apart is read of it, before what doesn't go on with it
pub reads_of : {a : Kind} {f : Form a} (d : Derivation a f) (n : ℕ) (z : List Token) → is_told_apart f ≡ true → depth d ≤ n → Apart f z → Reads n f (tokens d ++ z) (worth d) z
reads_of (tok t is) n z told deep apart = (exact_tok t z is).holds
reads_of (seq {f = f} {g = g} d e) n z told deep apart =
    let disjoint = and_right (is_told_apart f && is_told_apart g) _ told in
    let both = and_left (is_told_apart f && is_told_apart g) _ told in
    let one = reads_of d n (tokens e ++ z) (and_left (is_told_apart f) (is_told_apart g) both) (first_max (depth d) (depth e) n deep) (apart_by f g (tokens e) z disjoint (heads e) apart) in
    let two = reads_of e n z (and_right (is_told_apart f) (is_told_apart g) both) (second_max (depth d) (depth e) n deep) (apart_second f g z apart) in
    subst (λ (x : List Token). Reads n (Seq f g) x (worth d, worth e) z) (sym (append_assoc (tokens d) (tokens e) z)) (seq_reads disjoint one two)
reads_of (left {f = f} {g = g} d) n z told deep apart =
    let disjoint = and_right (is_told_apart f && is_told_apart g && not (is_nullable f) && not (is_nullable g)) _ told in
    let some = and_left (is_told_apart f && is_told_apart g && not (is_nullable f) && not (is_nullable g)) _ told in
    let other = not_true (is_nullable g) (and_right (is_told_apart f && is_told_apart g && not (is_nullable f)) _ some) in
    let rest = and_left (is_told_apart f && is_told_apart g && not (is_nullable f)) _ some in
    let filled = not_true (is_nullable f) (and_right (is_told_apart f && is_told_apart g) _ rest) in
    let both = and_left (is_told_apart f && is_told_apart g) _ rest in
    (exact_left (off_second f g (tokens d) z (heads d) filled other disjoint) (exact_of (reads_of d n z (and_left (is_told_apart f) _ both) deep (apart_left f g z apart)))).holds
reads_of (right {f = f} {g = g} d) n z told deep apart =
    let disjoint = and_right (is_told_apart f && is_told_apart g && not (is_nullable f) && not (is_nullable g)) _ told in
    let some = and_left (is_told_apart f && is_told_apart g && not (is_nullable f) && not (is_nullable g)) _ told in
    let filled = not_true (is_nullable g) (and_right (is_told_apart f && is_told_apart g && not (is_nullable f)) _ some) in
    let rest = and_left (is_told_apart f && is_told_apart g && not (is_nullable f)) _ some in
    let other = not_true (is_nullable f) (and_right (is_told_apart f && is_told_apart g) _ rest) in
    let both = and_left (is_told_apart f && is_told_apart g) _ rest in
    (exact_right (off_first f g (tokens d) z (heads d) filled other disjoint) (exact_of (reads_of d n z (and_right (is_told_apart f) _ both) deep (apart_right f g z apart)))).holds
reads_of (none {f = f}) n z told deep apart =
    let filled = not_true (is_nullable f) (and_right (is_told_apart f) _ (and_left (is_told_apart f && not (is_nullable f)) _ told)) in
    (exact_none (off_many f z filled apart)).holds
reads_of (more {f = f} d e) n z told deep apart =
    let disjoint = and_right (is_told_apart f && not (is_nullable f)) _ told in
    let both = and_left (is_told_apart f && not (is_nullable f)) _ told in
    let filled = not_true (is_nullable f) (and_right (is_told_apart f) _ both) in
    let one = reads_of d n (tokens e ++ z) (and_left (is_told_apart f) _ both) (first_max (depth d) (depth e) n deep) (apart_again f (tokens e) z disjoint (heads e) apart) in
    let two = reads_of e n z told (second_max (depth d) (depth e) n deep) apart in
    subst (λ (x : List Token). Reads n (Many f) x (worth d ∷ worth e) z) (sym (append_assoc (tokens d) (tokens e) z)) (exact_more disjoint (on_of f (tokens d) (tokens e ++ z) (heads d) filled) one (exact_of two)).holds
reads_of (absent {f = f}) n z told deep apart =
    (exact_absent (off_opt f z (not_true (is_nullable f) (and_right (is_told_apart f) _ told)) apart)).holds
reads_of (present {f = f} d) n z told deep apart =
    let filled = not_true (is_nullable f) (and_right (is_told_apart f) _ told) in
    (exact_present (on_of f (tokens d) z (heads d) filled) (exact_of (reads_of d n z (and_left (is_told_apart f) _ told) deep (apart_opt f z apart)))).holds
reads_of (map {a = a} {b = b} {h = h} {f = f} d) n z told deep apart = (exact_map {a = a} {b = b} h (exact_of (reads_of d n z told deep (apart_map a b h f z apart)))).holds
reads_of (nest {p = p} {f = f} t is d) n z told deep apart =
    (exact_nest t (omega arith) is (exact_of (reads_of d (n - 1) z told (omega arith) (apart_nest p f z apart)))).holds
reads_of (ref {n = m} d) n z told deep apart = (exact_ref {m = m} (exact_of (reads_of d n z (told_apart m) deep (apart_ref m z apart)))).holds

-- one tree for the tokens of a query
pub one_query : (n : ℕ) (all : List Token) (v w : model.Query) → Derives n query all v → Derives n query all w → v ≡ w
one_query n all v w x y =
    let one = subst (λ (l : List Token). Reads n query l (worth x.0) []) (append-nil (tokens x.0) ∙ x.1) (reads_of x.0 n [] refl x.3 tt) in
    one_tree query n all (read (worth x.0) []) v w one x y
