-- The levels open among the first tokens are told by these tokens: an induction on what derives.
use Rattle.std.proofs.Common.{◌≡◌, ℕ, ◌+◌, Bool, true, false, not, ◌&&◌, List, [], ◌∷◌, ◌++◌, length, refl, sym, ◌∙◌, ap, subst}
use Rattle.std.proofs.lemmas.Bool.{false≢true}
use Rattle.grammar.specs.declared.Class.{Class}
use Rattle.grammar.specs.Trees.{Token}
use Rattle.grammar.specs.Forms.{Kind, Worth, Rule, kind, Form, Alt, Many, Opt, Map, Nest, Ref, is_nullable}
use Rattle.grammar.specs.Rules.{rule}
use Rattle.grammar.specs.Derivations.{Derivation, tok, seq, left, right, none, more, absent, present, map, nest, ref, tokens, depth_to}
use Rattle.grammar.specs.Reading.{starts, continues, Apart}
use Rattle.grammar.proofs.Classes.{and_left, and_right, at_each}
use Rattle.grammar.proofs.Heads.{Heads, heads, apart_of, gone_on, or_not_first, or_not_second, depth_none}
use Rattle.grammar.proofs.Agreeing.{Off, Disjoint, off_by, apart_by, apart_second, apart_again}
use Rattle.grammar.proofs.Opening.{at_tok, at_seq, at_alt, at_many, at_opt, at_map, at_nest, at_ref}
use Rattle.grammar.proofs.Checking.{is_told_apart, told_apart}
use Rattle.query_laws.proofs.Meeting.{Opens, same_tail, opens_parts}
use Rattle.query_laws.proofs.Parts.{Same, both_same}

not_true : (b : Bool) → not b ≡ true → b ≡ false
not_true true is = sym is
not_true false is = refl

second_of : (x y : Bool) → not (x && y) ≡ true → x ≡ true → y ≡ false
second_of true true is so = sym is
second_of true false is so = refl
second_of false y is so = absurd (false≢true so)

not_so : (x y : Bool) → (x ≡ true → y ≡ true) → y ≡ false → x ≡ false
not_so true y so is = sym (so refl) ∙ is
not_so false y so is = refl

-- what follows a form follows what it is made of
apart_left : {a : Kind} (f g : Form a) (z : List Token) → Apart (Alt f g) z → Apart f z
apart_left f g [] apart = tt
apart_left f g (t ∷ z) apart = or_not_first _ _ apart

apart_right : {a : Kind} (f g : Form a) (z : List Token) → Apart (Alt f g) z → Apart g z
apart_right f g [] apart = tt
apart_right f g (t ∷ z) apart = or_not_second (continues f t.class) _ apart

apart_opt : {a : Kind} (f : Form a) (z : List Token) → Apart (Opt f) z → Apart f z
apart_opt f [] apart = tt
apart_opt f (t ∷ z) apart = or_not_second (starts f t.class) _ apart

apart_map : (a b : Kind) (h : Worth a → Worth b) (f : Form a) (z : List Token) → Apart (Map {a = a} {b = b} h f) z → Apart f z
apart_map a b h f [] apart = tt
apart_map a b h f (t ∷ z) apart = apart

apart_nest : {a : Kind} (p : Class → Bool) (f : Form a) (z : List Token) → Apart (Nest p f) z → Apart f z
apart_nest p f [] apart = tt
apart_nest p f (t ∷ z) apart = apart

apart_ref : (m : Rule) (z : List Token) → Apart (Ref m) z → Apart (rule m) z
apart_ref m [] apart = tt
apart_ref m (t ∷ z) apart = not_so _ _ (gone_on m t.class) apart

-- one token tells the two forms of a choice apart
record Choice {a : Kind} (f g : Form a) : Type 0 where
  first : is_told_apart f ≡ true
  second : is_told_apart g ≡ true
  first_filled : is_nullable f ≡ false
  second_filled : is_nullable g ≡ false
  disjoint : Disjoint (starts f) (starts g)

choice : {a : Kind} (f g : Form a) → is_told_apart (Alt f g) ≡ true → Choice f g
choice f g told =
    let some = and_left (is_told_apart f && is_told_apart g && not (is_nullable f) && not (is_nullable g)) _ told in
    let rest = and_left (is_told_apart f && is_told_apart g && not (is_nullable f)) _ some in
    let both = and_left (is_told_apart f && is_told_apart g) _ rest in
    record {
      first = and_left (is_told_apart f) _ both;
      second = and_right (is_told_apart f) _ both;
      first_filled = not_true (is_nullable f) (and_right (is_told_apart f && is_told_apart g) _ rest);
      second_filled = not_true (is_nullable g) (and_right (is_told_apart f && is_told_apart g && not (is_nullable f)) _ some);
      disjoint = and_right (is_told_apart f && is_told_apart g && not (is_nullable f) && not (is_nullable g)) _ told;
    }

-- tokens of the one don't begin the other
off_second : {a : Kind} (f g : Form a) (ts z : List Token) → Choice f g → Heads f ts → Off g (ts ++ z)
off_second f g [] z one h = absurd (false≢true (sym one.first_filled ∙ h))
off_second f g (t ∷ ts) z one h = (one.second_filled, second_of _ _ (at_each (λ k. not (starts f k && starts g k)) one.disjoint t.class) h)

off_first : {a : Kind} (f g : Form a) (ts z : List Token) → Choice f g → Heads g ts → Off f (ts ++ z)
off_first f g [] z one h = absurd (false≢true (sym one.second_filled ∙ h))
off_first f g (t ∷ ts) z one h = (one.first_filled, apart_of _ _ (at_each (λ k. not (starts f k && starts g k)) one.disjoint t.class) h)

off_many : {a : Kind} (f : Form a) (z : List Token) → is_nullable f ≡ false → Apart (Many f) z → Off f z
off_many f [] filled apart = filled
off_many f (t ∷ z) filled apart = (filled, or_not_first _ _ apart)

off_opt : {a : Kind} (f : Form a) (z : List Token) → is_nullable f ≡ false → Apart (Opt f) z → Off f z
off_opt f [] filled apart = filled
off_opt f (t ∷ z) filled apart = (filled, or_not_first _ _ apart)

-- two texts, of which one doesn't begin with the form and the other does, share no token
none_shared : {a : Kind} (f : Form a) (ts z text front : List Token) (t : Token) → Off f text → Heads f ts → Opens (t ∷ front) text → Opens (t ∷ front) (ts ++ z) → ⊥
none_shared f ts z text front t off h here there =
    off_by f ts z [] (t ∷ (front ++ here.0)) (t ∷ (front ++ here.0)) (subst (λ (l : List Token). Off f l) here.1 off) h refl (front ++ there.0, there.1)

-- so both have no level open in what they share
none_open : {a b : Kind} {c : Kind} (f : Form c) {g : Form a} {h : Form b} (d : Derivation a g) (e : Derivation b h) (ts z text front : List Token) → Off f text → Heads f ts → Opens front text → Opens front (ts ++ z)
    → depth_to (length front) d ≡ depth_to (length front) e
none_open f d e ts z text [] off h here there = depth_none d ∙ sym (depth_none e)
none_open f d e ts z text (t ∷ front) off h here there = absurd (none_shared f ts z text front t off h here there)

same_tok : {p : Class → Bool} (t : Token) (is : p t.class ≡ true) → Same (tok {p = p} t is)
same_tok {p = p} t is = λ e front y z told apart_y apart_z here there.
    at_tok (λ x. depth_to (length front) (tok {p = p} t is) ≡ depth_to (length front) x) (λ u so. refl) e

same_seq : {a b : Kind} {f : Form a} {g : Form b} (d : Derivation a f) (x : Derivation b g) → Same d → Same x → Same (seq d x)
same_seq {f = f} {g = g} d x one two = λ e front y z told apart_y apart_z here there.
    let disjoint = and_right (is_told_apart f && is_told_apart g) _ told in
    let both = and_left (is_told_apart f && is_told_apart g) _ told in
    at_seq (λ v. Opens front (tokens v ++ z) → depth_to (length front) (seq d x) ≡ depth_to (length front) v)
    (λ v w so. both_same d v x w front y z (and_left (is_told_apart f) _ both) (and_right (is_told_apart f) _ both) one two
    (apart_by f g (tokens x) y disjoint (heads x) apart_y) (apart_by f g (tokens w) z disjoint (heads w) apart_z) (apart_second f g y apart_y) (apart_second f g z apart_z)
    (opens_parts front (tokens d) (tokens x) y here) (opens_parts front (tokens v) (tokens w) z so))
    e there

same_left : {a : Kind} {f g : Form a} (d : Derivation a f) → Same d → Same (left {f = f} {g = g} d)
same_left {f = f} {g = g} d one = λ e front y z told apart_y apart_z here there.
    let telling = choice f g told in
    at_alt (λ v. Opens front (tokens v ++ z) → depth_to (length front) (left {f = f} {g = g} d) ≡ depth_to (length front) v)
    (λ v so. one v front y z telling.first (apart_left f g y apart_y) (apart_left f g z apart_z) here so)
    (λ w so. none_open g d w (tokens w) z (tokens d ++ y) front (off_second f g (tokens d) y telling (heads d)) (heads w) here so)
    e there

same_right : {a : Kind} {f g : Form a} (d : Derivation a g) → Same d → Same (right {f = f} {g = g} d)
same_right {f = f} {g = g} d one = λ e front y z told apart_y apart_z here there.
    let telling = choice f g told in
    at_alt (λ v. Opens front (tokens v ++ z) → depth_to (length front) (right {f = f} {g = g} d) ≡ depth_to (length front) v)
    (λ v so. none_open f d v (tokens v) z (tokens d ++ y) front (off_first f g (tokens d) y telling (heads d)) (heads v) here so)
    (λ w so. one w front y z telling.second (apart_right f g y apart_y) (apart_right f g z apart_z) here so)
    e there

same_none : {a : Kind} {f : Form a} → Same (none {f = f})
same_none {f = f} = λ e front y z told apart_y apart_z here there.
    let filled = not_true (is_nullable f) (and_right (is_told_apart f) _ (and_left (is_told_apart f && not (is_nullable f)) _ told)) in
    at_many (λ v. Opens front (tokens v ++ z) → depth_to (length front) (none {f = f}) ≡ depth_to (length front) v)
    (λ so. refl)
    (λ v w so. none_open f (none {f = f}) (more v w) (tokens v) (tokens w ++ z) y front (off_many f y filled apart_y) (heads v) here (opens_parts front (tokens v) (tokens w) z so))
    e there

same_more : {a : Kind} {f : Form a} (d : Derivation a f) (x : Derivation _ (Many f)) → Same d → Same x → Same (more d x)
same_more {f = f} d x one two = λ e front y z told apart_y apart_z here there.
    let disjoint = and_right (is_told_apart f && not (is_nullable f)) _ told in
    let both = and_left (is_told_apart f && not (is_nullable f)) _ told in
    let filled = not_true (is_nullable f) (and_right (is_told_apart f) _ both) in
    let own = opens_parts front (tokens d) (tokens x) y here in
    at_many (λ v. Opens front (tokens v ++ z) → depth_to (length front) (more d x) ≡ depth_to (length front) v)
    (λ so. sym (none_open f (none {f = f}) (more d x) (tokens d) (tokens x ++ y) z front (off_many f z filled apart_z) (heads d) so own))
    (λ v w so. both_same d v x w front y z (and_left (is_told_apart f) _ both) told one two
    (apart_again f (tokens x) y disjoint (heads x) apart_y) (apart_again f (tokens w) z disjoint (heads w) apart_z) apart_y apart_z
    own (opens_parts front (tokens v) (tokens w) z so))
    e there

same_absent : {a : Kind} {f : Form a} → Same (absent {f = f})
same_absent {f = f} = λ e front y z told apart_y apart_z here there.
    let filled = not_true (is_nullable f) (and_right (is_told_apart f) _ told) in
    at_opt (λ v. Opens front (tokens v ++ z) → depth_to (length front) (absent {f = f}) ≡ depth_to (length front) v)
    (λ so. refl)
    (λ v so. none_open f (absent {f = f}) v (tokens v) z y front (off_opt f y filled apart_y) (heads v) here so)
    e there

same_present : {a : Kind} {f : Form a} (d : Derivation a f) → Same d → Same (present d)
same_present {f = f} d one = λ e front y z told apart_y apart_z here there.
    let filled = not_true (is_nullable f) (and_right (is_told_apart f) _ told) in
    at_opt (λ v. Opens front (tokens v ++ z) → depth_to (length front) (present d) ≡ depth_to (length front) v)
    (λ so. sym (none_open f (absent {f = f}) d (tokens d) y z front (off_opt f z filled apart_z) (heads d) so here))
    (λ v so. one v front y z (and_left (is_told_apart f) _ told) (apart_opt f y apart_y) (apart_opt f z apart_z) here so)
    e there

same_map : (a b : Kind) (h : Worth a → Worth b) (f : Form a) (d : Derivation a f) → Same d → Same (map {a = a} {b = b} {h = h} d)
same_map a b h f d one = λ e front y z told apart_y apart_z here there.
    at_map {a = a} {b = b} {h = h} {f = f} (λ v. Opens front (tokens v ++ z) → depth_to (length front) (map {a = a} {b = b} {h = h} d) ≡ depth_to (length front) v)
    (λ v so. one v front y z told (apart_map a b h f y apart_y) (apart_map a b h f z apart_z) here so)
    e there

opens_tail : (t u : Token) (front text : List Token) → Opens (t ∷ front) (u ∷ text) → Opens front text
opens_tail t u front text is = (is.0, same_tail u t text (front ++ is.0) is.1)

inner_same : {a : Kind} (p : Class → Bool) {f : Form a} (t u : Token) (is : p t.class ≡ true) (so : p u.class ≡ true) (d v : Derivation a f) (front y z : List Token) → is_told_apart f ≡ true → Same d → Apart f y → Apart f z
    → Opens front (t ∷ (tokens d ++ y)) → Opens front (u ∷ (tokens v ++ z)) → depth_to (length front) (nest {p = p} {f = f} t is d) ≡ depth_to (length front) (nest {p = p} {f = f} u so v)
inner_same p t u is so d v [] y z told one apart_y apart_z here there = refl
inner_same p t u is so d v (x ∷ front) y z told one apart_y apart_z here there =
    ap (λ (m : ℕ). m + 1) (one v front y z told apart_y apart_z (opens_tail x t front (tokens d ++ y) here) (opens_tail x u front (tokens v ++ z) there))

same_nest : {a : Kind} {p : Class → Bool} {f : Form a} (t : Token) (is : p t.class ≡ true) (d : Derivation a f) → Same d → Same (nest {p = p} {f = f} t is d)
same_nest {p = p} {f = f} t is d one = λ e front y z told apart_y apart_z here there.
    at_nest (λ v. Opens front (tokens v ++ z) → depth_to (length front) (nest {p = p} {f = f} t is d) ≡ depth_to (length front) v)
    (λ u so v next. inner_same p t u is so d v front y z told one (apart_nest p f y apart_y) (apart_nest p f z apart_z) here next)
    e there

same_ref : (m : Rule) (d : Derivation (kind m) (rule m)) → Same d → Same (ref {n = m} d)
same_ref m d one = λ e front y z told apart_y apart_z here there.
    at_ref {n = m} (λ v. Opens front (tokens v ++ z) → depth_to (length front) (ref {n = m} d) ≡ depth_to (length front) v)
    (λ v so. one v front y z (told_apart m) (apart_ref m y apart_y) (apart_ref m z apart_z) here so)
    e there

pub depth_told : {a : Kind} {f : Form a} (d : Derivation a f) → Same d
depth_told (tok t is) = same_tok t is
depth_told (seq d e) = same_seq d e (depth_told d) (depth_told e)
depth_told (left d) = same_left d (depth_told d)
depth_told (right d) = same_right d (depth_told d)
depth_told none = same_none
depth_told (more d e) = same_more d e (depth_told d) (depth_told e)
depth_told absent = same_absent
depth_told (present d) = same_present d (depth_told d)
depth_told (map {a = a} {b = b} {h = h} {f = f} d) = same_map a b h f d (depth_told d)
depth_told (nest t is d) = same_nest t is d (depth_told d)
depth_told (ref {n = m} d) = same_ref m d (depth_told d)
