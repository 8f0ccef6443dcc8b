-- An exact answer where a part may be left out, comes again, or lies one level deeper.
use Rattle.std.proofs.Common.{◌≡◌, ℕ, suc, ◌+◌, ◌-◌, ◌≤◌, ◌<◌, Bool, true, false, not, List, [], ◌∷◌, ◌++◌, length, Some, None, refl, sym, ◌∙◌, ap, ap₂, subst, arith, append_assoc, length-append}
use Rattle.grammar.specs.Classes.{Class}
use Rattle.grammar.specs.Trees.{Token}
use Rattle.grammar.specs.Forms.{Kind, Worth, Form, Tok, Many, Opt, Nest}
use Rattle.grammar.specs.Forms.{Kind as k}
use Rattle.grammar.specs.Rules.{begins}
use Rattle.grammar.specs.Derivations.{Derivation, tok, left, none, more, absent, present, map, nest, ref, tokens, worth, depth, depth_to}
use Rattle.grammar.specs.Reading.{IsExact, starts, continues, Apart, Agrees, Outcome, read, failed, mapped, Reads, Deeper, Held, Exact}
use Rattle.grammar.proofs.Heads.{heads, depth_none, depth_below, or_not_second}
use Rattle.grammar.proofs.Opening.{at_tok, at_many, at_opt, at_nest}
use Rattle.grammar.proofs.Agreeing.{agrees_first, Off, On, off_by, on_by, apart_again, Disjoint}
use Rattle.grammar.proofs.Laws.{parted, both_within, held_first, held_second}

-- nothing of the form begins here
pub exact_off : {a : Kind} {f : Form a} {all : List Token} {n : ℕ} → Derivation a f → Off f all → Exact n f all (failed false all)
exact_off {f = f} {all = all} {n = n} e off = record {
  holds = record {
    front = [];
    split = refl;
    way = e;
    more = tokens e;
    begins_so = refl;
    within = let nothing = depth_none e in omega arith;
    deeper = tt;
    never = λ d z held apart agrees. off_by f (tokens d) z [] all all off (heads d) refl agrees;
  };
}

pub exact_tok : {p : Class → Bool} {n : ℕ} (t : Token) (ts : List Token) → p t.class ≡ true → Exact n (Tok p) (t ∷ ts) (read t ts)
exact_tok {p = p} {n = n} t ts is = record {
  holds = record {
    way = tok t is;
    split = refl;
    gives = refl;
    within = omega arith;
    only = at_tok (λ d. (z : List Token) → Apart (Tok p) z → Agrees (tokens d ++ z) (t ∷ []) ts → (tokens d ≡ t ∷ []) × (worth d ≡ t))
        (λ u so z apart agrees. let same = agrees_first u t z (t ∷ []) ts ts refl agrees in (ap (λ (x : Token). x ∷ []) same, same));
  };
}

pub exact_absent : {a : Kind} {f : Form a} {all : List Token} {n : ℕ} → Off f all → Exact n (Opt f) all (read None all)
exact_absent {f = f} {all = all} {n = n} off = record {
  holds = record {
    way = absent;
    split = refl;
    gives = refl;
    within = omega arith;
    only = at_opt (λ d. (z : List Token) → Apart (Opt f) z → Agrees (tokens d ++ z) [] all → (tokens d ≡ []) × (worth d ≡ None))
        (λ z apart agrees. (refl, refl))
        (λ x z apart agrees. absurd (off_by f (tokens x) z [] all all off (heads x) refl agrees));
  };
}

pub exact_none : {a : Kind} {f : Form a} {all : List Token} {n : ℕ} → Off f all → Exact n (Many f) all (read [] all)
exact_none {f = f} {all = all} {n = n} off = record {
  holds = record {
    way = none;
    split = refl;
    gives = refl;
    within = omega arith;
    only = at_many (λ d. (z : List Token) → Apart (Many f) z → Agrees (tokens d ++ z) [] all → (tokens d ≡ []) × (worth d ≡ []))
        (λ z apart agrees. (refl, refl))
        (λ x y z apart agrees. absurd (off_by f (tokens x) (tokens y ++ z) [] all all off (heads x) refl
        (subst (λ (t : List Token). Agrees t [] all) (append_assoc (tokens x) (tokens y) z) agrees)));
  };
}

apart_opt : {a : Kind} (f : Form a) (z : List Token) → Apart (Opt f) z → Apart f z
apart_opt f [] apart = tt
apart_opt f (t ∷ z) apart = or_not_second (starts f t.class) _ apart

apart_opt_many : {a : Kind} (f : Form a) (z : List Token) → Apart (Opt f) z → Apart (Many f) z
apart_opt_many f [] apart = tt
apart_opt_many f (t ∷ z) apart = apart

opt_deeper : {a : Kind} (f : Form a) (deep : Bool) (d : Derivation a f) (front rest others : List Token) (n : ℕ) → Deeper deep n f front rest others d → Deeper deep n (Opt f) front rest others (present d)
opt_deeper f false d front rest others n is = tt
opt_deeper f true d front rest others n is = is

is_present : {a : Kind} (f : Form a) (all : List Token) (n : ℕ) (o : Outcome (Worth a)) → On f all → IsExact n f all o → IsExact n (Opt f) all (mapped Some o)
is_present f all n (read v rest) on one = record {
  way = present one.way;
  split = one.split;
  gives = ap Some one.gives;
  within = one.within;
  only = at_opt (λ d. (z : List Token) → Apart (Opt f) z → Agrees (tokens d ++ z) (tokens one.way) rest → (tokens d ≡ tokens one.way) × (worth d ≡ Some v))
      (λ z apart agrees. absurd (on_by f z (tokens one.way) rest all on one.split (apart_opt_many f z apart) agrees))
      (λ x z apart agrees. let same = one.only x z (apart_opt f z apart) agrees in (same.0, ap Some same.1));
}
is_present f all n (failed deep rest) on one = record {
  front = one.front;
  split = one.split;
  way = present one.way;
  more = one.more;
  begins_so = one.begins_so;
  within = one.within;
  deeper = opt_deeper f deep one.way one.front rest one.more n one.deeper;
  never = at_opt (λ d. (z : List Token) → Held deep n (depth d) → Apart (Opt f) z → Agrees (tokens d ++ z) one.front rest → ⊥)
      (λ z held apart agrees. on_by f z one.front rest all on one.split (apart_opt_many f z apart) agrees)
      (λ x z held apart agrees. one.never x z held (apart_opt f z apart) agrees);
}

pub exact_present : {a : Kind} {f : Form a} {all : List Token} {n : ℕ} {o : Outcome (Worth a)} → On f all → Exact n f all o → Exact n (Opt f) all (mapped Some o)
exact_present {f = f} {all = all} {n = n} {o = o} on one = record { holds = is_present f all n o on one.holds }

more_within : {a : Kind} {f : Form a} (d : Derivation a f) (e : Derivation (k.list a) (Many f)) (front : List Token) (n : ℕ) → depth d ≤ n → depth_to (length front) e ≤ n → depth_to (length (tokens d ++ front)) (more d e) ≤ n
more_within d e front n one two =
    let size : length (tokens d ++ front) ≡ length (tokens d) + length front = length-append (tokens d) front in
    let rest : length (tokens d ++ front) - length (tokens d) ≡ length front = omega arith in
    let below = depth_below (length (tokens d ++ front)) d in
    both_within (depth_to (length (tokens d ++ front)) d) (depth_to (length (tokens d ++ front) - length (tokens d)) e) n (omega arith) (subst (λ (m : ℕ). depth_to m e ≤ n) (sym rest) two)

more_deeper : {a : Kind} (f : Form a) (deep : Bool) (d : Derivation a f) (e : Derivation (k.list a) (Many f)) (front rest others : List Token) (n : ℕ) → Deeper deep n (Many f) front rest others e → Deeper deep n (Many f) (tokens d ++ front) rest others (more d e)
more_deeper f false d e front rest others n is = tt
more_deeper f true d e front rest others n is =
    let size : length (tokens d ++ front) ≡ length (tokens d) + length front = length-append (tokens d) front in
    let left' : length (tokens d ++ front) + 1 - length (tokens d) ≡ length front + 1 = omega arith in
    let at : n < depth_to (length (tokens d ++ front) + 1 - length (tokens d)) e = subst (λ (m : ℕ). n < depth_to m e) (sym left') is.5 in
    (is.0, is.1, is.2, is.3, is.4, omega arith)

is_more : {a : Kind} (f : Form a) (v : Worth a) (all mid : List Token) (n : ℕ) (o : Outcome (List (Worth a))) → Disjoint (continues f) (starts f) → On f all → Reads n f all v mid → IsExact n (Many f) mid o → IsExact n (Many f) all (mapped (λ vs. v ∷ vs) o)
is_more f v all mid n (read vs rest) disjoint on one two =
    let split : all ≡ (tokens one.way ++ tokens two.way) ++ rest = one.split ∙ ap (λ (x : List Token). tokens one.way ++ x) two.split ∙ sym (append_assoc (tokens one.way) (tokens two.way) rest) in
    record {
      way = more one.way two.way;
      split = split;
      gives = ap₂ (λ x y. x ∷ y) one.gives two.gives;
      within = both_within _ _ _ one.within two.within;
      only = at_many (λ d. (z : List Token) → Apart (Many f) z → Agrees (tokens d ++ z) (tokens one.way ++ tokens two.way) rest → (tokens d ≡ tokens one.way ++ tokens two.way) × (worth d ≡ v ∷ vs))
          (λ z apart agrees. absurd (on_by f z (tokens one.way ++ tokens two.way) rest all on split apart agrees))
          (λ x y z apart agrees.
          let here = parted {g = Many f} one (tokens two.way) rest two.split x (tokens y) z (apart_again f (tokens y) z disjoint (heads y) apart) agrees in
          let there = two.only y z apart here.then in
          (ap₂ (λ (x y : List Token). x ++ y) here.text there.0, ap₂ (λ x y. x ∷ y) here.gives there.1));
    }
is_more f v all mid n (failed deep rest) disjoint on one two =
    let split : all ≡ (tokens one.way ++ two.front) ++ rest = one.split ∙ ap (λ (x : List Token). tokens one.way ++ x) two.split ∙ sym (append_assoc (tokens one.way) two.front rest) in
    record {
      front = tokens one.way ++ two.front;
      split = split;
      way = more one.way two.way;
      more = two.more;
      begins_so = ap (λ (x : List Token). tokens one.way ++ x) two.begins_so ∙ sym (append_assoc (tokens one.way) two.front two.more);
      within = more_within one.way two.way two.front n one.within two.within;
      deeper = more_deeper f deep one.way two.way two.front rest two.more n two.deeper;
      never = at_many (λ d. (z : List Token) → Held deep n (depth d) → Apart (Many f) z → Agrees (tokens d ++ z) (tokens one.way ++ two.front) rest → ⊥)
          (λ z held apart agrees. on_by f z (tokens one.way ++ two.front) rest all on split apart agrees)
          (λ x y z held apart agrees.
          let here = parted {g = Many f} one two.front rest two.split x (tokens y) z (apart_again f (tokens y) z disjoint (heads y) apart) agrees in
          two.never y z (held_second deep n (depth x) (depth y) held) apart here.then);
    }

pub exact_more : {a : Kind} {f : Form a} {v : Worth a} {all mid : List Token} {n : ℕ} {o : Outcome (List (Worth a))} → Disjoint (continues f) (starts f) → On f all → Reads n f all v mid → Exact n (Many f) mid o → Exact n (Many f) all (mapped (λ vs. v ∷ vs) o)
exact_more {f = f} {v = v} {all = all} {mid = mid} {n = n} {o = o} disjoint on one two = record { holds = is_more f v all mid n o disjoint on one two.holds }

one_deeper : {a : Kind} (f : Form a) (deep : Bool) (d : Derivation a f) (front rest others : List Token) (n : ℕ) → Deeper deep n f front rest others d → Deeper deep n (Many f) front rest (others ++ []) (more d none)
one_deeper f false d front rest others n is = tt
one_deeper f true d front rest others n is =
    let below = is.5 in
    (is.0, is.1, is.2 ++ [], is.3, ap (λ (x : List Token). x ++ []) is.4, omega arith)

pub exact_more_fails : {a : Kind} {f : Form a} {all rest : List Token} {n : ℕ} {deep : Bool} → Disjoint (continues f) (starts f) → On f all → Exact n f all (failed deep rest) → Exact n (Many f) all (failed deep rest)
exact_more_fails {f = f} {all = all} {rest = rest} {n = n} {deep = deep} disjoint on there = let one = there.holds in record {
  holds = record {
    front = one.front;
    split = one.split;
    way = more one.way none;
    more = one.more ++ [];
    begins_so = ap (λ (x : List Token). x ++ []) one.begins_so ∙ append_assoc one.front one.more [];
    within = let below = one.within in omega arith;
    deeper = one_deeper f deep one.way one.front rest one.more n one.deeper;
    never = at_many (λ d. (z : List Token) → Held deep n (depth d) → Apart (Many f) z → Agrees (tokens d ++ z) one.front rest → ⊥)
        (λ z held apart agrees. on_by f z one.front rest all on one.split apart agrees)
        (λ x y z held apart agrees. one.never x (tokens y ++ z) (held_first deep n (depth x) (depth y) held) (apart_again f (tokens y) z disjoint (heads y) apart)
        (subst (λ (t : List Token). Agrees t one.front rest) (append_assoc (tokens x) (tokens y) z) agrees));
  };
}

agrees_tail : (u t : Token) (y front rest : List Token) → Agrees (u ∷ y) (t ∷ front) rest → Agrees y front rest
agrees_tail u t y front [] is = cc
agrees_tail u t y front (r ∷ rest) is = (is.0, let same = is.1 in cc)

apart_nest : {a : Kind} (p : Class → Bool) (f : Form a) (z : List Token) → Apart (Nest p f) z → Apart f z
apart_nest p f [] apart = tt
apart_nest p f (t ∷ z) apart = apart

held_inner : (deep : Bool) (n x : ℕ) → 0 < n → Held deep n (x + 1) → Held deep (n - 1) x
held_inner false n x some held = tt
held_inner true n x some held = omega arith

nest_deeper : {a : Kind} (p : Class → Bool) (f : Form a) (deep : Bool) (t : Token) (is : p t.class ≡ true) (d : Derivation a f) (front rest others : List Token) (n : ℕ) → 0 < n → Deeper deep (n - 1) f front rest others d → Deeper deep n (Nest p f) (t ∷ front) rest others (nest t is d)
nest_deeper p f false t is d front rest others n some below = tt
nest_deeper p f true t is d front rest others n some below =
    let count : length (t ∷ front) + 1 ≡ suc (length front + 1) = omega arith in
    let inner = below.5 in
    (below.0, below.1, below.2, below.3, below.4, subst (λ (m : ℕ). n < depth_to m (nest {p = p} {f = f} t is d)) (sym count) (omega arith))

is_nest : {a : Kind} (p : Class → Bool) (f : Form a) (t : Token) (ts : List Token) (n : ℕ) (o : Outcome (Worth a)) → 0 < n → p t.class ≡ true → IsExact (n - 1) f ts o → IsExact n (Nest p f) (t ∷ ts) (mapped (λ w. (t, w)) o)
is_nest {a = a} p f t ts n (read v rest) some is one = record {
  way = nest t is one.way;
  split = ap (λ (x : List Token). t ∷ x) one.split;
  gives = ap (λ w. (t, w)) one.gives;
  within = let below = one.within in omega arith;
  only = at_nest (λ d. (z : List Token) → Apart (Nest p f) z → Agrees (tokens d ++ z) (t ∷ tokens one.way) rest → (tokens d ≡ t ∷ tokens one.way) × ◌≡◌ {A = Token × Worth a} (worth d) (t, v))
      (λ u so x z apart agrees.
      let first = agrees_first u t (tokens x ++ z) (t ∷ tokens one.way) rest (tokens one.way ++ rest) refl agrees in
      let same = one.only x z (apart_nest p f z apart) (agrees_tail u t (tokens x ++ z) (tokens one.way) rest agrees) in
      (ap₂ (λ (x : Token) (y : List Token). x ∷ y) first same.0, ap₂ (λ x y. (x, y)) first same.1));
}
is_nest p f t ts n (failed deep rest) some is one = record {
  front = t ∷ one.front;
  split = ap (λ (x : List Token). t ∷ x) one.split;
  way = nest t is one.way;
  more = one.more;
  begins_so = ap (λ (x : List Token). t ∷ x) one.begins_so;
  within = let below = one.within in omega arith;
  deeper = nest_deeper p f deep t is one.way one.front rest one.more n some one.deeper;
  never = at_nest (λ d. (z : List Token) → Held deep n (depth d) → Apart (Nest p f) z → Agrees (tokens d ++ z) (t ∷ one.front) rest → ⊥)
      (λ u so x z held apart agrees. one.never x z (held_inner deep n (depth x) some held) (apart_nest p f z apart) (agrees_tail u t (tokens x ++ z) one.front rest agrees));
}

pub exact_nest : {a : Kind} {p : Class → Bool} {f : Form a} {ts : List Token} {n : ℕ} {o : Outcome (Worth a)} (t : Token) → 0 < n → p t.class ≡ true → Exact (n - 1) f ts o → Exact n (Nest p f) (t ∷ ts) (mapped (λ w. (t, w)) o)
exact_nest {p = p} {f = f} {ts = ts} {n = n} {o = o} t some is one = record { holds = is_nest p f t ts n o some is one.holds }

pub exact_deep : {a : Kind} {p : Class → Bool} {f : Form a} {n : ℕ} (t : Token) (ts : List Token) → Derivation a f → n ≡ 0 → p t.class ≡ true → Exact n (Nest p f) (t ∷ ts) (failed true (t ∷ ts))
exact_deep {p = p} {f = f} {n = n} t ts e none' is = record {
  holds = record {
    front = [];
    split = refl;
    way = nest t is e;
    more = t ∷ tokens e;
    begins_so = refl;
    within = omega arith;
    deeper = (t, ts, tokens e, refl, refl, omega arith);
    never = at_nest (λ d. (z : List Token) → Held true n (depth d) → Apart (Nest p f) z → Agrees (tokens d ++ z) [] (t ∷ ts) → ⊥)
        (λ u so x z held apart agrees. omega arith);
  };
}
