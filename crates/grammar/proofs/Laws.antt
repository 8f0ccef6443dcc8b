-- An exact answer of a form, from those of its parts.
use Rattle.std.proofs.Common.{◌≡◌, ℕ, ◌+◌, ◌-◌, ◌≤◌, ◌<◌, max, Bool, true, false, not, List, [], ◌∷◌, ◌++◌, length, refl, sym, ◌∙◌, ap, ap₂, subst, arith, append_assoc, length-append}
use Rattle.grammar.specs.Trees.{Token}
use Rattle.grammar.specs.Forms.{Kind, Worth, Rule, kind, Form, Tok, Seq, Alt, Map, Ref}
use Rattle.grammar.specs.Forms.{Kind as k}
use Rattle.grammar.specs.Rules.{rule, begins}
use Rattle.grammar.specs.Derivations.{Derivation, tok, seq, left, right, none, more, map, ref, tokens, worth, depth, depth_to}
use Rattle.grammar.specs.Reading.{IsExact, starts, continues, Apart, Agrees, Outcome, read, failed, mapped, Reads, Fails, Deeper, Held, Exact}
use Rattle.grammar.proofs.Heads.{heads, depth_none, depth_below, gone_on, or_not_first, or_not_second}
use Rattle.grammar.proofs.Opening.{at_seq, at_alt, at_map, at_ref}
use Rattle.grammar.proofs.Agreeing.{agrees_shorter, agrees_cancel, Off, off_by, apart_by, apart_second, Disjoint}

-- one after another: what agrees with both agrees with each
pub record Parted {a b : Kind} (f : Form a) (g : Form b) (front : List Token) (v : Worth a) (next rest : List Token) (d : Derivation a f) (e : List Token) (z : List Token) : Type 0 where
  pub text : tokens d ≡ front
  pub gives : worth d ≡ v
  pub then : Agrees (e ++ z) next rest

pub parted : {a b : Kind} {f : Form a} {g : Form b} {v : Worth a} {all mid : List Token} {n : ℕ} (one : Reads n f all v mid) (next rest : List Token) → mid ≡ next ++ rest
    → (d : Derivation a f) (e z : List Token) → Apart f (e ++ z) → Agrees (tokens d ++ e ++ z) (tokens one.way ++ next) rest → Parted f g (tokens one.way) v next rest d e z
parted {f = f} {mid = mid} one next rest split d e z apart agrees =
    let text : List Token = tokens d ++ (e ++ z) in
    let whole : Agrees text (tokens one.way ++ next) rest = subst (λ (t : List Token). Agrees t (tokens one.way ++ next) rest) (append_assoc (tokens d) e z) agrees in
    let short : Agrees text (tokens one.way) mid = subst (λ (m : List Token). Agrees text (tokens one.way) m) (sym split) (agrees_shorter text (tokens one.way) next rest whole) in
    let same = one.only d (e ++ z) apart short in
    record {
      text = same.0;
      gives = same.1;
      then = agrees_cancel (tokens one.way) (e ++ z) next rest (subst (λ (x : List Token). Agrees (x ++ (e ++ z)) (tokens one.way ++ next) rest) same.0 whole);
    }

seq_only : {a b : Kind} {f : Form a} {g : Form b} {v : Worth a} {w : Worth b} {all mid rest : List Token} {n : ℕ} → Disjoint (continues f) (starts g) → (one : Reads n f all v mid) (two : Reads n g mid w rest)
    → (d : Derivation a f) (e : Derivation b g) (z : List Token) → Apart (Seq f g) z → Agrees (tokens d ++ tokens e ++ z) (tokens one.way ++ tokens two.way) rest
    → (tokens d ++ tokens e ≡ tokens one.way ++ tokens two.way) × ◌≡◌ {A = Worth a × Worth b} (worth d, worth e) (v, w)
seq_only {f = f} {g = g} {rest = rest} disjoint one two d e z apart agrees =
    let here = parted {g = g} one (tokens two.way) rest two.split d (tokens e) z (apart_by f g (tokens e) z disjoint (heads e) apart) agrees in
    let there = two.only e z (apart_second f g z apart) here.then in
    (ap₂ (λ (x y : List Token). x ++ y) here.text there.0, ap₂ (λ x y. (x, y)) here.gives there.1)

pub both_within : (x y n : ℕ) → x ≤ n → y ≤ n → max x y ≤ n
both_within x y n one two = omega arith

pub seq_reads : {a b : Kind} {f : Form a} {g : Form b} {v : Worth a} {w : Worth b} {all mid rest : List Token} {n : ℕ} → Disjoint (continues f) (starts g) → Reads n f all v mid → Reads n g mid w rest → Reads n (Seq f g) all (v, w) rest
seq_reads {a = a} {b = b} {f = f} {g = g} {v = v} {w = w} {rest = rest} disjoint one two = record {
  way = seq one.way two.way;
  split = one.split ∙ ap (λ (x : List Token). tokens one.way ++ x) two.split ∙ sym (append_assoc (tokens one.way) (tokens two.way) rest);
  gives = ap₂ (λ x y. (x, y)) one.gives two.gives;
  within = both_within _ _ _ one.within two.within;
  only = at_seq (λ d. (z : List Token) → Apart (Seq f g) z → Agrees (tokens d ++ z) (tokens one.way ++ tokens two.way) rest → (tokens d ≡ tokens one.way ++ tokens two.way) × ◌≡◌ {A = Worth a × Worth b} (worth d) (v, w))
      (seq_only disjoint one two);
}

pub held_second : (deep : Bool) (n x y : ℕ) → Held deep n (max x y) → Held deep n y
held_second false n x y held = tt
held_second true n x y held = omega arith

pub held_first : (deep : Bool) (n x y : ℕ) → Held deep n (max x y) → Held deep n x
held_first false n x y held = tt
held_first true n x y held = omega arith

seq_never : {a b : Kind} {f : Form a} {g : Form b} {v : Worth a} {all mid rest : List Token} {n : ℕ} {deep : Bool} → Disjoint (continues f) (starts g) → (one : Reads n f all v mid) (two : Fails deep n g mid rest)
    → (d : Derivation a f) (e : Derivation b g) (z : List Token) → Held deep n (max (depth d) (depth e)) → Apart (Seq f g) z → Agrees (tokens d ++ tokens e ++ z) (tokens one.way ++ two.front) rest → ⊥
seq_never {f = f} {g = g} {rest = rest} {n = n} {deep = deep} disjoint one two d e z held apart agrees =
    let here = parted {g = g} one two.front rest two.split d (tokens e) z (apart_by f g (tokens e) z disjoint (heads e) apart) agrees in
    two.never e z (held_second deep n (depth d) (depth e) held) (apart_second f g z apart) here.then

minus_first : (x y : ℕ) → x + y - x ≡ y
minus_first x y = omega arith

pub second_within : {a b : Kind} {f : Form a} {g : Form b} (d : Derivation a f) (e : Derivation b g) (front : List Token) (n : ℕ) → depth d ≤ n → depth_to (length front) e ≤ n → depth_to (length (tokens d ++ front)) (seq d e) ≤ n
second_within d e front n one two =
    let size : length (tokens d ++ front) ≡ length (tokens d) + length front = length-append (tokens d) front in
    let rest : length (tokens d ++ front) - length (tokens d) ≡ length front = omega arith in
    let below = depth_below (length (tokens d ++ front)) d in
    both_within (depth_to (length (tokens d ++ front)) d) (depth_to (length (tokens d ++ front) - length (tokens d)) e) n (omega arith) (subst (λ (m : ℕ). depth_to m e ≤ n) (sym rest) two)

second_deeper : {a b : Kind} {f : Form a} {g : Form b} (deep : Bool) (d : Derivation a f) (e : Derivation b g) (front rest others : List Token) (n : ℕ) → Deeper deep n g front rest others e → Deeper deep n (Seq f g) (tokens d ++ front) rest others (seq d e)
second_deeper false d e front rest others n is = tt
second_deeper true d e front rest others n is =
    let size : length (tokens d ++ front) ≡ length (tokens d) + length front = length-append (tokens d) front in
    let left' : length (tokens d ++ front) + 1 - length (tokens d) ≡ length front + 1 = omega arith in
    let at : n < depth_to (length (tokens d ++ front) + 1 - length (tokens d)) e = subst (λ (m : ℕ). n < depth_to m e) (sym left') is.5 in
    (is.0, is.1, is.2, is.3, is.4, omega arith)

pub seq_second_fails : {a b : Kind} {f : Form a} {g : Form b} {v : Worth a} {all mid rest : List Token} {n : ℕ} {deep : Bool} → Disjoint (continues f) (starts g) → Reads n f all v mid → Fails deep n g mid rest → Fails deep n (Seq f g) all rest
seq_second_fails {f = f} {g = g} {rest = rest} {n = n} {deep = deep} disjoint one two = record {
  front = tokens one.way ++ two.front;
  split = one.split ∙ ap (λ (x : List Token). tokens one.way ++ x) two.split ∙ sym (append_assoc (tokens one.way) two.front rest);
  way = seq one.way two.way;
  more = two.more;
  begins_so = ap (λ (x : List Token). tokens one.way ++ x) two.begins_so ∙ sym (append_assoc (tokens one.way) two.front two.more);
  within = second_within one.way two.way two.front n one.within two.within;
  deeper = second_deeper deep one.way two.way two.front rest two.more n two.deeper;
  never = at_seq (λ d. (z : List Token) → Held deep n (depth d) → Apart (Seq f g) z → Agrees (tokens d ++ z) (tokens one.way ++ two.front) rest → ⊥) (seq_never disjoint one two);
}

is_exact_seq : {a b : Kind} {f : Form a} (g : Form b) {v : Worth a} {all mid : List Token} {n : ℕ} (o : Outcome (Worth b)) → Disjoint (continues f) (starts g) → Reads n f all v mid → IsExact n g mid o → IsExact n (Seq f g) all (mapped (λ w. (v, w)) o)
is_exact_seq g (read w rest) disjoint one two = seq_reads disjoint one two
is_exact_seq g (failed deep rest) disjoint one two = seq_second_fails disjoint one two

pub first_within : {a b : Kind} {f : Form a} {g : Form b} (d : Derivation a f) (e : Derivation b g) (front others : List Token) (n : ℕ) → tokens d ≡ front ++ others → depth_to (length front) d ≤ n → depth_to (length front) (seq d e) ≤ n
first_within d e front others n is one =
    let size : length (tokens d) ≡ length front + length others = ap (λ (x : List Token). length x) is ∙ length-append front others in
    let gone : length front - length (tokens d) ≡ 0 = omega arith in
    let nothing : depth_to (length front - length (tokens d)) e ≡ 0 = subst (λ (m : ℕ). depth_to m e ≡ 0) (sym gone) (depth_none e) in
    both_within (depth_to (length front) d) (depth_to (length front - length (tokens d)) e) n one (omega arith)

first_deeper : {a b : Kind} {f : Form a} {g : Form b} (deep : Bool) (d : Derivation a f) (e : Derivation b g) (front rest others : List Token) (n : ℕ) → Deeper deep n f front rest others d → Deeper deep n (Seq f g) front rest (others ++ tokens e) (seq d e)
first_deeper false d e front rest others n is = tt
first_deeper true d e front rest others n is =
    let below = is.5 in
    (is.0, is.1, is.2 ++ tokens e, is.3, ap (λ (x : List Token). x ++ tokens e) is.4, omega arith)

pub seq_first_fails : {a b : Kind} {f : Form a} {g : Form b} {all rest : List Token} {n : ℕ} {deep : Bool} → Disjoint (continues f) (starts g) → Derivation b g → Fails deep n f all rest → Fails deep n (Seq f g) all rest
seq_first_fails {f = f} {g = g} {rest = rest} {n = n} {deep = deep} disjoint e one = record {
  front = one.front;
  split = one.split;
  way = seq one.way e;
  more = one.more ++ tokens e;
  begins_so = ap (λ (x : List Token). x ++ tokens e) one.begins_so ∙ append_assoc one.front one.more (tokens e);
  within = first_within one.way e one.front one.more n one.begins_so one.within;
  deeper = first_deeper deep one.way e one.front rest one.more n one.deeper;
  never = at_seq (λ d. (z : List Token) → Held deep n (depth d) → Apart (Seq f g) z → Agrees (tokens d ++ z) one.front rest → ⊥)
      (λ x y z held apart agrees. one.never x (tokens y ++ z) (held_first deep n (depth x) (depth y) held) (apart_by f g (tokens y) z disjoint (heads y) apart)
      (subst (λ (t : List Token). Agrees t one.front rest) (append_assoc (tokens x) (tokens y) z) agrees));
}

apart_left : {a : Kind} (f g : Form a) (z : List Token) → Apart (Alt f g) z → Apart f z
apart_left f g [] apart = tt
apart_left f g (t ∷ z) apart = or_not_first _ _ apart

apart_right : {a : Kind} (f g : Form a) (z : List Token) → Apart (Alt f g) z → Apart g z
apart_right f g [] apart = tt
apart_right f g (t ∷ z) apart = or_not_second (continues f t.class) _ apart

left_deeper : {a : Kind} (f g : Form a) (deep : Bool) (d : Derivation a f) (front rest others : List Token) (n : ℕ) → Deeper deep n f front rest others d → Deeper deep n (Alt f g) front rest others (left d)
left_deeper f g false d front rest others n is = tt
left_deeper f g true d front rest others n is = is

is_exact_left : {a : Kind} (f g : Form a) (all : List Token) (n : ℕ) (o : Outcome (Worth a)) → Off g all → IsExact n f all o → IsExact n (Alt f g) all o
is_exact_left f g all n (read v rest) off one = record {
  way = left one.way;
  split = one.split;
  gives = one.gives;
  within = one.within;
  only = at_alt (λ d. (z : List Token) → Apart (Alt f g) z → Agrees (tokens d ++ z) (tokens one.way) rest → (tokens d ≡ tokens one.way) × (worth d ≡ v))
      (λ x z apart agrees. one.only x z (apart_left f g z apart) agrees)
      (λ y z apart agrees. absurd (off_by g (tokens y) z (tokens one.way) rest all off (heads y) one.split agrees));
}
is_exact_left f g all n (failed deep rest) off one = record {
  front = one.front;
  split = one.split;
  way = left one.way;
  more = one.more;
  begins_so = one.begins_so;
  within = one.within;
  deeper = left_deeper f g deep one.way one.front rest one.more n one.deeper;
  never = at_alt (λ d. (z : List Token) → Held deep n (depth d) → Apart (Alt f g) z → Agrees (tokens d ++ z) one.front rest → ⊥)
      (λ x z held apart agrees. one.never x z held (apart_left f g z apart) agrees)
      (λ y z held apart agrees. off_by g (tokens y) z one.front rest all off (heads y) one.split agrees);
}

right_deeper : {a : Kind} (f g : Form a) (deep : Bool) (d : Derivation a g) (front rest others : List Token) (n : ℕ) → Deeper deep n g front rest others d → Deeper deep n (Alt f g) front rest others (right d)
right_deeper f g false d front rest others n is = tt
right_deeper f g true d front rest others n is = is

is_exact_right : {a : Kind} (f g : Form a) (all : List Token) (n : ℕ) (o : Outcome (Worth a)) → Off f all → IsExact n g all o → IsExact n (Alt f g) all o
is_exact_right f g all n (read v rest) off one = record {
  way = right one.way;
  split = one.split;
  gives = one.gives;
  within = one.within;
  only = at_alt (λ d. (z : List Token) → Apart (Alt f g) z → Agrees (tokens d ++ z) (tokens one.way) rest → (tokens d ≡ tokens one.way) × (worth d ≡ v))
      (λ y z apart agrees. absurd (off_by f (tokens y) z (tokens one.way) rest all off (heads y) one.split agrees))
      (λ x z apart agrees. one.only x z (apart_right f g z apart) agrees);
}
is_exact_right f g all n (failed deep rest) off one = record {
  front = one.front;
  split = one.split;
  way = right one.way;
  more = one.more;
  begins_so = one.begins_so;
  within = one.within;
  deeper = right_deeper f g deep one.way one.front rest one.more n one.deeper;
  never = at_alt (λ d. (z : List Token) → Held deep n (depth d) → Apart (Alt f g) z → Agrees (tokens d ++ z) one.front rest → ⊥)
      (λ y z held apart agrees. off_by f (tokens y) z one.front rest all off (heads y) one.split agrees)
      (λ x z held apart agrees. one.never x z held (apart_right f g z apart) agrees);
}

map_deeper : (a b : Kind) (h : Worth a → Worth b) (f : Form a) (deep : Bool) (d : Derivation a f) (front rest others : List Token) (n : ℕ) → Deeper deep n f front rest others d → Deeper deep n (Map h f) front rest others (map d)
map_deeper a b h f false d front rest others n is = tt
map_deeper a b h f true d front rest others n is = is

apart_map : (a b : Kind) (h : Worth a → Worth b) (f : Form a) (z : List Token) → Apart (Map h f) z → Apart f z
apart_map a b h f [] apart = tt
apart_map a b h f (t ∷ z) apart = apart

is_exact_map : (a b : Kind) (h : Worth a → Worth b) (f : Form a) (all : List Token) (n : ℕ) (o : Outcome (Worth a)) → IsExact n f all o → IsExact n (Map h f) all (mapped h o)
is_exact_map a b h f all n (read v rest) one = record {
  way = map one.way;
  split = one.split;
  gives = ap h one.gives;
  within = one.within;
  only = at_map (λ d. (z : List Token) → Apart (Map h f) z → Agrees (tokens d ++ z) (tokens one.way) rest → (tokens d ≡ tokens one.way) × (worth d ≡ h v))
      (λ x z apart agrees. let same = one.only x z (apart_map a b h f z apart) agrees in (same.0, ap h same.1));
}
is_exact_map a b h f all n (failed deep rest) one = record {
  front = one.front;
  split = one.split;
  way = map one.way;
  more = one.more;
  begins_so = one.begins_so;
  within = one.within;
  deeper = map_deeper a b h f deep one.way one.front rest one.more n one.deeper;
  never = at_map (λ d. (z : List Token) → Held deep n (depth d) → Apart (Map h f) z → Agrees (tokens d ++ z) one.front rest → ⊥)
      (λ x z held apart agrees. one.never x z held (apart_map a b h f z apart) agrees);
}

ref_deeper : (m : Rule) (deep : Bool) (d : Derivation (kind m) (rule m)) (front rest others : List Token) (n : ℕ) → Deeper deep n (rule m) front rest others d → Deeper deep n (Ref m) front rest others (ref d)
ref_deeper m false d front rest others n is = tt
ref_deeper m true d front rest others n is = is

not_so : (x y : Bool) → (x ≡ true → y ≡ true) → y ≡ false → x ≡ false
not_so true y so is = sym (so refl) ∙ is
not_so false y so is = refl

apart_ref : (m : Rule) (z : List Token) → Apart (Ref m) z → Apart (rule m) z
apart_ref m [] apart = tt
apart_ref m (t ∷ z) apart = not_so _ _ (gone_on m t.class) apart

is_exact_ref : (m : Rule) (all : List Token) (n : ℕ) (o : Outcome (Worth (kind m))) → IsExact n (rule m) all o → IsExact n (Ref m) all o
is_exact_ref m all n (read v rest) one = record {
  way = ref one.way;
  split = one.split;
  gives = one.gives;
  within = one.within;
  only = at_ref (λ d. (z : List Token) → Apart (Ref m) z → Agrees (tokens d ++ z) (tokens one.way) rest → (tokens d ≡ tokens one.way) × (worth d ≡ v))
      (λ x z apart agrees. one.only x z (apart_ref m z apart) agrees);
}
is_exact_ref m all n (failed deep rest) one = record {
  front = one.front;
  split = one.split;
  way = ref one.way;
  more = one.more;
  begins_so = one.begins_so;
  within = one.within;
  deeper = ref_deeper m deep one.way one.front rest one.more n one.deeper;
  never = at_ref (λ d. (z : List Token) → Held deep n (depth d) → Apart (Ref m) z → Agrees (tokens d ++ z) one.front rest → ⊥)
      (λ x z held apart agrees. one.never x z held (apart_ref m z apart) agrees);
}

pub exact_seq : {a b : Kind} {f : Form a} {g : Form b} {v : Worth a} {all mid : List Token} {n : ℕ} {o : Outcome (Worth b)} → Disjoint (continues f) (starts g) → Reads n f all v mid → Exact n g mid o → Exact n (Seq f g) all (mapped (λ w. (v, w)) o)
exact_seq {g = g} {o = o} disjoint one two = record { holds = is_exact_seq g o disjoint one two.holds }

pub exact_seq_fails : {a b : Kind} {f : Form a} {g : Form b} {all rest : List Token} {n : ℕ} {deep : Bool} → Disjoint (continues f) (starts g) → Derivation b g → Exact n f all (failed deep rest) → Exact n (Seq f g) all (failed deep rest)
exact_seq_fails disjoint e one = record { holds = seq_first_fails disjoint e one.holds }

pub exact_left : {a : Kind} {f g : Form a} {all : List Token} {n : ℕ} {o : Outcome (Worth a)} → Off g all → Exact n f all o → Exact n (Alt f g) all o
exact_left {f = f} {g = g} {all = all} {n = n} {o = o} off one = record { holds = is_exact_left f g all n o off one.holds }

pub exact_right : {a : Kind} {f g : Form a} {all : List Token} {n : ℕ} {o : Outcome (Worth a)} → Off f all → Exact n g all o → Exact n (Alt f g) all o
exact_right {f = f} {g = g} {all = all} {n = n} {o = o} off one = record { holds = is_exact_right f g all n o off one.holds }

pub exact_map : {a b : Kind} (h : Worth a → Worth b) {f : Form a} {all : List Token} {n : ℕ} {o : Outcome (Worth a)} → Exact n f all o → Exact n (Map {a = a} {b = b} h f) all (mapped h o)
exact_map {a = a} {b = b} h {f = f} {all = all} {n = n} {o = o} one = record { holds = is_exact_map a b h f all n o one.holds }

pub exact_ref : {m : Rule} {all : List Token} {n : ℕ} {o : Outcome (Worth (kind m))} → Exact n (rule m) all o → Exact n (Ref m) all o
exact_ref {m = m} {all = all} {n = n} {o = o} one = record { holds = is_exact_ref m all n o one.holds }
