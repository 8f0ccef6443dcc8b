-- Conditions and the subqueries read in them, joined.
use Rattle.std.proofs.Common.{◌≡◌, ℕ, zero, suc, ◌+◌, Bool, true, false, List, [], ◌∷◌, ◌++◌, length, drop, map, Option, Some, None, option_map, Result, Ok, Err, refl, sym, ◌∙◌, ap, ap₂, subst, arith, append_assoc, append-nil, length-append}
use Rattle.std.proofs.lemmas.Bool.{false≢true}
use Rattle.std.proofs.lemmas.List.{map-append}
use Rattle.grammar.specs.Trees as model
use Rattle.grammar.specs.Forms.{Kind, Worth, Form, Ref}
use Rattle.grammar.specs.Forms.{Kind as kind}
use Rattle.grammar.specs.Forms.{Rule as rule}
use Rattle.grammar.specs.declared.Class.TheVariants as class
use Rattle.grammar.specs.Rules.{a}
use Rattle.grammar.proofs.Agreeing.{Disjoint}
use Rattle.grammar.specs.Reading.{Reads, starts, continues}
use Rattle.query_lexer.specs.declared.token.Token.{Token}
use Rattle.query_tree.specs.Tokens.{seen}
use Rattle.query_parser.specs.Answers.{Stopped}
use Rattle.query_parser.specs.declared.fault.Stop.{Stop}
use Rattle.grammar.specs.Trees.{Test as test}
use Rattle.query_tree.specs.declared.condition.Cond.{Cond}
use Rattle.query_tree.specs.declared.query.Query.{Query}
use Rattle.query_tree.specs.Views.{test_of, query_of, numbers_in}
use Rattle.query_parser.specs.declared.tail.Values.{Values}
use Rattle.query_parser.specs.declared.tail.Values.TheVariants as v
use Rattle.query_parser.specs.declared.tail.Range.{Range}
use Rattle.query_parser.specs.declared.tail.Range.TheVariants as r
use Rattle.query_parser.specs.declared.tail.Tail.{Tail}
use Rattle.query_parser.specs.declared.tail.Tail.TheVariants as t
use Rattle.query_parser.specs.Conditions.{Asks, asked_between, condition_with, conditions_with, count_from, Grown, set_of, range_of, tail_of, numbers_in_values, numbers_in_range, numbers_in_tail, tested, tested_range, tested_in, first_asked}

drop_front : {A : Type 0} (xs ys : List A) → drop (length xs) (xs ++ ys) ≡ ys
drop_front [] ys = refl
drop_front (x ∷ xs) ys = drop_front xs ys

-- what came is what was added
pub between_is : (old new added : List Query) → new ≡ old ++ added → asked_between old new ≡ map query_of added
between_is old new added grown = ap (λ (l : List Query). map query_of (drop (length old) l)) grown ∙ ap (λ (l : List Query). map query_of l) (drop_front old added)

pub between_none : (old : List Query) → asked_between old old ≡ []
between_none old = between_is old old [] (sym (append-nil old))

count_both : (n k m : ℕ) → count_from n k ++ count_from (n + k) m ≡ count_from n (k + m)
count_both n zero m = let one : n + 0 ≡ n = omega arith in let two : 0 + m ≡ m = omega arith in rw (one, two) refl
count_both n (suc k) m =
    let one : n + suc k ≡ suc n + k = omega arith in
    let two : suc k + m ≡ suc (k + m) = omega arith in
    rw (one, two) (ap (λ (l : List ℕ). n ∷ l) (count_both (suc n) k m))

pub grown_none : (asks : Bool) (old : List Query) → Grown asks old old []
grown_none asks old = record { added = []; grown = sym (append-nil old); numbered = refl; plain = λ is. refl }

pub grown_as : {asks : Bool} {old new : List Query} {ms ns : List ℕ} → ns ≡ ms → Grown asks old new ms → Grown asks old new ns
grown_as {asks = asks} {old = old} {new = new} same one = subst (λ (l : List ℕ). Grown asks old new l) (sym same) one

all_grown : {asks : Bool} {old mid new : List Query} {ms ns : List ℕ} (one : Grown asks old mid ms) (two : Grown asks mid new ns) → new ≡ old ++ (one.added ++ two.added)
all_grown {old = old} one two = two.grown ∙ ap (λ (l : List Query). l ++ two.added) one.grown ∙ append_assoc old one.added two.added

pub grown_both : {asks : Bool} {old mid new : List Query} {ms ns : List ℕ} → Grown asks old mid ms → Grown asks mid new ns → Grown asks old new (ms ++ ns)
grown_both {asks = asks} {old = old} {mid = mid} {new = new} {ms = ms} {ns = ns} one two =
    let size : length mid ≡ length old + length one.added = ap (λ (l : List Query). length l) one.grown ∙ length-append old one.added in
    let sum : length (one.added ++ two.added) ≡ length one.added + length two.added = length-append one.added two.added in
    record {
      added = one.added ++ two.added;
      grown = all_grown one two;
      numbered = ap₂ (λ (a b : List ℕ). a ++ b) one.numbered (two.numbered ∙ ap (λ (n : ℕ). count_from n (length two.added)) size) ∙ count_both (length old) (length one.added) (length two.added) ∙ ap (λ (n : ℕ). count_from (length old) n) (sym sum);
      plain = λ is. rw (one.plain is, two.plain is) refl;
    }

pub between_both : {asks : Bool} {old mid new : List Query} {ms ns : List ℕ} → Grown asks old mid ms → Grown asks mid new ns → asked_between old mid ++ asked_between mid new ≡ asked_between old new
between_both {old = old} {mid = mid} {new = new} one two =
    ap₂ (λ (a b : List model.Query). a ++ b) (between_is old mid one.added one.grown) (between_is mid new two.added two.grown) ∙ sym (map-append query_of one.added two.added) ∙ sym (between_is old new (one.added ++ two.added) (all_grown one two))

pub and_made : {asks : Bool} {old mid new : List Query} {ms ns : List ℕ} (a b c : Cond) → Grown asks old mid ms → Grown asks mid new ns → test_of c ≡ test.And (model.test_place (test_of a)) (test_of a) (test_of b)
    → model.and_both (condition_with a (asked_between old mid)) (condition_with b (asked_between mid new)) ≡ condition_with c (asked_between old new)
and_made a b c one two is = ap₂ (λ (x : model.Test) (y : List model.Query). record { test = x; asked = y }) (sym is) (between_both one two)

pub or_made : {asks : Bool} {old mid new : List Query} {ms ns : List ℕ} (a b c : Cond) → Grown asks old mid ms → Grown asks mid new ns → test_of c ≡ test.Or (model.test_place (test_of a)) (test_of a) (test_of b)
    → model.or_both (condition_with a (asked_between old mid)) (condition_with b (asked_between mid new)) ≡ condition_with c (asked_between old new)
or_made a b c one two is = ap₂ (λ (x : model.Test) (y : List model.Query). record { test = x; asked = y }) (sym is) (between_both one two)

-- no numbers, no subqueries; one number, one subquery
none_counted : (n k : ℕ) → [] ≡ count_from n k → k ≡ 0
none_counted n zero is = refl
none_counted n (suc k) is = cc

one_counted : (m n k : ℕ) → m ∷ [] ≡ count_from n k → k ≡ 1
one_counted m n zero is = cc
one_counted m n (suc zero) is = refl
one_counted m n (suc (suc k)) is = cc

not-suc : (n : ℕ) → suc n ≡ 0 → ⊥
not-suc n is = omega arith

not-more : (n : ℕ) → suc (suc n) ≡ 1 → ⊥
not-more n is = omega arith

not-none : ◌≡◌ {A = ℕ} 0 1 → ⊥
not-none is = omega arith

no_items : {A : Type 0} (xs : List A) → length xs ≡ 0 → xs ≡ []
no_items [] is = refl
no_items (x ∷ xs) is = absurd (not-suc (length xs) is)

pub plain_between : {asks : Bool} {old new : List Query} → Grown asks old new [] → asked_between old new ≡ []
plain_between {old = old} {new = new} one = between_is old new one.added one.grown ∙ ap (λ (l : List Query). map query_of l) (no_items one.added (none_counted _ _ one.numbered))

single_of : (added : List Query) → length added ≡ 1 → (q : model.Query) × (map query_of added ≡ q ∷ [])
single_of [] is = absurd (not-none is)
single_of (q ∷ []) is = (query_of q, refl)
single_of (q ∷ p ∷ ps) is = absurd (not-more (length ps) is)

pub single_between : {asks : Bool} {old new : List Query} (n : ℕ) → Grown asks old new (n ∷ []) → (q : model.Query) × (asked_between old new ≡ q ∷ [])
single_between {old = old} {new = new} n one =
    let s = single_of one.added (one_counted _ _ _ one.numbered) in
    (s.0, between_is old new one.added one.grown ∙ s.1)

none_made : (x : model.Test) (qs : List model.Query) → qs ≡ [] → ◌≡◌ {A = model.Condition} (record { test = x; asked = qs }) (record { test = x; asked = [] })
none_made x qs is = ap (λ (l : List model.Query). record { test = x; asked = l }) is

one_made : (e : model.Tree) (neg : Bool) (x : model.Test) (qs : List model.Query) (q : model.Query) → x ≡ test.InQuery (model.place_of e) e neg None → qs ≡ q ∷ []
    → ◌≡◌ {A = model.Condition} (record { test = x; asked = qs }) (model.range_test e neg (model.within (first_asked qs)))
one_made e neg x qs q same is = rw (same, is) refl

values_made : (asks : Bool) (old new : List Query) (e : model.Tree) (neg : Bool) (v : Values) → Grown asks old new (numbers_in_values v)
    → ◌≡◌ {A = model.Condition} (record { test = tested_in e neg v; asked = asked_between old new }) (model.range_test e neg (model.within (set_of v (asked_between old new))))
values_made asks old new e neg (v.Listed es) one = none_made _ _ (plain_between one)
values_made asks old new e neg (v.Asked n) one = let s = single_between n one in one_made e neg _ _ s.0 refl s.1

range_made : (asks : Bool) (old new : List Query) (e : model.Tree) (neg : Bool) (r : Range) → Grown asks old new (numbers_in_range r)
    → ◌≡◌ {A = model.Condition} (record { test = tested_range e neg r; asked = asked_between old new }) (model.range_test e neg (range_of r (asked_between old new)))
range_made asks old new e neg (r.Like p) one = none_made _ _ (plain_between one)
range_made asks old new e neg (r.Between b d) one = none_made _ _ (plain_between one)
range_made asks old new e neg (r.Within v) one = values_made asks old new e neg v one

-- a test of a value and a tail is their condition
pub tail_made : (asks : Bool) (old new : List Query) (e : model.Tree) (t : Tail) → Grown asks old new (numbers_in_tail t)
    → ◌≡◌ {A = model.Condition} (record { test = tested e t; asked = asked_between old new }) (model.test_of e (tail_of t (asked_between old new)))
tail_made asks old new e (t.Compared how b) one = none_made _ _ (plain_between one)
tail_made asks old new e (t.Null neg) one = none_made _ _ (plain_between one)
tail_made asks old new e (t.Ranged neg r) one = range_made asks old new e neg r one

-- one more subquery
pub grown_one : (old new : List Query) (q : Query) → new ≡ old ++ (q ∷ []) → Grown true old new (length old ∷ [])
grown_one old new q is = record { added = q ∷ []; grown = is; numbered = refl; plain = λ no'. absurd (false≢true (sym no')) }

pub between_one : (old new : List Query) (q : Query) → new ≡ old ++ (q ∷ []) → asked_between old new ≡ query_of q ∷ []
between_one old new q is = between_is old new (q ∷ []) is

pub pushed_to : (old mid new : List Query) (q : Query) → mid ≡ old → new ≡ mid ++ (q ∷ []) → new ≡ old ++ (q ∷ [])
pushed_to old mid new q same is = is ∙ ap (λ (l : List Query). l ++ (q ∷ [])) same

-- what may not ask leaves the subqueries as they are
pub plain_same : {old new : List Query} {ns : List ℕ} → Grown false old new ns → new ≡ old
plain_same {old = old} one = one.grown ∙ ap (λ (l : List Query). old ++ l) (one.plain refl) ∙ append-nil old

pub tested_all : (old new : List Query) (o : Option Cond) → model.tested_of (conditions_with o (asked_between old new)) ≡ option_map test_of o
tested_all old new None = refl
tested_all old new (Some c) = refl

abbrev pub with_test : model.Test → List model.Query → model.Condition
with_test t qs = record { test = t; asked = qs }

-- a condition that is this test of a value
pub test_made : {asks : Bool} {old new : List Query} (y : Cond) (e : model.Tree) (t : Tail) → test_of y ≡ tested e t → Grown asks old new (numbers_in_tail t)
    → condition_with y (asked_between old new) ≡ model.test_of e (tail_of t (asked_between old new))
test_made {asks = asks} {old = old} {new = new} y e t same one = ap (λ (x : model.Test). with_test x (asked_between old new)) same ∙ tail_made asks old new e t one

pub asks_err : {b : Kind} {Y : Type 0} {asks : Bool} {n : ℕ} {f : Form b} {all rest : List Token} {old new : List Query} {view : Y → List model.Query → Worth b} {numbers : Y → List ℕ} {e : Stop}
    → Stopped n f (map seen all) e → Asks asks n f all rest old new view numbers (Err e)
asks_err one = record { is = one }

pub asks_ok : {b : Kind} {Y : Type 0} {asks : Bool} {n : ℕ} {f : Form b} {all rest : List Token} {old new : List Query} {view : Y → List model.Query → Worth b} {numbers : Y → List ℕ} {y : Y}
    → Reads n f (map seen all) (view y (asked_between old new)) (map seen rest) → Grown asks old new (numbers y) → Asks asks n f all rest old new view numbers (Ok y)
asks_ok one two = record { is = (one, two) }

pub asks_as : {b : Kind} {Y : Type 0} {asks : Bool} {n : ℕ} {f : Form b} {all rest : List Token} {old new : List Query} {view : Y → List model.Query → Worth b} {numbers : Y → List ℕ} {y : Y} {v : Worth b}
    → view y (asked_between old new) ≡ v → Reads n f (map seen all) v (map seen rest) → Grown asks old new (numbers y) → Asks asks n f all rest old new view numbers (Ok y)
asks_as {n = n} {f = f} {all = all} {rest = rest} same one two = record { is = (subst (λ x. Reads n f (map seen all) x (map seen rest)) (sym same) one, two) }

-- a condition that is this test
pub asks_test : {asks : Bool} {n : ℕ} {f : Form kind.condition} {all rest : List Token} {old new : List Query} {y : Cond} {t : model.Test}
    → test_of y ≡ t → Reads n f (map seen all) (with_test t (asked_between old new)) (map seen rest) → Grown asks old new (numbers_in y) → Asks asks n f all rest old new condition_with numbers_in (Ok y)
asks_test {old = old} {new = new} same one two = asks_as (ap (λ (x : model.Test). with_test x (asked_between old new)) same) one two

asks_by : {b : Kind} {Y : Type 0} (asks : Bool) (n : ℕ) (f g : Form b) (all rest : List Token) (old new : List Query) (view : Y → List model.Query → Worth b) (numbers : Y → List ℕ) (result : Result Y Stop)
    → ((v : Worth b) → Reads n f (map seen all) v (map seen rest) → Reads n g (map seen all) v (map seen rest)) → ((e : Stop) → Stopped n f (map seen all) e → Stopped n g (map seen all) e)
    → Asks asks n f all rest old new view numbers result → Asks asks n g all rest old new view numbers result
asks_by asks n f g all rest old new view numbers (Ok y) reads stops one = record { is = (reads _ one.is.0, one.is.1) }
asks_by asks n f g all rest old new view numbers (Err e) reads stops one = record { is = stops e one.is }

pub asks_same : {b : Kind} {Y : Type 0} {asks : Bool} {n : ℕ} {f g : Form b} {all rest : List Token} {old new : List Query} {view : Y → List model.Query → Worth b} {numbers : Y → List ℕ} {result : Result Y Stop}
    → ((v : Worth b) → Reads n f (map seen all) v (map seen rest) → Reads n g (map seen all) v (map seen rest)) → ((e : Stop) → Stopped n f (map seen all) e → Stopped n g (map seen all) e)
    → Asks asks n f all rest old new view numbers result → Asks asks n g all rest old new view numbers result
asks_same {asks = asks} {n = n} {f = f} {g = g} {all = all} {rest = rest} {old = old} {new = new} {view = view} {numbers = numbers} {result = result} reads stops one = asks_by asks n f g all rest old new view numbers result reads stops one

-- the rule of a set, by whether it may ask
pub asks_set : {Y : Type 0} {asks : Bool} {n : ℕ} {all rest : List Token} {old new : List Query} {view : Y → List model.Query → model.Set'} {numbers : Y → List ℕ} {result : Result Y Stop} (b : Bool) → asks ≡ b
    → Asks b n (Ref (rule.set_rule b)) all rest old new view numbers result → Asks asks n (Ref (rule.set_rule asks)) all rest old new view numbers result
asks_set {n = n} {all = all} {rest = rest} {old = old} {new = new} {view = view} {numbers = numbers} {result = result} b is one = subst (λ (x : Bool). Asks x n (Ref (rule.set_rule x)) all rest old new view numbers result) (sym is) one

-- what may not ask has no numbers
pub plain_numbers : {old new : List Query} {ns : List ℕ} → Grown false old new ns → ns ≡ []
plain_numbers {old = old} one = one.numbered ∙ ap (λ (l : List Query). count_from (length old) (length l)) (one.plain refl)

-- what goes on with a set doesn't close it
pub set_apart : (asks : Bool) → Disjoint (continues (Ref (rule.set_rule asks))) (starts (a class.Close))
set_apart true = refl
set_apart false = refl

pub tested_by : {asks : Bool} {old new : List Query} {ns : List ℕ} (o : Option Cond) → Grown asks old new ns → model.tested_of (conditions_with o (asked_between old new)) ≡ option_map test_of o
tested_by {old = old} {new = new} o one = tested_all old new o
