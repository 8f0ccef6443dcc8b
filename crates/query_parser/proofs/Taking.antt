-- Taking one token.
use Rattle.std.proofs.Common.{◌≡◌, ℕ, suc, Bool, true, false, List, [], ◌∷◌, length, map, refl, sym, subst, arith}
use Rattle.std.proofs.lemmas.List.{length-map}
use Rattle.grammar.specs.declared.Class.{Class}
use Rattle.grammar.specs.Classes.{is_a}
use Rattle.grammar.specs.Forms.{Kind, Form, Tok, Nest, can_be}
use Rattle.grammar.specs.Rules.{a, there}
use Rattle.grammar.specs.Reading.{heads_by, Reads}
use Rattle.grammar.proofs.Repeating.{exact_off, exact_tok}
use Rattle.grammar.proofs.Classes.{some_class}
use Rattle.grammar.proofs.Heads.{and_true}
use Rattle.grammar.proofs.Answering.{witness, reads_map, reads_present, reads_absent}
use Rattle.grammar.proofs.Choosing.{nest_deep, within_self}
use Rattle.query_lexer.specs.declared.token.Token.{Token as RealToken}
use Rattle.query_tree.specs.Tokens.{seen}
use Rattle.query_parser.specs.Answers.{Stopped}
use Rattle.query_parser.specs.Sorts.{in_sort}
use Rattle.query_parser.specs.declared.token.Sort.{Sort}
use Rattle.query_parser.specs.declared.token.Sort.TheVariants as s
use Rattle.query_parser.specs.declared.fault.Stop.TheVariants as stop

pub take_reads : (n : ℕ) (p : Class → Bool) (all rest : List RealToken) (t : RealToken) → all ≡ t ∷ rest → p (seen t).class ≡ true → Reads n (Tok p) (map seen all) (seen t) (map seen rest)
take_reads n p all rest t split is = subst (λ (x : List RealToken). Reads n (Tok p) (map seen x) (seen t) (map seen rest)) (sym split) (exact_tok (seen t) (map seen rest) is).holds

-- another token stands there, or none
pub take_stops : {a : Kind} (n : ℕ) (p : Class → Bool) (f : Form a) (all rest : List RealToken) (t : RealToken) → can_be (Nest p f) ≡ true → all ≡ t ∷ rest → p (seen t).class ≡ false → Stopped n (Nest p f) (map seen all) (stop.Syntax (length all))
take_stops n p f all rest t some split is = subst (λ (x : List RealToken). Stopped n (Nest p f) (map seen x) (stop.Syntax (length x))) (sym split) (record {
  is = record {
    rest = map seen (t ∷ rest);
    count_is = length-map (t ∷ rest) seen;
    exact = exact_off (witness (Nest p f) some) (refl, is);
  };
})

not-suc : (n : ℕ) → suc n ≡ 0 → ⊥
not-suc n is = omega arith

no_length : (all : List RealToken) → length all ≡ 0 → all ≡ []
no_length [] is = refl
no_length (t ∷ ts) is = absurd (not-suc (length ts) is)

pub take_ends : {a : Kind} (n : ℕ) (p : Class → Bool) (f : Form a) (all : List RealToken) → can_be (Nest p f) ≡ true → length all ≡ 0 → Stopped n (Nest p f) (map seen all) (stop.Syntax 0)
take_ends n p f all some is = subst (λ (x : List RealToken). Stopped n (Nest p f) (map seen x) (stop.Syntax 0)) (sym (no_length all is)) (record {
  is = record {
    rest = [];
    count_is = refl;
    exact = exact_off (witness (Nest p f) some) refl;
  };
})

pub tok_stops : (n : ℕ) (p : Class → Bool) (all rest : List RealToken) (t : RealToken) → can_be (Tok p) ≡ true → all ≡ t ∷ rest → p (seen t).class ≡ false → Stopped n (Tok p) (map seen all) (stop.Syntax (length all))
tok_stops n p all rest t some split is = subst (λ (x : List RealToken). Stopped n (Tok p) (map seen x) (stop.Syntax (length x))) (sym split) (record {
  is = record {
    rest = map seen (t ∷ rest);
    count_is = length-map (t ∷ rest) seen;
    exact = exact_off (witness (Tok p) some) (refl, is);
  };
})

pub tok_ends : (n : ℕ) (p : Class → Bool) (all : List RealToken) → can_be (Tok p) ≡ true → length all ≡ 0 → Stopped n (Tok p) (map seen all) (stop.Syntax 0)
tok_ends n p all some is = subst (λ (x : List RealToken). Stopped n (Tok p) (map seen x) (stop.Syntax 0)) (sym (no_length all is)) (record {
  is = record {
    rest = [];
    count_is = refl;
    exact = exact_off (witness (Tok p) some) refl;
  };
})

pub heads_is : (p : Class → Bool) (all rest : List RealToken) (t : RealToken) (b : Bool) → all ≡ t ∷ rest → p (seen t).class ≡ b → heads_by p (map seen all) ≡ b
heads_is p all rest t b split is = subst (λ (x : List RealToken). heads_by p (map seen x) ≡ b) (sym split) is

-- one level too deep at the opening token
pub open_deep : {a : Kind} (n : ℕ) (p : Class → Bool) (f : Form a) (all rest : List RealToken) (t : RealToken) → can_be f ≡ true → n ≡ 0 → all ≡ t ∷ rest → p (seen t).class ≡ true → Stopped n (Nest p f) (map seen all) (stop.TooDeep (length all))
open_deep n p f all rest t some none split is = record {
  is = record {
    rest = map seen all;
    count_is = length-map all seen;
    exact = nest_deep (witness f some) none (take_reads n p all rest t split is);
  };
}

pub any_sort : (sort : Sort) → can_be (Tok (in_sort sort)) ≡ true
any_sort s.Word = refl
any_sort s.Plain = refl
any_sort s.Counting = refl
any_sort s.Integer = refl
any_sort s.Separator = refl
any_sort s.Literal = refl
any_sort s.Expression = refl

pub any_nest : {b : Kind} (k : Class) (f : Form b) → can_be f ≡ true → can_be (Nest (is_a k) f) ≡ true
any_nest k f is = and_true _ _ (some_class k) is

pub skip_reads : (n : ℕ) (k : Class) (all rest : List RealToken) (t : RealToken) → all ≡ t ∷ rest → is_a k (seen t).class ≡ true → Reads n (there (a k)) (map seen all) true (map seen rest)
skip_reads n k all rest t split is = reads_map (reads_present (is_a k) (within_self (is_a k)) (heads_is (is_a k) all rest t true split is) (take_reads n (is_a k) all rest t split is))

pub skip_passes : (n : ℕ) (k : Class) (all : List RealToken) → heads_by (is_a k) (map seen all) ≡ false → Reads n (there (a k)) (map seen all) false (map seen all)
skip_passes n k all none = reads_map (reads_absent (is_a k) (within_self (is_a k)) refl none)

pub no_head : (p : Class → Bool) (all : List RealToken) → length all ≡ 0 → heads_by p (map seen all) ≡ false
no_head p all is = subst (λ (x : List RealToken). heads_by p (map seen x) ≡ false) (sym (no_length all is)) refl
