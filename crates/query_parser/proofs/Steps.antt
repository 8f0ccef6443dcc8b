-- Small steps that many readers take.
use Rattle.std.proofs.Common.{◌≡◌, ℕ, ◌<◌, Bool, true, false, ◌||◌, not, ◌&&◌, List, [], ◌∷◌, ◌++◌, length, map, Some, None, refl, sym, ◌∙◌, ap, subst, append_assoc}
use Rattle.std.proofs.lemmas.List.{length-map}
use Rattle.grammar.specs.declared.Class.{Class}
use Rattle.grammar.specs.declared.Class.TheVariants as class
use Rattle.grammar.specs.Classes.{is_a}
use Rattle.grammar.specs.Trees.{Token, Tree, word_of, listed, trees_of, call_of}
use Rattle.grammar.specs.Trees.{Tree as tree}
use Rattle.grammar.specs.Forms.{Kind, Worth, Form, Opt, is_nullable}
use Rattle.grammar.specs.Reading.{heads_by, starts, Reads}
use Rattle.grammar.specs.Rules.{is_counting}
use Rattle.grammar.proofs.Classes.{at_each}
use Rattle.grammar.proofs.Heads.{apart_of}
use Rattle.grammar.proofs.Answering.{read_shorter, reads_absent}
use Rattle.grammar.proofs.Choosing.{Within}
use Rattle.query_lexer.specs.declared.token.Token.{Token as RealToken}
use Rattle.query_tree.specs.Tokens.{seen}

pub reads_as : {b : Kind} {f : Form b} {n : ℕ} {all rest : List Token} {v w : Worth b} → v ≡ w → Reads n f all v rest → Reads n f all w rest
reads_as {f = f} {n = n} {all = all} {rest = rest} same one = subst (λ x. Reads n f all x rest) same one

pub pushed : {A : Type 0} (old new : List A) (v : A) → new ≡ old ++ (v ∷ []) → (vs : List A) → old ++ (v ∷ vs) ≡ new ++ vs
pushed old new v made vs = sym (append_assoc old (v ∷ []) vs) ∙ ap (λ l. l ++ vs) (sym made)

pub seen_shorter : {b : Kind} {f : Form b} {n : ℕ} {v : Worth b} (all rest : List RealToken) → is_nullable f ≡ false → Reads n f (map seen all) v (map seen rest) → length rest < length all
seen_shorter all rest filled one = rw (sym (length-map rest seen), sym (length-map all seen)) (read_shorter filled one)

neither : (a b : Bool) → a ≡ false → b ≡ false → (a || b) ≡ false
neither true b one two = one
neither false b one two = two

pub heads_neither : (p q : Class → Bool) (all : List Token) → heads_by p all ≡ false → heads_by q all ≡ false → heads_by (λ k. p k || q k) all ≡ false
heads_neither p q [] one two = refl
heads_neither p q (t ∷ ts) one two = neither _ _ one two

-- COUNT and PROPCOUNT are no TIMESTAMP
not_stamp : (k : Class) → is_counting k ≡ true → is_a class.Timestamp k ≡ false
not_stamp k is = apart_of _ _ (at_each (λ k. not (is_a class.Timestamp k && is_counting k)) refl k) is

pub counting_call : (t : Token) (es : List Tree) → is_counting t.class ≡ true → word_of t (Some (listed es)) ≡ tree.Call t.at t.name (trees_of es)
counting_call t es is = ap (λ b. call_of b t es) (not_stamp t.class is)

pub reads_neither : {b : Kind} {f : Form b} {n : ℕ} {all : List Token} (p q : Class → Bool) → Within (starts f) (λ k. p k || q k) → is_nullable f ≡ false → heads_by p all ≡ false → heads_by q all ≡ false → Reads n (Opt f) all None all
reads_neither {all = all} p q within filled one two = reads_absent (λ k. p k || q k) within filled (heads_neither p q all one two)
