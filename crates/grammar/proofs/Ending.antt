-- From exact answers to whole lists of tokens.
use Rattle.std.proofs.Common.{◌≡◌, ℕ, ◌+◌, ◌≤◌, Bool, true, false, List, [], ◌∷◌, ◌++◌, sym, ◌∙◌, ap, append_assoc, append-nil}
use Rattle.std.proofs.lemmas.List.{append_cancel_left}
use Rattle.grammar.specs.Trees.{Token}
use Rattle.grammar.specs.Forms.{Kind, Worth, Form}
use Rattle.grammar.specs.Derivations.{tokens, worth, depth}
use Rattle.grammar.specs.Reading.{Agrees, Outcome, read, failed, Reads, Fails, Held, Exact, IsExact}
use Rattle.grammar.specs.Whole.{Derives, NoneNext, IsSyntax, IsTooDeep}
use Rattle.grammar.proofs.Agreeing.{no_empty}

pub whole_ok : {a : Kind} (f : Form a) (n : ℕ) (all : List Token) (v : Worth a) → Reads n f all v [] → Derives n f all v
whole_ok f n all v one = (one.way, sym (append-nil (tokens one.way)) ∙ sym one.split, one.gives, one.within)

-- all the tokens agree with any front of theirs
agrees_all : (text front rest all : List Token) → text ≡ all → all ≡ front ++ rest → Agrees (text ++ []) front rest
agrees_all text front [] all is split = append-nil text ∙ is ∙ split ∙ append-nil front
agrees_all text front (t ∷ rest) all is split = (rest, append-nil text ∙ is ∙ split)

held_by : (deep : Bool) (n x : ℕ) → x ≤ n → Held deep n x
held_by false n x is = tt
held_by true n x is = is

-- what derives is what was read
pub whole_only : {a : Kind} (f : Form a) (n : ℕ) (all : List Token) (o : Outcome (Worth a)) (v : Worth a) → IsExact n f all o → Derives n f all v → o ≡ read v []
whole_only f n all (read w rest) v one so =
    let same = one.only so.0 [] tt (agrees_all (tokens so.0) (tokens one.way) rest all so.1 one.split) in
    let none' : rest ≡ [] = append_cancel_left (tokens one.way) rest [] (sym one.split ∙ sym so.1 ∙ same.0 ∙ sym (append-nil (tokens one.way))) in
    ap (λ x. read x rest) (sym same.1 ∙ so.2) ∙ ap (λ (x : List Token). read v x) none'
whole_only f n all (failed deep rest) v one so = absurd (one.never so.0 [] (held_by deep n (depth so.0) so.3) tt (agrees_all (tokens so.0) one.front rest all so.1 one.split))

none_next : {a : Kind} (f : Form a) (n : ℕ) (all rest : List Token) (one : Fails false n f all rest) → NoneNext f one.front rest
none_next f n all [] one = λ d is. one.never d [] tt tt (append-nil (tokens d) ∙ is)
none_next f n all (t ∷ rest) one = λ so. one.never so.0 [] tt tt (so.1, append-nil (tokens so.0) ∙ so.2 ∙ append_assoc one.front (t ∷ []) so.1)

pub whole_syntax : {a : Kind} (f : Form a) (n : ℕ) (all rest : List Token) → Fails false n f all rest → IsSyntax f all rest
whole_syntax f n all rest one = (one.front, one.split, (one.way, one.more, one.begins_so), none_next f n all rest one)

longer : (front : List Token) (t : Token) (more : List Token) → front ++ (t ∷ more) ≡ front → ⊥
longer front t more is = no_empty t more (append_cancel_left front (t ∷ more) [] (is ∙ sym (append-nil front)))

pub whole_left : {a : Kind} (f : Form a) (n : ℕ) (all : List Token) (v : Worth a) (t : Token) (rest : List Token) → Reads n f all v (t ∷ rest) → IsSyntax f all (t ∷ rest)
whole_left f n all v t rest one = (
  tokens one.way,
  one.split,
  (one.way, [], sym (append-nil (tokens one.way))),
  λ so.
      let text : tokens so.0 ≡ tokens one.way ++ (t ∷ so.1) = so.2 ∙ append_assoc (tokens one.way) (t ∷ []) so.1 in
      let same = one.only so.0 [] tt (so.1, append-nil (tokens so.0) ∙ text) in
      longer (tokens one.way) t so.1 (sym text ∙ same.0),
)

pub whole_deep : {a : Kind} (f : Form a) (n : ℕ) (all rest : List Token) → Fails true n f all rest → IsTooDeep n f all rest
whole_deep f n all rest one =
    let at = one.deeper in
    (one.front, at.0, at.1, one.way, at.2, at.3, one.split, one.begins_so ∙ ap (λ (x : List Token). one.front ++ x) at.4, one.within, at.5)

worth_same : {A : Type 0} (v w : A) → read v [] ≡ read w [] → v ≡ w
worth_same v w is = ap (λ o. elim o [ read x rest ↦ x | failed deep rest ↦ v ]) is

-- one tree for a list of tokens
pub one_tree : {a : Kind} (f : Form a) (n : ℕ) (all : List Token) (o : Outcome (Worth a)) (v w : Worth a) → IsExact n f all o → Derives n f all v → Derives n f all w → v ≡ w
one_tree {a = a} f n all o v w one x y = worth_same v w (sym (whole_only f n all o v one x) ∙ whole_only f n all o w one y)
