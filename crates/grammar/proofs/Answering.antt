-- What was read of a form, from what was read of its parts.
use Rattle.std.proofs.Common.{◌≡◌, ℕ, suc, ◌+◌, ◌-◌, ◌<◌, Bool, true, false, List, [], ◌∷◌, ◌++◌, length, pos, Some, None, refl, sym, ◌∙◌, ap, subst, arith, length-append}
use Rattle.std.proofs.lemmas.Bool.{false≢true}
use Rattle.grammar.specs.Classes.{Class, for_some}
use Rattle.grammar.specs.declared.Class.TheVariants as c
use Rattle.grammar.specs.Trees.{Token}
use Rattle.grammar.specs.Forms.{Kind, Worth, Rule, kind, Form, Tok, Seq, Alt, Many, Opt, Map, Nest, Ref, is_nullable, can_be}
use Rattle.grammar.specs.Forms.{Kind as k}
use Rattle.grammar.specs.Forms.{Rule as r}
use Rattle.grammar.specs.Rules.{a, behind, before, rule, is_word, expr, name, from, values}
use Rattle.grammar.specs.Derivations.{Derivation, tok, seq, left, right, none, absent, map, nest, ref, tokens}
use Rattle.grammar.specs.Reading.{starts, continues, heads_by, Outcome, read, failed, mapped, Reads, Exact}
use Rattle.grammar.proofs.Classes.{and_left, and_right, one_of}
use Rattle.grammar.proofs.Heads.{Heads, heads}
use Rattle.grammar.proofs.Agreeing.{Disjoint}
use Rattle.grammar.proofs.Laws.{seq_reads, exact_seq, exact_left, exact_right, exact_map, exact_ref}
use Rattle.grammar.proofs.Repeating.{exact_absent, exact_present, exact_none, exact_more}
use Rattle.grammar.proofs.Choosing.{Within, on_heads, off_heads, off_other, any, nest_read}

pub exact_of : {a : Kind} {f : Form a} {n : ℕ} {all rest : List Token} {v : Worth a} → Reads n f all v rest → Exact n f all (read v rest)
exact_of one = record { holds = one }

pub reads_map : {a b : Kind} {h : Worth a → Worth b} {f : Form a} {n : ℕ} {all rest : List Token} {v : Worth a} → Reads n f all v rest → Reads n (Map {a = a} {b = b} h f) all (h v) rest
reads_map {h = h} one = (exact_map h (exact_of one)).holds

pub reads_seq : {a b : Kind} {f : Form a} {g : Form b} {v : Worth a} {w : Worth b} {all mid rest : List Token} {n : ℕ} → Disjoint (continues f) (starts g) → Reads n f all v mid → Reads n g mid w rest → Reads n (Seq f g) all (v, w) rest
reads_seq apart one two = seq_reads apart one two

pub reads_behind : {a b : Kind} {f : Form a} {g : Form b} {v : Worth a} {w : Worth b} {all mid rest : List Token} {n : ℕ} → Disjoint (continues f) (starts g) → Reads n f all v mid → Reads n g mid w rest → Reads n (behind f g) all w rest
reads_behind apart one two = reads_map (seq_reads apart one two)

pub reads_before : {a b : Kind} {f : Form a} {g : Form b} {v : Worth a} {w : Worth b} {all mid rest : List Token} {n : ℕ} → Disjoint (continues f) (starts g) → Reads n f all v mid → Reads n g mid w rest → Reads n (before f g) all v rest
reads_before apart one two = reads_map (seq_reads apart one two)

-- the first of two, where the token begins it and not the second
pub reads_left : {a : Kind} {f g : Form a} {n : ℕ} {all rest : List Token} {v : Worth a} (p : Class → Bool) → Disjoint (starts g) p → is_nullable g ≡ false → heads_by p all ≡ true → Reads n f all v rest → Reads n (Alt f g) all v rest
reads_left {g = g} {all = all} p apart filled is one = (exact_left (off_other g p all apart filled is) (exact_of one)).holds

-- the second of two, where the token doesn't begin the first
pub reads_right : {a : Kind} {f g : Form a} {n : ℕ} {all rest : List Token} {v : Worth a} (p : Class → Bool) → Within (starts f) p → is_nullable f ≡ false → heads_by p all ≡ false → Reads n g all v rest → Reads n (Alt f g) all v rest
reads_right {f = f} {all = all} p within filled is one = (exact_right (off_heads f p all within filled is) (exact_of one)).holds

-- the first of two, where no token of the second stands there
pub reads_alt_left : {a : Kind} {f g : Form a} {n : ℕ} {all rest : List Token} {v : Worth a} (p : Class → Bool) → Within (starts g) p → is_nullable g ≡ false → heads_by p all ≡ false → Reads n f all v rest → Reads n (Alt f g) all v rest
reads_alt_left {g = g} {all = all} p within filled is one = (exact_left (off_heads g p all within filled is) (exact_of one)).holds

-- the second of two, where a token stands there that begins it and not the first
pub reads_alt_right : {a : Kind} {f g : Form a} {n : ℕ} {all rest : List Token} {v : Worth a} (p : Class → Bool) → Disjoint (starts f) p → is_nullable f ≡ false → heads_by p all ≡ true → Reads n g all v rest → Reads n (Alt f g) all v rest
reads_alt_right {f = f} {all = all} p apart filled is one = (exact_right (off_other f p all apart filled is) (exact_of one)).holds

pub reads_absent : {a : Kind} {f : Form a} {n : ℕ} {all : List Token} (p : Class → Bool) → Within (starts f) p → is_nullable f ≡ false → heads_by p all ≡ false → Reads n (Opt f) all None all
reads_absent {f = f} {all = all} p within filled is = (exact_absent (off_heads f p all within filled is)).holds

pub reads_present : {a : Kind} {f : Form a} {n : ℕ} {all rest : List Token} {v : Worth a} (p : Class → Bool) → Within p (starts f) → heads_by p all ≡ true → Reads n f all v rest → Reads n (Opt f) all (Some v) rest
reads_present {f = f} {all = all} p within is one = (exact_present (on_heads f p all within is) (exact_of one)).holds

pub reads_nest : {a : Kind} {p : Class → Bool} {f : Form a} {all mid rest : List Token} {t : Token} {v : Worth a} {n : ℕ} → 0 < n → Reads n (Tok p) all t mid → Reads (n - 1) f mid v rest → Reads n (Nest p f) all (t, v) rest
reads_nest some one two = (nest_read some one (exact_of two)).holds

pub reads_ref : {m : Rule} {n : ℕ} {all rest : List Token} {v : Worth (kind m)} → Reads n (rule m) all v rest → Reads n (Ref m) all v rest
reads_ref {m = m} one = (exact_ref {m = m} (exact_of one)).holds

-- what was read so far of a list: whatever many more of g give, the whole form gives what k makes of it
pub record SoFar {b d : Kind} (n : ℕ) (f : Form d) (g : Form b) (all mid : List Token) (k : List (Worth b) → Worth d) : Type 0 where
  pub goes : (o : Outcome (List (Worth b))) → Exact n (Many g) mid o → Exact n f all (mapped k o)

mapped_twice : {A B C : Type 0} (f : B → C) (g : A → B) (h : A → C) → ((x : A) → f (g x) ≡ h x) → (o : Outcome A) → mapped f (mapped g o) ≡ mapped h o
mapped_twice f g h same (read v rest) = ap (λ x. read x rest) (same v)
mapped_twice f g h same (failed deep rest) = refl

mapped_same : {A B : Type 0} (f g : A → B) → ((x : A) → f x ≡ g x) → (o : Outcome A) → mapped f o ≡ mapped g o
mapped_same f g same (read v rest) = ap (λ x. read x rest) (same v)
mapped_same f g same (failed deep rest) = refl

pub so_far_start : {b d e : Kind} {h : Worth (k.pair b (k.list d)) → Worth e} {f : Form b} {g : Form d} {n : ℕ} {all mid : List Token} {v : Worth b} → Disjoint (continues f) (starts g) → Reads n f all v mid
    → SoFar n (Map {a = k.pair b (k.list d)} {b = e} h (Seq f (Many g))) g all mid (λ vs. h (v, vs))
so_far_start {b = b} {d = d} {e = e} {h = h} {f = f} {g = g} {n = n} {all = all} {v = v} apart one = record {
  goes = λ o two. subst (λ x. Exact n (Map {a = k.pair b (k.list d)} {b = e} h (Seq f (Many g))) all x) (mapped_twice h (λ vs. (v, vs)) (λ vs. h (v, vs)) (λ vs. refl) o)
      (exact_map h (exact_seq {g = Many g} apart one two));
}

pub so_far_as : {b d : Kind} {n : ℕ} {f : Form d} {g : Form b} {all mid : List Token} {j l : List (Worth b) → Worth d} → ((vs : List (Worth b)) → j vs ≡ l vs) → SoFar n f g all mid j → SoFar n f g all mid l
so_far_as {n = n} {f = f} {all = all} {j = j} {l = l} same one = record {
  goes = λ o two. subst (λ x. Exact n f all x) (mapped_same j l same o) (one.goes o two);
}

pub so_far_more : {b d : Kind} {n : ℕ} {f : Form d} {g : Form b} {all mid after : List Token} {j : List (Worth b) → Worth d} {v : Worth b} (p : Class → Bool) → Within p (starts g) → Disjoint (continues g) (starts g)
    → heads_by p mid ≡ true → Reads n g mid v after → SoFar n f g all mid j → SoFar n f g all after (λ vs. j (v ∷ vs))
so_far_more {n = n} {f = f} {g = g} {all = all} {mid = mid} {j = j} {v = v} p within apart is one so_far = record {
  goes = λ o two. subst (λ x. Exact n f all x) (mapped_twice j (λ vs. v ∷ vs) (λ vs. j (v ∷ vs)) (λ vs. refl) o)
      (so_far.goes _ (exact_more apart (on_heads g p mid within is) one two));
}

pub so_far_end : {b d : Kind} {n : ℕ} {f : Form d} {g : Form b} {all mid : List Token} {j : List (Worth b) → Worth d} (p : Class → Bool) → Within (starts g) p → is_nullable g ≡ false
    → heads_by p mid ≡ false → SoFar n f g all mid j → Reads n f all (j []) mid
so_far_end {g = g} {mid = mid} p within filled is so_far = (so_far.goes (read [] mid) (exact_none (off_heads g p mid within filled is))).holds

pub so_far_map : {b d e : Kind} {h : Worth d → Worth e} {n : ℕ} {f : Form d} {g : Form b} {all mid : List Token} {j : List (Worth b) → Worth d} → SoFar n f g all mid j → SoFar n (Map {a = d} {b = e} h f) g all mid (λ vs. h (j vs))
so_far_map {d = d} {e = e} {h = h} {n = n} {f = f} {all = all} {j = j} one = record {
  goes = λ o two. subst (λ x. Exact n (Map {a = d} {b = e} h f) all x) (mapped_twice h j (λ vs. h (j vs)) (λ vs. refl) o) (exact_map h (one.goes o two));
}

pub so_far_ref : {b : Kind} {m : Rule} {n : ℕ} {g : Form b} {all mid : List Token} {j : List (Worth b) → Worth (kind m)} → SoFar n (rule m) g all mid j → SoFar n (Ref m) g all mid j
so_far_ref {m = m} one = record { goes = λ o two. exact_ref {m = m} (one.goes o two) }

fewer : {b : Kind} (f : Form b) (xs rest all : List Token) → Heads f xs → is_nullable f ≡ false → all ≡ xs ++ rest → length rest < length all
fewer f [] rest all h filled split = absurd (false≢true (sym filled ∙ h))
fewer f (x ∷ xs) rest all h filled split =
    let size : length all ≡ length ((x ∷ xs) ++ rest) = ap (λ (l : List Token). length l) split in
    let sum : length ((x ∷ xs) ++ rest) ≡ length (x ∷ xs) + length rest = length-append (x ∷ xs) rest in
    let one : length (x ∷ xs) ≡ suc (length xs) = refl in
    omega arith

-- what isn't empty takes a token at least
pub read_shorter : {b : Kind} {f : Form b} {n : ℕ} {all rest : List Token} {v : Worth b} → is_nullable f ≡ false → Reads n f all v rest → length rest < length all
read_shorter {f = f} {all = all} {rest = rest} filled one = fewer f (tokens one.way) rest all (heads one.way) filled one.split

-- each rule has a derivation

pub some_expr : Derivation _ (Ref r.expr_rule)
some_expr = ref {n = r.expr_rule} (left (left (map (tok (record { at = 0; class = c.Unsigned; number = pos 0; name = [] }) refl))))

some_word : Derivation _ (Tok is_word)
some_word = tok (record { at = 0; class = c.Word; number = pos 0; name = [] }) refl

some_from : Derivation _ from
some_from = map (seq (any c.From) (map (seq {f = name} (map (any c.Name)) none)))

some_values : Derivation _ values
some_values = map (map (seq some_expr none))

some_test : (asks : Bool) → Derivation _ (Ref (r.test_rule asks))
some_test asks = ref {n = r.test_rule asks} (map (seq some_expr (ref {n = r.tail_rule asks} (left (map (seq (any c.Compares) some_expr))))))

some_neg : (asks : Bool) → Derivation _ (Ref (r.neg_rule asks))
some_neg asks = ref {n = r.neg_rule asks} (right (right (some_test asks)))

some_conj : (asks : Bool) → Derivation _ (Ref (r.conj_rule asks))
some_conj asks = ref {n = r.conj_rule asks} (map (seq (some_neg asks) none))

some_rule : (n : Rule) → Derivation (kind n) (Ref n)
some_rule r.query_rule = ref {n = r.query_rule} (map (seq (map (seq (any c.Select) (seq absent (seq (map absent) (left (map (any c.Star))))))) (seq (seq absent (seq absent (seq some_from absent))) (seq absent (seq absent (map (seq absent (map absent))))))))
some_rule r.item_rule = ref {n = r.item_rule} (map (seq some_expr absent))
some_rule r.using_rule = ref {n = r.using_rule} (map (seq some_expr (map (seq (any c.As) (map some_word)))))
some_rule (r.cond_rule asks) = ref {n = r.cond_rule asks} (map (seq (some_conj asks) none))
some_rule (r.conj_rule asks) = some_conj asks
some_rule (r.neg_rule asks) = some_neg asks
some_rule (r.test_rule asks) = some_test asks
some_rule (r.tail_rule asks) = ref {n = r.tail_rule asks} (left (map (seq (any c.Compares) some_expr)))
some_rule (r.range_rule asks) = ref {n = r.range_rule asks} (left (map (map (seq (any c.Like) (map (any c.Text))))))
some_rule (r.set_rule true) = ref {n = r.set_rule true} (left some_values)
some_rule (r.set_rule false) = ref {n = r.set_rule false} some_values
some_rule r.asked_rule = ref {n = r.asked_rule} (map (seq (map (seq (any c.Select) (map absent))) (seq some_expr (seq some_from absent))))
some_rule r.expr_rule = some_expr

-- where each token of a form has a class, something derives from it
pub witness : {a : Kind} (f : Form a) → can_be f ≡ true → Derivation a f
witness (Tok p) is = let one = one_of p is in tok (record { at = 0; class = one.class; number = pos 0; name = [] }) one.holds
witness (Seq f g) is = seq (witness f (and_left (can_be f) (can_be g) is)) (witness g (and_right (can_be f) (can_be g) is))
witness (Alt f g) is = left (witness f is)
witness (Many f) is = none
witness (Opt f) is = absent
witness (Map h f) is = map (witness f is)
witness (Nest p f) is = let one = one_of p (and_left (for_some p) (can_be f) is) in nest (record { at = 0; class = one.class; number = pos 0; name = [] }) one.holds (witness f (and_right (for_some p) (can_be f) is))
witness (Ref n) is = some_rule n
