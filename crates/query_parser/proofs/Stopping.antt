-- What stops a part of a form stops the form.
use Rattle.std.proofs.Common.{◌≡◌, ℕ, ◌-◌, ◌<◌, Bool, true, false, List, map, Result, Ok, Err, sym, subst}
use Rattle.grammar.specs.declared.Class.{Class}
use Rattle.grammar.specs.Trees.{Token}
use Rattle.grammar.specs.Forms.{Kind, Worth, Rule, Form, Tok, Seq, Alt, Opt, Map, Nest, Ref, is_nullable, can_be}
use Rattle.grammar.specs.Rules.{rule}
use Rattle.grammar.specs.Reading.{starts, continues, heads_by, failed, Reads, Exact}
use Rattle.grammar.proofs.Agreeing.{Disjoint}
use Rattle.grammar.proofs.Laws.{exact_seq, exact_seq_fails, exact_left, exact_right, exact_map, exact_ref}
use Rattle.grammar.proofs.Repeating.{exact_present, exact_more_fails}
use Rattle.grammar.proofs.Choosing.{Within, on_heads, off_heads, off_other, nest_read}
use Rattle.grammar.proofs.Answering.{witness, SoFar}
use Rattle.query_lexer.specs.declared.token.Token.{Token as RealToken}
use Rattle.query_tree.specs.Tokens.{seen}
use Rattle.query_parser.specs.Answers.{StopsAt, Stopped, Gives}
use Rattle.query_parser.specs.declared.fault.Stop.{Stop}
use Rattle.query_parser.specs.declared.fault.Stop.TheVariants as stop

is_by : {a b : Kind} (f : Form a) (g : Form b) (m n : ℕ) (part all : List Token) → ((deep : Bool) (rest : List Token) → Exact m f part (failed deep rest) → Exact n g all (failed deep rest)) → (e : Stop) → StopsAt m f part e → StopsAt n g all e
is_by f g m n part all so (stop.Syntax count) is = record { rest = is.rest; count_is = is.count_is; exact = so false is.rest is.exact }
is_by f g m n part all so (stop.TooDeep count) is = record { rest = is.rest; count_is = is.count_is; exact = so true is.rest is.exact }
is_by f g m n part all so stop.Memory is = tt

pub stop_by : {a b : Kind} {f : Form a} {g : Form b} {m n : ℕ} {part all : List Token} {e : Stop} → ((deep : Bool) (rest : List Token) → Exact m f part (failed deep rest) → Exact n g all (failed deep rest)) → Stopped m f part e → Stopped n g all e
stop_by {f = f} {g = g} {m = m} {n = n} {part = part} {all = all} {e = e} so one = record { is = is_by f g m n part all so e one.is }

pub stop_map : {a b : Kind} {h : Worth a → Worth b} {f : Form a} {n : ℕ} {all : List Token} {e : Stop} → Stopped n f all e → Stopped n (Map {a = a} {b = b} h f) all e
stop_map {h = h} one = stop_by (λ deep rest x. exact_map h x) one

pub stop_first : {a b : Kind} {f : Form a} {g : Form b} {n : ℕ} {all : List Token} {e : Stop} → Disjoint (continues f) (starts g) → can_be g ≡ true → Stopped n f all e → Stopped n (Seq f g) all e
stop_first {g = g} apart is one = stop_by (λ deep rest x. exact_seq_fails apart (witness g is) x) one

pub stop_second : {a b : Kind} {f : Form a} {g : Form b} {v : Worth a} {n : ℕ} {all mid : List Token} {e : Stop} → Disjoint (continues f) (starts g) → Reads n f all v mid → Stopped n g mid e → Stopped n (Seq f g) all e
stop_second {g = g} apart one two = stop_by (λ deep rest x. exact_seq {g = g} apart one x) two

pub stop_left : {a : Kind} {f g : Form a} {n : ℕ} {all : List Token} {e : Stop} (p : Class → Bool) → Disjoint (starts g) p → is_nullable g ≡ false → heads_by p all ≡ true → Stopped n f all e → Stopped n (Alt f g) all e
stop_left {g = g} {all = all} p apart filled is one = stop_by (λ deep rest x. exact_left (off_other g p all apart filled is) x) one

pub stop_right : {a : Kind} {f g : Form a} {n : ℕ} {all : List Token} {e : Stop} (p : Class → Bool) → Within (starts f) p → is_nullable f ≡ false → heads_by p all ≡ false → Stopped n g all e → Stopped n (Alt f g) all e
stop_right {f = f} {all = all} p within filled is one = stop_by (λ deep rest x. exact_right (off_heads f p all within filled is) x) one

pub stop_alt_left : {a : Kind} {f g : Form a} {n : ℕ} {all : List Token} {e : Stop} (p : Class → Bool) → Within (starts g) p → is_nullable g ≡ false → heads_by p all ≡ false → Stopped n f all e → Stopped n (Alt f g) all e
stop_alt_left {g = g} {all = all} p within filled is one = stop_by (λ deep rest x. exact_left (off_heads g p all within filled is) x) one

pub stop_alt_right : {a : Kind} {f g : Form a} {n : ℕ} {all : List Token} {e : Stop} (p : Class → Bool) → Disjoint (starts f) p → is_nullable f ≡ false → heads_by p all ≡ true → Stopped n g all e → Stopped n (Alt f g) all e
stop_alt_right {f = f} {all = all} p apart filled is one = stop_by (λ deep rest x. exact_right (off_other f p all apart filled is) x) one

pub stop_present : {a : Kind} {f : Form a} {n : ℕ} {all : List Token} {e : Stop} (p : Class → Bool) → Within p (starts f) → heads_by p all ≡ true → Stopped n f all e → Stopped n (Opt f) all e
stop_present {f = f} {all = all} p within is one = stop_by (λ deep rest x. exact_present (on_heads f p all within is) x) one

pub stop_nest : {a : Kind} {p : Class → Bool} {f : Form a} {n : ℕ} {all mid : List Token} {t : Token} {e : Stop} → 0 < n → Reads n (Tok p) all t mid → Stopped (n - 1) f mid e → Stopped n (Nest p f) all e
stop_nest some one two = stop_by (λ deep rest x. nest_read some one x) two

pub stop_ref : {m : Rule} {n : ℕ} {all : List Token} {e : Stop} → Stopped n (rule m) all e → Stopped n (Ref m) all e
stop_ref {m = m} one = stop_by (λ deep rest x. exact_ref {m = m} x) one

pub stop_more : {b d : Kind} {n : ℕ} {f : Form d} {g : Form b} {all mid : List Token} {j : List (Worth b) → Worth d} {e : Stop} (p : Class → Bool) → Within p (starts g) → Disjoint (continues g) (starts g)
    → heads_by p mid ≡ true → SoFar n f g all mid j → Stopped n g mid e → Stopped n f all e
stop_more {g = g} {mid = mid} p within apart is so_far one = stop_by (λ deep rest x. so_far.goes (failed deep rest) (exact_more_fails apart (on_heads g p mid within is) x)) one

pub given_ok : {a : Kind} {Y : Type 0} {n : ℕ} {f : Form a} {all rest : List RealToken} {view : Y → Worth a} {y : Y} → Reads n f (map seen all) (view y) (map seen rest) → Gives n f all rest view (Ok y)
given_ok one = record { is = one }

pub given_err : {a : Kind} {Y : Type 0} {n : ℕ} {f : Form a} {all rest : List RealToken} {view : Y → Worth a} {e : Stop} → Stopped n f (map seen all) e → Gives n f all rest view (Err e)
given_err one = record { is = one }

pub given_by : {a b : Kind} {Y : Type 0} (m n : ℕ) (f : Form a) (g : Form b) (some all rest : List RealToken) (view : Y → Worth a) (show : Y → Worth b) (result : Result Y Stop)
    → ((y : Y) → Reads m f (map seen some) (view y) (map seen rest) → Reads n g (map seen all) (show y) (map seen rest)) → ((e : Stop) → Stopped m f (map seen some) e → Stopped n g (map seen all) e)
    → Gives m f some rest view result → Gives n g all rest show result
given_by m n f g some all rest view show (Ok y) reads stops one = record { is = reads y one.is }
given_by m n f g some all rest view show (Err e) reads stops one = record { is = stops e one.is }

-- a form with the same worth and the same rest
pub given_same : {b : Kind} {Y : Type 0} {m n : ℕ} {f g : Form b} {all rest : List RealToken} {view : Y → Worth b} {result : Result Y Stop}
    → ((v : Worth b) → Reads m f (map seen all) v (map seen rest) → Reads n g (map seen all) v (map seen rest)) → ((e : Stop) → Stopped m f (map seen all) e → Stopped n g (map seen all) e)
    → Gives m f all rest view result → Gives n g all rest view result
given_same {m = m} {n = n} {f = f} {g = g} {all = all} {rest = rest} {view = view} {result = result} reads stops one = given_by m n f g all all rest view view result (λ y x. reads (view y) x) stops one

-- what is seen as a worth was read with it
pub given_as : {b : Kind} {Y : Type 0} {n : ℕ} {f : Form b} {all rest : List RealToken} {view : Y → Worth b} {y : Y} {v : Worth b} → view y ≡ v → Reads n f (map seen all) v (map seen rest) → Gives n f all rest view (Ok y)
given_as {n = n} {f = f} {all = all} {rest = rest} same one = record { is = subst (λ x. Reads n f (map seen all) x (map seen rest)) (sym same) one }
