-- Among more tokens no fewer levels are open.
use Rattle.std.proofs.Common.{ℕ, zero, suc, ◌-◌, ◌≤◌, max, length, arith}
use Rattle.grammar.specs.Forms.{Kind, Form}
use Rattle.grammar.specs.Derivations.{Derivation, tok, seq, left, right, none, more, absent, present, map, nest, ref, tokens, depth_to}

max_below : (a b x y : ℕ) → a ≤ x → b ≤ y → max a b ≤ max x y
max_below a b x y one two = omega arith

less_taken : (m n k : ℕ) → m ≤ n → m - k ≤ n - k
less_taken m n k is = omega arith

one_less : (m n : ℕ) → suc m ≤ suc n → m ≤ n
one_less m n is = omega arith

pub depth_grows : {a : Kind} {f : Form a} (d : Derivation a f) (m n : ℕ) → m ≤ n → depth_to m d ≤ depth_to n d
depth_grows (tok t is) m n within = omega arith
depth_grows (seq d e) m n within = max_below _ _ _ _ (depth_grows d m n within) (depth_grows e (m - length (tokens d)) (n - length (tokens d)) (less_taken m n (length (tokens d)) within))
depth_grows (left d) m n within = depth_grows d m n within
depth_grows (right d) m n within = depth_grows d m n within
depth_grows none m n within = omega arith
depth_grows (more d e) m n within = max_below _ _ _ _ (depth_grows d m n within) (depth_grows e (m - length (tokens d)) (n - length (tokens d)) (less_taken m n (length (tokens d)) within))
depth_grows absent m n within = omega arith
depth_grows (present d) m n within = depth_grows d m n within
depth_grows (map d) m n within = depth_grows d m n within
depth_grows (nest t is d) zero n within = omega arith
depth_grows (nest t is d) (suc m) zero within = absurd (omega arith)
depth_grows (nest t is d) (suc m) (suc n) within = let one = depth_grows d m n (one_less m n within) in omega arith
depth_grows (ref d) m n within = depth_grows d m n within
