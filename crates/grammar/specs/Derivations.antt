-- What derives from a form: its tokens, its worth, and how deep it is.
use Rattle.std.specs.Prelude.{◌≡◌, ℕ, zero, suc, ◌+◌, max, Bool, true, List, [], ◌∷◌, ◌++◌, length, Some, None, ◌-◌}
use Rattle.grammar.specs.Classes.{Class}
use Rattle.grammar.specs.Trees.{Token}
use Rattle.grammar.specs.Forms.{Kind, Worth, Rule, Form, Tok, Seq, Alt, Many, Opt, Map, Nest, Ref}
use Rattle.grammar.specs.Rules.{rule}

pub data Derivation : (a : Kind) → Form a → Type 0 where
  tok : {p : Class → Bool} → (t : Token) → p t.class ≡ true → Derivation _ (Tok p)
  seq : {a b : Kind} → {f : Form a} → {g : Form b} → Derivation _ f → Derivation _ g → Derivation _ (Seq f g)
  left : {a : Kind} → {f g : Form a} → Derivation _ f → Derivation _ (Alt f g)
  right : {a : Kind} → {f g : Form a} → Derivation _ g → Derivation _ (Alt f g)
  none : {a : Kind} → {f : Form a} → Derivation _ (Many f)
  more : {a : Kind} → {f : Form a} → Derivation _ f → Derivation _ (Many f) → Derivation _ (Many f)
  absent : {a : Kind} → {f : Form a} → Derivation _ (Opt f)
  present : {a : Kind} → {f : Form a} → Derivation _ f → Derivation _ (Opt f)
  map : {a b : Kind} → {h : Worth a → Worth b} → {f : Form a} → Derivation _ f → Derivation _ (Map h f)
  nest : {a : Kind} → {p : Class → Bool} → {f : Form a} → (t : Token) → p t.class ≡ true → Derivation _ f → Derivation _ (Nest p f)
  ref : {n : Rule} → Derivation _ (rule n) → Derivation _ (Ref n)

abbrev pub tokens : {a : Kind} {f : Form a} → Derivation _ f → List Token
tokens (tok t is) = t ∷ []
tokens (seq d e) = tokens d ++ tokens e
tokens (left d) = tokens d
tokens (right d) = tokens d
tokens none = []
tokens (more d e) = tokens d ++ tokens e
tokens absent = []
tokens (present d) = tokens d
tokens (map d) = tokens d
tokens (nest t is d) = t ∷ tokens d
tokens (ref d) = tokens d

abbrev pub worth : {a : Kind} {f : Form a} → Derivation _ f → Worth a
worth (tok t is) = t
worth (seq d e) = (worth d, worth e)
worth (left d) = worth d
worth (right d) = worth d
worth none = []
worth (more d e) = worth d ∷ worth e
worth absent = None
worth (present d) = Some (worth d)
worth (map {h = h} d) = h (worth d)
worth (nest t is d) = (t, worth d)
worth (ref d) = worth d

-- how many levels are open at once
abbrev pub depth : {a : Kind} {f : Form a} → Derivation _ f → ℕ
depth (tok t is) = 0
depth (seq d e) = max (depth d) (depth e)
depth (left d) = depth d
depth (right d) = depth d
depth none = 0
depth (more d e) = max (depth d) (depth e)
depth absent = 0
depth (present d) = depth d
depth (map d) = depth d
depth (nest t is d) = depth d + 1
depth (ref d) = depth d

-- how many levels are open at once among the first tokens, this many
abbrev pub depth_to : {a : Kind} {f : Form a} → ℕ → Derivation a f → ℕ
depth_to n (tok t is) = 0
depth_to n (seq d e) = max (depth_to n d) (depth_to (n - length (tokens d)) e)
depth_to n (left d) = depth_to n d
depth_to n (right d) = depth_to n d
depth_to n none = 0
depth_to n (more d e) = max (depth_to n d) (depth_to (n - length (tokens d)) e)
depth_to n absent = 0
depth_to n (present d) = depth_to n d
depth_to n (map d) = depth_to n d
depth_to zero (nest t is d) = 0
depth_to (suc n) (nest t is d) = depth_to n d + 1
depth_to n (ref d) = depth_to n d
