-- What a reader of a form answers, and when its answer is right.
use Rattle.std.specs.Prelude.{◌≡◌, ℕ, ◌+◌, ◌≤◌, ◌<◌, Bool, true, false, ◌&&◌, ◌||◌, List, [], ◌∷◌, ◌++◌, length}
use Rattle.grammar.specs.Classes.{Class}
use Rattle.grammar.specs.Trees.{Token}
use Rattle.grammar.specs.Forms.{Kind, Worth, Form, Tok, Seq, Alt, Many, Opt, Map, Nest, Ref, is_nullable}
use Rattle.grammar.specs.Rules.{begins, goes_on}
use Rattle.grammar.specs.Derivations.{Derivation, tokens, worth, depth, depth_to}

-- the classes with which a form begins
abbrev pub starts : {a : Kind} → Form a → Class → Bool
starts (Tok p) c = p c
starts (Seq f g) c = starts f c || (is_nullable f && starts g c)
starts (Alt f g) c = starts f c || starts g c
starts (Many f) c = starts f c
starts (Opt f) c = starts f c
starts (Map h f) c = starts f c
starts (Nest p f) c = p c
starts (Ref n) c = begins n c

-- the classes that go on with a form where it could end
abbrev pub continues : {a : Kind} → Form a → Class → Bool
continues (Tok p) c = false
continues (Seq f g) c = continues g c || (is_nullable g && continues f c)
continues (Alt f g) c = continues f c || continues g c
continues (Many f) c = starts f c || continues f c
continues (Opt f) c = starts f c || continues f c
continues (Map h f) c = continues f c
continues (Nest p f) c = continues f c
continues (Ref n) c = goes_on n c

-- what follows doesn't go on with the form
abbrev pub Apart : {a : Kind} → Form a → List Token → Type 0
Apart f [] = Unit {0}
Apart f (t ∷ ts) = continues f t.class ≡ false

-- a text is the front, and then the first token of the rest, or nothing where there is none
abbrev pub Agrees : List Token → List Token → List Token → Type 0
Agrees text front [] = text ≡ front
Agrees text front (t ∷ rest) = (more : List Token) × (text ≡ front ++ t ∷ more)

-- a value and the tokens behind it, or the tokens from the first bad one on: false where no text begins so, true where it is too deep
pub data Outcome (A : Type 0) : Type 0 where
  read : A → List Token → Outcome A
  failed : Bool → List Token → Outcome A

abbrev pub mapped : {A B : Type 0} → (A → B) → Outcome A → Outcome B
mapped h (read v rest) = read (h v) rest
mapped h (failed deep rest) = failed deep rest

-- the front derives from the form, with this worth, and nothing else that goes as far does
pub record Reads {a : Kind} (left : ℕ) (f : Form a) (all : List Token) (v : Worth a) (rest : List Token) : Type 0 where
  pub way : Derivation a f
  pub split : all ≡ tokens way ++ rest
  pub gives : worth way ≡ v
  pub within : depth way ≤ left
  pub only : (d : Derivation a f) (z : List Token) → Apart f z → Agrees (tokens d ++ z) (tokens way) rest → (tokens d ≡ tokens way) × (worth d ≡ v)

-- the token is one level too deep
abbrev pub Deeper : {a : Kind} → Bool → ℕ → (f : Form a) → List Token → List Token → List Token → Derivation a f → Type 0
Deeper false left f front rest more d = Unit {0}
Deeper true left f front rest more d = (t : Token) × (r : List Token) × (m : List Token) × (rest ≡ t ∷ r) × (more ≡ t ∷ m) × (left < depth_to (length front + 1) d)

abbrev pub Held : Bool → ℕ → ℕ → Type 0
Held false left n = Unit {0}
Held true left n = n ≤ left

-- something begins with the front, and nothing with the front and the token behind it
pub record Fails {a : Kind} (deep : Bool) (left : ℕ) (f : Form a) (all : List Token) (rest : List Token) : Type 0 where
  pub front : List Token
  pub split : all ≡ front ++ rest
  pub way : Derivation a f
  pub more : List Token
  pub begins_so : tokens way ≡ front ++ more
  pub within : depth_to (length front) way ≤ left
  pub deeper : Deeper deep left f front rest more way
  pub never : (d : Derivation a f) (z : List Token) → Held deep left (depth d) → Apart f z → Agrees (tokens d ++ z) front rest → ⊥

abbrev pub IsExact : {a : Kind} → ℕ → Form a → List Token → Outcome (Worth a) → Type 0
IsExact left f all (read v rest) = Reads left f all v rest
IsExact left f all (failed deep rest) = Fails deep left f all rest

pub record Exact {a : Kind} (left : ℕ) (f : Form a) (all : List Token) (o : Outcome (Worth a)) : Type 0 where
  pub holds : IsExact left f all o

-- whether tokens begin with one of these classes
abbrev pub heads_by : (Class → Bool) → List Token → Bool
heads_by p [] = false
heads_by p (t ∷ ts) = p t.class
