-- When what a reader returned is right.
use Rattle.std.specs.Prelude.{◌≡◌, ℕ, ◌<◌, Bool, true, false, List, length, map, Option, Some, None, Result, Ok, Err}
use Rattle.grammar.specs.declared.Class.{Class}
use Rattle.grammar.specs.Rules.{a}
use Rattle.grammar.specs.Trees as model
use Rattle.grammar.specs.Forms.{Kind, Worth, Form}
use Rattle.grammar.specs.Reading.{Exact, Reads, failed}
use Rattle.query_lexer.specs.declared.token.Token.{Token}
use Rattle.query_tree.specs.Tokens.{seen}
use Rattle.query_tree.specs.Views.{trees_of, placed_of}
use Rattle.query_tree.specs.declared.expression.ExprList.{ExprList}
use Rattle.query_tree.specs.declared.placed.Placed.{Placed}
use Rattle.grammar.specs.Trees.{Arguments as args}
use Rattle.query_parser.specs.declared.fault.Stop.{Stop}
use Rattle.query_parser.specs.declared.fault.Stop.TheVariants as stop

-- nothing of the form goes on with the token from which on so many tokens stand; deep tells that it opens a level too many
pub record Stops {a : Kind} (deep : Bool) (left : ℕ) (f : Form a) (all : List model.Token) (count : ℕ) : Type 0 where
  pub rest : List model.Token
  pub count_is : length rest ≡ count
  pub exact : Exact left f all (failed deep rest)

-- the fault is right: after want of memory nothing is said
abbrev pub StopsAt : {a : Kind} → ℕ → Form a → List model.Token → Stop → Type 0
StopsAt left f all (stop.Syntax count) = Stops false left f all count
StopsAt left f all (stop.TooDeep count) = Stops true left f all count
StopsAt left f all stop.Memory = Unit {0}

-- the same, as a record of its own
pub record Stopped {a : Kind} (left : ℕ) (f : Form a) (all : List model.Token) (e : Stop) : Type 0 where
  pub is : StopsAt left f all e

-- what was read derives from the form and nothing else does that goes as far; or the fault is right
abbrev pub IsGiven : {a : Kind} {Y : Type 0} → ℕ → Form a → List Token → List Token → (Y → Worth a) → Result Y Stop → Type 0
IsGiven left f all rest view (Ok y) = Reads left f (map seen all) (view y) (map seen rest)
IsGiven left f all rest view (Err e) = Stopped left f (map seen all) e

-- what was read, as view sees it, and the tokens behind it are exactly what the form gives; or the fault is
pub record Gives {a : Kind} {Y : Type 0} (left : ℕ) (f : Form a) (all rest : List Token) (view : Y → Worth a) (result : Result Y Stop) : Type 0 where
  pub is : IsGiven left f all rest view result

-- a token that opens a level was taken, and a level was left for it
pub record Opened (left : ℕ) (class : Class) (all rest : List Token) (t : Token) : Type 0 where
  pub reads : Reads left (a class) (map seen all) (seen t) (map seen rest)
  pub some : 0 < left

-- the arguments of COUNT: none told stands for all rows
abbrev pub arguments_of : Option ExprList → model.Arguments
arguments_of None = args.all_rows
arguments_of (Some es) = args.listed (trees_of es)

-- two texts with their places
abbrev pub placed_pair : Placed × Placed → model.Placed × model.Placed
placed_pair p = (placed_of p.0, placed_of p.1)
