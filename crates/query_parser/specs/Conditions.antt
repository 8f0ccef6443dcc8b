-- Conditions with the subqueries that were read in them.
use Rattle.std.specs.Prelude.{◌≡◌, ℕ, zero, suc, Bool, false, List, [], ◌∷◌, ◌++◌, length, drop, map, Option, Some, None, Result, Ok, Err}
use Rattle.grammar.specs.Trees as model
use Rattle.grammar.specs.Forms.{Kind, Worth, Form, Map, Nest}
use Rattle.grammar.specs.Forms.{Kind as kind}
use Rattle.grammar.specs.declared.Class.TheVariants as class
use Rattle.grammar.specs.Classes.{is_a}
use Rattle.grammar.specs.Rules.{neg, cond, inside}
use Rattle.grammar.specs.Reading.{Reads}
use Rattle.query_lexer.specs.declared.token.Token.{Token}
use Rattle.query_tree.specs.Tokens.{seen}
use Rattle.query_parser.specs.Answers.{Stopped}
use Rattle.query_parser.specs.declared.fault.Stop.{Stop}
use Rattle.grammar.specs.Trees.{Test as test}
use Rattle.grammar.specs.Trees.{Set' as set}
use Rattle.grammar.specs.Trees.{Range as range}
use Rattle.grammar.specs.Trees.{Tail as tail}
use Rattle.grammar.specs.Trees.{Query as query}
use Rattle.grammar.specs.Trees.{Queries as queries}
use Rattle.query_tree.specs.declared.condition.Cond.{Cond}
use Rattle.query_tree.specs.declared.query.Query.{Query}
use Rattle.query_tree.specs.Views.{tree_of, trees_of, placed_of, test_of, number_of, query_of}
use Rattle.query_parser.specs.declared.tail.Values.{Values}
use Rattle.query_parser.specs.declared.tail.Values.TheVariants as v
use Rattle.query_parser.specs.declared.tail.Range.{Range}
use Rattle.query_parser.specs.declared.tail.Range.TheVariants as r
use Rattle.query_parser.specs.declared.tail.Tail.{Tail}
use Rattle.query_parser.specs.declared.tail.Tail.TheVariants as t

-- the subqueries that came to the first ones
abbrev pub asked_between : List Query → List Query → List model.Query
asked_between old new = map query_of (drop (length old) new)

-- a condition and the subqueries in it
abbrev pub condition_with : Cond → List model.Query → model.Condition
condition_with c qs = record { test = test_of c; asked = qs }

-- the same, where one stands
abbrev pub conditions_with : Option Cond → List model.Query → Option model.Condition
conditions_with None qs = None
conditions_with (Some c) qs = Some (condition_with c qs)

-- so many numbers from one on
abbrev pub count_from : ℕ → ℕ → List ℕ
count_from n zero = []
count_from n (suc k) = n ∷ count_from (suc n) k

-- subqueries came to the old ones, and these are their numbers; none came where none may
pub record Grown (asks : Bool) (old new : List Query) (numbers : List ℕ) : Type 0 where
  pub added : List Query
  pub grown : new ≡ old ++ added
  pub numbered : numbers ≡ count_from (length old) (length added)
  pub plain : asks ≡ false → added ≡ []

-- the first of the subqueries
abbrev pub first_asked : List model.Query → model.Set'
first_asked [] = set.values []
first_asked (q ∷ qs) = set.asked q

-- what stands in the parentheses of IN
abbrev pub set_of : Values → List model.Query → model.Set'
set_of (v.Listed es) qs = set.values (trees_of es)
set_of (v.Asked n) qs = first_asked qs

-- LIKE, BETWEEN or IN
abbrev pub range_of : Range → List model.Query → model.Range
range_of (r.Like p) qs = range.like (placed_of p)
range_of (r.Between b d) qs = range.between (tree_of b) (tree_of d)
range_of (r.Within v) qs = range.within (set_of v qs)

-- what stands behind the first expression of a test
abbrev pub tail_of : Tail → List model.Query → model.Tail
tail_of (t.Compared how b) qs = tail.compared (number_of how) (tree_of b)
tail_of (t.Null neg) qs = tail.null neg
tail_of (t.Ranged neg r) qs = tail.ranged neg (range_of r qs)

-- the numbers of the subqueries in it
abbrev pub numbers_in_values : Values → List ℕ
numbers_in_values (v.Listed es) = []
numbers_in_values (v.Asked n) = n ∷ []

-- the numbers of the subqueries in it
abbrev pub numbers_in_range : Range → List ℕ
numbers_in_range (r.Like p) = []
numbers_in_range (r.Between b d) = []
numbers_in_range (r.Within v) = numbers_in_values v

-- the numbers of the subqueries in it
abbrev pub numbers_in_tail : Tail → List ℕ
numbers_in_tail (t.Compared how b) = []
numbers_in_tail (t.Null neg) = []
numbers_in_tail (t.Ranged neg r) = numbers_in_range r

-- a value that is in a set, or isn't
abbrev pub tested_in : model.Tree → Bool → Values → model.Test
tested_in e neg (v.Listed es) = test.InList (model.place_of e) e (model.trees_of (trees_of es)) neg
tested_in e neg (v.Asked n) = test.InQuery (model.place_of e) e neg None

-- a value that is like a text, between two others or in a set, or isn't
abbrev pub tested_range : model.Tree → Bool → Range → model.Test
tested_range e neg (r.Like p) = test.Like (model.place_of e) e (placed_of p) neg
tested_range e neg (r.Between b d) = test.Between (model.place_of e) e (tree_of b) (tree_of d) neg
tested_range e neg (r.Within v) = tested_in e neg v

-- a value and what is asked of it
abbrev pub tested : model.Tree → Tail → model.Test
tested e (t.Compared how b) = test.Compare (model.place_of e) (number_of how) e (tree_of b)
tested e (t.Null neg) = test.IsNull (model.place_of e) e neg
tested e (t.Ranged neg r) = tested_range e neg r

-- an expression as the one item
abbrev pub items_with : model.Tree → List model.Item
items_with value = record { value = value; alias = None } ∷ []

-- a subquery of its parts
abbrev pub subquery_with : Bool → List model.Item → List model.Placed → Option model.Test → model.Query
subquery_with distinct items names condition = query.query (record {
  top = None;
  distinct = distinct;
  star = None;
  items = items;
  aliases = [];
  into = None;
  names = names;
  condition = condition;
  keys = [];
  rollup = false;
  having = None;
  order = [];
  descending = false;
}) queries.no_queries

-- what was read with the subqueries that came is what the form gives, and these have the numbers; or the fault is right
abbrev pub IsAsked : {a : Kind} {Y : Type 0} → Bool → ℕ → Form a → List Token → List Token → List Query → List Query → (Y → List model.Query → Worth a) → (Y → List ℕ) → Result Y Stop → Type 0
IsAsked asks left f all rest old new view numbers (Ok y) = Reads left f (map seen all) (view y (asked_between old new)) (map seen rest) × Grown asks old new (numbers y)
IsAsked asks left f all rest old new view numbers (Err e) = Stopped left f (map seen all) e

-- what was read, as view sees it with the subqueries that came, is exactly what the form gives, and these have the numbers; or the fault is
pub record Asks {a : Kind} {Y : Type 0} (asks : Bool) (left : ℕ) (f : Form a) (all rest : List Token) (old new : List Query) (view : Y → List model.Query → Worth a) (numbers : Y → List ℕ) (result : Result Y Stop) : Type 0 where
  pub is : IsAsked asks left f all rest old new view numbers result

-- the first two forms of a condition that no AND parts
abbrev pub negation : Bool → Form kind.condition
negation asks = Map (λ x. model.not_of x.0.at x.1) (Nest (is_a class.Not) (neg asks))

abbrev pub nesting : Bool → Form kind.condition
nesting asks = Map (λ x. model.condition_at x.0.at x.1) (inside (cond asks))
