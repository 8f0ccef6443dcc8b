-- Tokens, and what a query means as a tree.
use Rattle.std.specs.Prelude.{ℕ, ℤ, Bool, true, false, List, [], ◌∷◌, ◌++◌, Option, Some, None}
use Rattle.in_set.specs.Facts.{Facts}
use Rattle.lp_values.specs.declared.kind.Kind.{Kind}
use Rattle.grammar.specs.Classes.{Class, is_a}
use Rattle.grammar.specs.declared.Class.TheVariants as c

-- a token: its place, its class, and the number and the text that it stands for
pub record Token : Type 0 where
  pub at : ℕ
  pub class : Class
  pub number : ℤ
  pub name : List ℕ

-- a text with its place
pub record Placed : Type 0 where
  pub at : ℕ
  pub text : List ℕ

mutual
  -- an expression
  pub data Tree : Type 0 where
    Integer : ℕ → ℤ → Tree
    Real : ℕ → ℤ → Tree
    Text : ℕ → List ℕ → Tree
    Null : ℕ → Tree
    Timestamp : ℕ → Placed → Placed → Tree
    Word : ℕ → List ℕ → Tree
    Call : ℕ → List ℕ → Trees → Tree
    CountAll : ℕ → Tree
    PropCountAll : ℕ → Tree
    Case : ℕ → Tree → Whens → Otherwise → Tree

  pub data Trees : Type 0 where
    no_trees : Trees
    more_trees : Tree → Trees → Trees

  pub data Whens : Type 0 where
    no_whens : Whens
    more_whens : Tree → Tree → Whens → Whens

  pub data Otherwise : Type 0 where
    no_else : Otherwise
    an_else : Tree → Otherwise

-- what a subquery gave, once it was run: the place of its expression, its kind, and what is remembered of its values; and the names of its
-- logs, and how many bad lines these have
pub record Given : Type 0 where
  pub place : ℕ
  pub kind : Kind
  pub values : Facts
  pub logs : List (List ℕ)
  pub bad : ℕ

-- a condition: a comparison has the number of its sign; an IN over a subquery stands without the subquery, and has what it gave once it was run
pub data Test : Type 0 where
  Or : ℕ → Test → Test → Test
  And : ℕ → Test → Test → Test
  Not : ℕ → Test → Test
  Compare : ℕ → ℤ → Tree → Tree → Test
  IsNull : ℕ → Tree → Bool → Test
  Like : ℕ → Tree → Placed → Bool → Test
  Between : ℕ → Tree → Tree → Tree → Bool → Test
  InList : ℕ → Tree → Trees → Bool → Test
  InQuery : ℕ → Tree → Bool → Option Given → Test

-- an expression with its alias
pub record Item : Type 0 where
  pub value : Tree
  pub alias : Option (List ℕ)

-- the parts of a query
pub record Parts : Type 0 where
  pub top : Option ℤ
  pub distinct : Bool
  pub star : Option ℕ
  pub items : List Item
  pub aliases : List Item
  pub into : Option Placed
  pub names : List Placed
  pub condition : Option Test
  pub keys : List Tree
  pub rollup : Bool
  pub having : Option Test
  pub order : List Tree
  pub descending : Bool

-- a query, with its subqueries in the order of the text
mutual
  pub data Query : Type 0 where
    query : Parts → Queries → Query

  pub data Queries : Type 0 where
    no_queries : Queries
    more_queries : Query → Queries → Queries

-- a condition and its subqueries in the order of the text
pub record Condition : Type 0 where
  pub test : Test
  pub asked : List Query

-- what stands in a call's parentheses
pub data Arguments : Type 0 where
  all_rows : Arguments
  listed : List Tree → Arguments

-- the values of an IN
pub data Set' : Type 0 where
  values : List Tree → Set'
  asked : Query → Set'

-- what stands behind a test's first expression, and behind its NOT
pub data Range : Type 0 where
  like : Placed → Range
  between : Tree → Tree → Range
  within : Set' → Range

pub data Tail : Type 0 where
  compared : ℤ → Tree → Tail
  null : Bool → Tail
  ranged : Bool → Range → Tail

abbrev pub trees_of : List Tree → Trees
trees_of [] = no_trees
trees_of (e ∷ es) = more_trees e (trees_of es)

abbrev pub whens_of : List (Tree × Tree) → Whens
whens_of [] = no_whens
whens_of (w ∷ ws) = more_whens w.0 w.1 (whens_of ws)

abbrev pub otherwise_of : Option Tree → Otherwise
otherwise_of None = no_else
otherwise_of (Some e) = an_else e

abbrev pub queries_of : List Query → Queries
queries_of [] = no_queries
queries_of (q ∷ qs) = more_queries q (queries_of qs)

-- a token's text with its place
abbrev pub placed : Token → Placed
placed t = record { at = t.at; text = t.name }

-- the text of an expression that is one
abbrev pub placed_text : Tree → Option Placed
placed_text (Integer at n) = None
placed_text (Real at n) = None
placed_text (Text at t) = Some (record { at = at; text = t })
placed_text (Null at) = None
placed_text (Timestamp at v p) = None
placed_text (Word at t) = None
placed_text (Call at t es) = None
placed_text (CountAll at) = None
placed_text (PropCountAll at) = None
placed_text (Case at e ws o) = None

abbrev pub both_texts : Option Placed → Option Placed → Option (Placed × Placed)
both_texts (Some v) (Some p) = Some (v, p)
both_texts (Some v) None = None
both_texts None p = None

-- the texts of two expressions that are texts
abbrev pub two_texts : List Tree → Option (Placed × Placed)
two_texts [] = None
two_texts (e ∷ []) = None
two_texts (e ∷ d ∷ []) = both_texts (placed_text e) (placed_text d)
two_texts (e ∷ d ∷ b ∷ bs) = None

abbrev pub stamp_or : Tree → ℕ → Option (Placed × Placed) → Tree
stamp_or other at None = other
stamp_or other at (Some x) = Timestamp at x.0 x.1

-- a call, and TIMESTAMP where it has two texts
abbrev pub call_of : Bool → Token → List Tree → Tree
call_of false t es = Call t.at t.name (trees_of es)
call_of true t es = stamp_or (Call t.at t.name (trees_of es)) t.at (two_texts es)

-- COUNT of all rows, or PROPCOUNT
abbrev pub count_of : Bool → ℕ → Tree
count_of true at = CountAll at
count_of false at = PropCountAll at

abbrev pub listed_of : Option (List Tree) → Arguments
listed_of None = listed []
listed_of (Some es) = listed es

abbrev pub counted_of : Option Arguments → Arguments
counted_of None = listed []
counted_of (Some es) = es

-- a word, or a call
abbrev pub word_of : Token → Option Arguments → Tree
word_of t None = Word t.at t.name
word_of t (Some all_rows) = count_of (is_a c.Count t.class) t.at
word_of t (Some (listed es)) = call_of (is_a c.Timestamp t.class) t es

abbrev pub place_of : Tree → ℕ
place_of (Integer at n) = at
place_of (Real at n) = at
place_of (Text at t) = at
place_of (Null at) = at
place_of (Timestamp at v p) = at
place_of (Word at t) = at
place_of (Call at t es) = at
place_of (CountAll at) = at
place_of (PropCountAll at) = at
place_of (Case at e ws o) = at

abbrev pub test_place : Test → ℕ
test_place (Or at a b) = at
test_place (And at a b) = at
test_place (Not at a) = at
test_place (Compare at how a b) = at
test_place (IsNull at a neg) = at
test_place (Like at a p neg) = at
test_place (Between at a b d neg) = at
test_place (InList at a es neg) = at
test_place (InQuery at a neg given) = at

abbrev pub test_at : ℕ → Test → Test
test_at at (Or old a b) = Or at a b
test_at at (And old a b) = And at a b
test_at at (Not old a) = Not at a
test_at at (Compare old how a b) = Compare at how a b
test_at at (IsNull old a neg) = IsNull at a neg
test_at at (Like old a p neg) = Like at a p neg
test_at at (Between old a b d neg) = Between at a b d neg
test_at at (InList old a es neg) = InList at a es neg
test_at at (InQuery old a neg given) = InQuery at a neg given

-- a condition in parentheses stands where they do
abbrev pub condition_at : ℕ → Condition → Condition
condition_at at x = record { test = test_at at x.test; asked = x.asked }

abbrev pub not_of : ℕ → Condition → Condition
not_of at x = record { test = Not at x.test; asked = x.asked }

abbrev pub or_both : Condition → Condition → Condition
or_both x y = record { test = Or (test_place x.test) x.test y.test; asked = x.asked ++ y.asked }

abbrev pub and_both : Condition → Condition → Condition
and_both x y = record { test = And (test_place x.test) x.test y.test; asked = x.asked ++ y.asked }

-- conditions joined from the left
abbrev pub or_of : Condition → List Condition → Condition
or_of x [] = x
or_of x (y ∷ ys) = or_of (or_both x y) ys

abbrev pub and_of : Condition → List Condition → Condition
and_of x [] = x
and_of x (y ∷ ys) = and_of (and_both x y) ys

abbrev pub range_test : Tree → Bool → Range → Condition
range_test e neg (like p) = record { test = Like (place_of e) e p neg; asked = [] }
range_test e neg (between b d) = record { test = Between (place_of e) e b d neg; asked = [] }
range_test e neg (within (values es)) = record { test = InList (place_of e) e (trees_of es) neg; asked = [] }
range_test e neg (within (asked q)) = record { test = InQuery (place_of e) e neg None; asked = q ∷ [] }

-- a test of its first expression and what stands behind
abbrev pub test_of : Tree → Tail → Condition
test_of e (compared how b) = record { test = Compare (place_of e) how e b; asked = [] }
test_of e (null neg) = record { test = IsNull (place_of e) e neg; asked = [] }
test_of e (ranged neg r) = range_test e neg r

abbrev pub held : Option Bool → Bool
held None = false
held (Some b) = b

abbrev pub items_of : Option (List Item) → List Item
items_of None = []
items_of (Some is) = is

abbrev pub keys_of : Option (List Tree × Bool) → List Tree
keys_of None = []
keys_of (Some x) = x.0

abbrev pub mark_of : Option (List Tree × Bool) → Bool
mark_of None = false
mark_of (Some x) = x.1

abbrev pub asked_of : Option Condition → List Query
asked_of None = []
asked_of (Some x) = x.asked

abbrev pub tested_of : Option Condition → Option Test
tested_of None = None
tested_of (Some x) = Some x.test

-- what a subquery has: DISTINCT, its expression, its names and its condition
abbrev pub subquery_of : Bool → Tree → List Placed → Option Condition → Query
subquery_of distinct value names condition = query (record {
  top = None;
  distinct = distinct;
  star = None;
  items = record { value = value; alias = None } ∷ [];
  aliases = [];
  into = None;
  names = names;
  condition = tested_of condition;
  keys = [];
  rollup = false;
  having = None;
  order = [];
  descending = false;
}) no_queries

-- the parts from TOP to the list, from USING to WHERE, and from GROUP BY on
abbrev pub Selected : Type 0
Selected = Option ℤ × (Bool × (Option ℕ × List Item))

abbrev pub Sourced : Type 0
Sourced = Option (List Item) × (Option Placed × (List Placed × Option Condition))

abbrev pub Ended : Type 0
Ended = Option (List Tree × Bool) × (Option Condition × Option (List Tree × Bool))

abbrev pub query_of : Selected → Sourced → Ended → Query
query_of s u e = query (record {
  top = s.0;
  distinct = s.1.0;
  star = s.1.1.0;
  items = s.1.1.1;
  aliases = items_of u.0;
  into = u.1.0;
  names = u.1.1.0;
  condition = tested_of u.1.1.1;
  keys = keys_of e.0;
  rollup = mark_of e.0;
  having = tested_of e.1.0;
  order = keys_of e.1.1;
  descending = mark_of e.1.1;
}) (queries_of (asked_of u.1.1.1 ++ asked_of e.1.0))
