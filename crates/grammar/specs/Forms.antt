-- The forms of rules, and what each is worth.
use Rattle.std.specs.Prelude.{ℕ, ℤ, Bool, true, false, ◌&&◌, ◌||◌, List, Option}
use Rattle.grammar.specs.Classes.{Class, for_some}
use Rattle.grammar.specs.Trees.{Token, Placed, Tree, Item, Query, Condition, Arguments, Set', Range, Tail}

pub data Kind : Type 0 where
  token : Kind
  number : Kind
  truth : Kind
  place : Kind
  text : Kind
  placed : Kind
  tree : Kind
  arguments : Kind
  condition : Kind
  tail : Kind
  range : Kind
  set : Kind
  item : Kind
  query : Kind
  list : Kind → Kind
  maybe : Kind → Kind
  pair : Kind → Kind → Kind

abbrev pub Worth : Kind → Type 0
Worth token = Token
Worth number = ℤ
Worth truth = Bool
Worth place = ℕ
Worth text = List ℕ
Worth placed = Placed
Worth tree = Tree
Worth arguments = Arguments
Worth condition = Condition
Worth tail = Tail
Worth range = Range
Worth set = Set'
Worth item = Item
Worth query = Query
Worth (list a) = List (Worth a)
Worth (maybe a) = Option (Worth a)
Worth (pair a b) = Worth a × Worth b

-- the rules of the grammar; those of conditions say whether a subquery may stand in them
pub data Rule : Type 0 where
  query_rule : Rule
  item_rule : Rule
  using_rule : Rule
  cond_rule : Bool → Rule
  conj_rule : Bool → Rule
  neg_rule : Bool → Rule
  test_rule : Bool → Rule
  tail_rule : Bool → Rule
  range_rule : Bool → Rule
  set_rule : Bool → Rule
  asked_rule : Rule
  expr_rule : Rule

abbrev pub kind : Rule → Kind
kind query_rule = query
kind item_rule = item
kind using_rule = item
kind (cond_rule asks) = condition
kind (conj_rule asks) = condition
kind (neg_rule asks) = condition
kind (test_rule asks) = condition
kind (tail_rule asks) = tail
kind (range_rule asks) = range
kind (set_rule asks) = set
kind asked_rule = query
kind expr_rule = tree

-- a token of some classes; one after another; either; any number of times; perhaps; with another worth; an opening
-- token and what stands one level deeper; a rule by its name
pub data Form : Kind → Type 0 where
  Tok : (Class → Bool) → Form token
  Seq : {a b : Kind} → Form a → Form b → Form (pair a b)
  Alt : {a : Kind} → Form a → Form a → Form a
  Many : {a : Kind} → Form a → Form (list a)
  Opt : {a : Kind} → Form a → Form (maybe a)
  Map : {a b : Kind} → (Worth a → Worth b) → Form a → Form b
  Nest : {a : Kind} → (Class → Bool) → Form a → Form (pair token a)
  Ref : (n : Rule) → Form (kind n)

-- whether a form may have no tokens
abbrev pub is_nullable : {a : Kind} → Form a → Bool
is_nullable (Tok p) = false
is_nullable (Seq f g) = is_nullable f && is_nullable g
is_nullable (Alt f g) = is_nullable f || is_nullable g
is_nullable (Many f) = true
is_nullable (Opt f) = true
is_nullable (Map h f) = is_nullable f
is_nullable (Nest p f) = false
is_nullable (Ref n) = false

-- whether each token of a form has a class
abbrev pub can_be : {a : Kind} → Form a → Bool
can_be (Tok p) = for_some p
can_be (Seq f g) = can_be f && can_be g
can_be (Alt f g) = can_be f
can_be (Many f) = true
can_be (Opt f) = true
can_be (Map h f) = can_be f
can_be (Nest p f) = for_some p && can_be f
can_be (Ref n) = true
