-- The grammar of queries, one rule for each of its lines.
--
-- Where two lines begin alike, their common front stands once: a test is an expression and a tail, a call is a word and
-- its arguments. What the trees are is said beside each rule.
use Rattle.std.specs.Prelude.{Bool, true, false, ◌&&◌, ◌||◌, [], ◌∷◌, Some, None, is_some}
use Rattle.grammar.specs.Classes.{Class, is_a}
use Rattle.grammar.specs.declared.Class.TheVariants as c
use Rattle.grammar.specs.Trees.{placed, whens_of, otherwise_of, word_of, listed_of, counted_of, condition_at, not_of, or_of, and_of, test_of, subquery_of, query_of, held}
use Rattle.grammar.specs.Trees.{Tree as tree}
use Rattle.grammar.specs.Trees.{Arguments as args}
use Rattle.grammar.specs.Trees.{Set' as set}
use Rattle.grammar.specs.Trees.{Range as range}
use Rattle.grammar.specs.Trees.{Tail as tail}
use Rattle.grammar.specs.Forms.{Kind, Rule, kind, Form, Tok, Seq, Alt, Many, Opt, Map, Nest, Ref}
use Rattle.grammar.specs.Forms.{Kind as k}
use Rattle.grammar.specs.Forms.{Rule as r}

-- a token of this class
abbrev pub a : Class → Form k.token
a c = Tok (is_a c)

-- the second of two, and the first
abbrev pub behind : {b d : Kind} → Form b → Form d → Form d
behind f g = Map (λ x. x.1) (Seq f g)

abbrev pub before : {b d : Kind} → Form b → Form d → Form b
before f g = Map (λ x. x.0) (Seq f g)

-- one, and more behind separators
abbrev pub parted : {b : Kind} → Form k.token → Form b → Form (k.list b)
parted p f = Map (λ x. x.0 ∷ x.1) (Seq f (Many (behind p f)))

-- what stands between parentheses, one level deeper
abbrev pub inside : {b : Kind} → Form b → Form (k.pair k.token b)
inside f = Nest (is_a c.Open) (before f (a c.Close))

abbrev pub in_parens : {b : Kind} → Form b → Form b
in_parens f = Map (λ x. x.1) (inside f)

-- whether something is there
abbrev pub there : {b : Kind} → Form b → Form k.truth
there f = Map (λ x. is_some x) (Opt f)

-- a word, a string and a file's name
abbrev pub is_plain : Class → Bool
is_plain kk = is_a c.Word kk || is_a c.Timestamp kk

abbrev pub is_counting : Class → Bool
is_counting kk = is_a c.Count kk || is_a c.PropCount kk

abbrev pub is_word : Class → Bool
is_word kk = is_plain kk || is_counting kk

abbrev pub is_integer : Class → Bool
is_integer kk = is_a c.Unsigned kk || is_a c.Signed kk

abbrev pub is_separator : Class → Bool
is_separator kk = is_a c.Semicolon kk || is_a c.Comma kk

abbrev pub word : Form k.text
word = Map (λ t. t.name) (Tok is_word)

abbrev pub string : Form k.placed
string = Map placed (a c.Text)

abbrev pub name : Form k.placed
name = Map placed (a c.Name)

-- the rules by their names
abbrev pub expr : Form k.tree
expr = Ref r.expr_rule

abbrev pub item : Form k.item
item = Ref r.item_rule

abbrev pub using : Form k.item
using = Ref r.using_rule

abbrev pub cond : Bool → Form k.condition
cond asks = Ref (r.cond_rule asks)

abbrev pub conj : Bool → Form k.condition
conj asks = Ref (r.conj_rule asks)

abbrev pub neg : Bool → Form k.condition
neg asks = Ref (r.neg_rule asks)

abbrev pub test : Bool → Form k.condition
test asks = Ref (r.test_rule asks)

abbrev pub query : Form k.query
query = Ref r.query_rule

abbrev pub exprs : Form (k.list k.tree)
exprs = parted (a c.Comma) expr

-- query: SELECT [TOP uint] [DISTINCT | ALL] list
abbrev pub top : Form k.number
top = behind (a c.Top) (Map (λ t. t.number) (a c.Unsigned))

abbrev pub distinct : Form k.truth
distinct = Map held (Opt {a = k.truth} (Alt (Map (λ t. true) (a c.Distinct)) (Map (λ t. false) (a c.All))))

-- list: * | item {, item}
abbrev pub list : Form (k.pair (k.maybe k.place) (k.list k.item))
list = Alt (Map (λ t. (Some t.at, [])) (a c.Star)) (Map (λ items. (None, items)) (parted (a c.Comma) item))

abbrev pub selected : Form (k.pair (k.maybe k.number) (k.pair k.truth (k.pair (k.maybe k.place) (k.list k.item))))
selected = behind (a c.Select) (Seq (Opt top) (Seq distinct list))

-- [USING using {, using}] [INTO name] FROM name {, name} [WHERE cond]
abbrev pub usings : Form (k.list k.item)
usings = behind (a c.Using) (parted (a c.Comma) using)

abbrev pub into : Form k.placed
into = behind (a c.Into) name

abbrev pub names : Form (k.list k.placed)
names = parted (a c.Comma) name

abbrev pub from : Form (k.list k.placed)
from = behind (a c.From) names

abbrev pub where' : Bool → Form k.condition
where' asks = behind (a c.Where) (cond asks)

abbrev pub sourced : Form (k.pair (k.maybe (k.list k.item)) (k.pair (k.maybe k.placed) (k.pair (k.list k.placed) (k.maybe k.condition))))
sourced = Seq (Opt usings) (Seq (Opt into) (Seq from (Opt (where' true))))

-- [GROUP BY expr {, expr} [WITH ROLLUP]] [HAVING cond] [ORDER BY expr {, expr} [ASC | DESC]] [;]
abbrev pub keys : Form (k.pair (k.list k.tree) k.truth)
keys = behind (a c.Group) (behind (a c.By) (Seq exprs (there (Seq (a c.With) (a c.Rollup)))))

abbrev pub having : Form k.condition
having = behind (a c.Having) (cond true)

abbrev pub direction : Form k.truth
direction = Map held (Opt {a = k.truth} (Alt (Map (λ t. false) (a c.Asc)) (Map (λ t. true) (a c.Desc))))

abbrev pub order : Form (k.pair (k.list k.tree) k.truth)
order = behind (a c.Order) (behind (a c.By) (Seq exprs direction))

abbrev pub ended : Form (k.pair (k.maybe (k.pair (k.list k.tree) k.truth)) (k.pair (k.maybe k.condition) (k.maybe (k.pair (k.list k.tree) k.truth))))
ended = Seq (Opt keys) (Seq (Opt having) (before (Opt order) (there (a c.Semicolon))))

-- tests: expr cmp expr | expr IS [NOT] NULL | expr [NOT] LIKE string | expr [NOT] BETWEEN expr AND expr | expr [NOT] IN ( set )
abbrev pub comparison : Form k.tail
comparison = Map (λ x. tail.compared x.0.number x.1) (Seq (a c.Compares) expr)

abbrev pub null_test : Form k.tail
null_test = behind (a c.Is) (Map tail.null (before (there (a c.Not)) (a c.Null)))

abbrev pub range_test : Bool → Form k.tail
range_test asks = Map (λ x. tail.ranged x.0 x.1) (Seq (there (a c.Not)) (Ref (r.range_rule asks)))

abbrev pub like : Form k.range
like = Map range.like (behind (a c.Like) string)

abbrev pub between : Form k.range
between = behind (a c.Between) (Map (λ x. range.between x.0 x.1) (Seq expr (behind (a c.And) expr)))

abbrev pub within : Bool → Form k.range
within asks = Map range.within (behind (a c.In) (in_parens (Ref (r.set_rule asks))))

-- set: expr {sep expr} | SELECT [DISTINCT] expr FROM name {, name} [WHERE cond]
abbrev pub values : Form k.set
values = Map set.values (parted (Tok is_separator) expr)

abbrev pub set_of : Bool → Form k.set
set_of false = values
set_of true = Alt values (Map set.asked (Ref r.asked_rule))

-- expr: integer | real | string | NULL
abbrev pub integer : Form k.tree
integer = Map (λ t. tree.Integer t.at t.number) (Tok is_integer)

abbrev pub real : Form k.tree
real = Map (λ t. tree.Real t.at t.number) (a c.Real)

abbrev pub text : Form k.tree
text = Map (λ t. tree.Text t.at t.name) (a c.Text)

abbrev pub null : Form k.tree
null = Map (λ t. tree.Null t.at) (a c.Null)

abbrev pub literal : Form k.tree
literal = Alt integer (Alt real (Alt text null))

-- TIMESTAMP ( string , string ) | word | word ( [expr {, expr}] ) | COUNT ( * ) | PROPCOUNT ( * )
abbrev pub arguments : Form k.arguments
arguments = Map listed_of (in_parens (Opt exprs))

abbrev pub count_arguments : Form k.arguments
count_arguments = Map counted_of (in_parens (Opt {a = k.arguments} (Alt (Map (λ t. args.all_rows) (a c.Star)) (Map args.listed exprs))))

abbrev pub plain_word : Form k.tree
plain_word = Map (λ x. word_of x.0 x.1) (Seq (Tok is_plain) (Opt arguments))

abbrev pub counting_word : Form k.tree
counting_word = Map (λ x. word_of x.0 x.1) (Seq (Tok is_counting) (Opt count_arguments))

-- CASE expr WHEN expr THEN expr {WHEN expr THEN expr} [ELSE expr] END
abbrev pub when : Form (k.pair k.tree k.tree)
when = Seq (behind (a c.When) expr) (behind (a c.Then) expr)

abbrev pub whens : Form (k.list (k.pair k.tree k.tree))
whens = Map (λ x. x.0 ∷ x.1) (Seq when (Many when))

abbrev pub case_end : Form (k.maybe k.tree)
case_end = before (Opt (behind (a c.Else) expr)) (a c.End)

abbrev pub case' : Form k.tree
case' = Map (λ x. tree.Case x.0.at x.1.0 (whens_of x.1.1.0) (otherwise_of x.1.1.1)) (Nest (is_a c.Case) (Seq expr (Seq whens case_end)))

-- the rules
abbrev pub rule : (n : Rule) → Form (kind n)
rule r.query_rule = Map (λ x. query_of x.0 x.1.0 x.1.1) (Seq selected (Seq sourced ended))
rule r.item_rule = Map (λ x. record { value = x.0; alias = x.1 }) (Seq expr (Opt (behind (a c.As) word)))
rule r.using_rule = Map (λ x. record { value = x.0; alias = Some x.1 }) (Seq expr (behind (a c.As) word))
rule (r.cond_rule asks) = Map (λ x. or_of x.0 x.1) (Seq (conj asks) (Many (behind (a c.Or) (conj asks))))
rule (r.conj_rule asks) = Map (λ x. and_of x.0 x.1) (Seq (neg asks) (Many (behind (a c.And) (neg asks))))
rule (r.neg_rule asks) = Alt (Map (λ x. not_of x.0.at x.1) (Nest (is_a c.Not) (neg asks))) (Alt (Map (λ x. condition_at x.0.at x.1) (inside (cond asks))) (test asks))
rule (r.test_rule asks) = Map (λ x. test_of x.0 x.1) (Seq expr (Ref (r.tail_rule asks)))
rule (r.tail_rule asks) = Alt comparison (Alt null_test (range_test asks))
rule (r.range_rule asks) = Alt like (Alt between (within asks))
rule (r.set_rule asks) = set_of asks
rule r.asked_rule = Map (λ x. subquery_of x.0 x.1.0 x.1.1.0 x.1.1.1) (Seq (behind (a c.Select) (there (a c.Distinct))) (Seq expr (Seq from (Opt (where' false)))))
rule r.expr_rule = Alt literal (Alt plain_word (Alt counting_word case'))

-- the classes with which an expression begins
abbrev pub begins_literal : Class → Bool
begins_literal kk = is_integer kk || is_a c.Real kk || is_a c.Text kk || is_a c.Null kk

abbrev pub begins_expr : Class → Bool
begins_expr kk = begins_literal kk || is_word kk || is_a c.Case kk

abbrev pub begins_cond : Class → Bool
begins_cond kk = is_a c.Not kk || is_a c.Open kk || begins_expr kk

abbrev pub begins_range : Class → Bool
begins_range kk = is_a c.Like kk || is_a c.Between kk || is_a c.In kk

-- the classes with which a rule begins
abbrev pub begins : Rule → Class → Bool
begins r.query_rule kk = is_a c.Select kk
begins r.item_rule kk = begins_expr kk
begins r.using_rule kk = begins_expr kk
begins (r.cond_rule asks) kk = begins_cond kk
begins (r.conj_rule asks) kk = begins_cond kk
begins (r.neg_rule asks) kk = begins_cond kk
begins (r.test_rule asks) kk = begins_expr kk
begins (r.tail_rule asks) kk = is_a c.Compares kk || is_a c.Is kk || is_a c.Not kk || begins_range kk
begins (r.range_rule asks) kk = begins_range kk
begins (r.set_rule asks) kk = begins_expr kk || (asks && is_a c.Select kk)
begins r.asked_rule kk = is_a c.Select kk
begins r.expr_rule kk = begins_expr kk

abbrev pub goes_on_cond : Class → Bool
goes_on_cond kk = is_a c.Or kk || is_a c.And kk || is_a c.Open kk

abbrev pub goes_on_asked : Class → Bool
goes_on_asked kk = is_a c.Comma kk || is_a c.Where kk || goes_on_cond kk

-- the classes that go on with a rule where it could end
abbrev pub goes_on : Rule → Class → Bool
goes_on r.query_rule kk = goes_on_asked kk || is_a c.Group kk || is_a c.With kk || is_a c.Having kk || is_a c.Order kk || is_a c.Asc kk || is_a c.Desc kk || is_a c.Semicolon kk
goes_on r.item_rule kk = is_a c.As kk || is_a c.Open kk
goes_on r.using_rule kk = false
goes_on (r.cond_rule asks) kk = goes_on_cond kk
goes_on (r.conj_rule asks) kk = is_a c.And kk || is_a c.Open kk
goes_on (r.neg_rule asks) kk = is_a c.Open kk
goes_on (r.test_rule asks) kk = is_a c.Open kk
goes_on (r.tail_rule asks) kk = is_a c.Open kk
goes_on (r.range_rule asks) kk = is_a c.Open kk
goes_on (r.set_rule asks) kk = is_a c.Semicolon kk || is_a c.Comma kk || is_a c.Open kk || (asks && goes_on_asked kk)
goes_on r.asked_rule kk = goes_on_asked kk
goes_on r.expr_rule kk = is_a c.Open kk
