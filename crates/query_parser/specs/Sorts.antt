-- Some classes of tokens.
use Rattle.std.specs.Prelude.{Bool}
use Rattle.grammar.specs.declared.Class.{Class}
use Rattle.grammar.specs.Rules.{is_plain, is_counting, is_word, is_integer, is_separator, begins_literal, begins_expr}
use Rattle.query_parser.specs.declared.token.Sort.{Sort}
use Rattle.query_parser.specs.declared.token.Sort.TheVariants as s

-- whether a class is of a sort
abbrev pub in_sort : Sort → Class → Bool
in_sort s.Word = is_word
in_sort s.Plain = is_plain
in_sort s.Counting = is_counting
in_sort s.Integer = is_integer
in_sort s.Separator = is_separator
in_sort s.Literal = begins_literal
in_sort s.Expression = begins_expr
