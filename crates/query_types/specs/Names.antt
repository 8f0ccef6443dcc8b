-- The names of output columns.
use Rattle.std.specs.Prelude.{ℕ, List, [], ◌∷◌, ◌++◌, flat_map, map, codes, ◌==◌, if◌then◌else◌, Option, Some, None}
use Rattle.std.specs.Char.{to_ascii_uppercase}
use Rattle.std.specs.Fmt.{signed_decimal}
use Rattle.std.specs.List.{find}
use Rattle.std.specs.Str.{str_eq_ignore_ascii_case}
use Rattle.grammar.specs.Trees.{Tree, Trees, no_trees, more_trees, Whens, no_whens, more_whens, Otherwise, no_else, an_else, Placed}
use Rattle.grammar.specs.Trees.{Tree as tree}
use Rattle.lp_values.specs.Printed.{printed_real}
use Rattle.query_types.specs.declared.table.NamedKind.{NamedKind}
use Rattle.query_types.specs.declared.table.TableColumns.{TableColumns}
use Rattle.query_types.specs.declared.alias.Alias.{Alias}
use Rattle.query_types.specs.Calls.{is_counting}
use Rattle.query_types.specs.Meanings.{alias_named}

-- a quote is doubled
abbrev pub doubled : ℕ → List ℕ
doubled byte = if byte == 39 then 39 ∷ 39 ∷ [] else byte ∷ []

abbrev pub quoted : List ℕ → List ℕ
quoted text = 39 ∷ flat_map doubled text ++ 39 ∷ []

-- a name that means no column is spelled as its alias, or else as written
abbrev pub alias_spelled : Option Alias → List ℕ → List ℕ
alias_spelled None name = name
alias_spelled (Some alias) name = alias.name

abbrev pub column_spelled : Option NamedKind → Option Alias → List ℕ → List ℕ
column_spelled None alias name = alias_spelled alias name
column_spelled (Some column) alias name = column.name

-- a word is spelled as the table spells its column, or as AS spells its alias
abbrev pub word_spelled : TableColumns → List Alias → List ℕ → List ℕ
word_spelled table aliases name = column_spelled (find (λ column. str_eq_ignore_ascii_case column.name name) table.columns) (alias_named aliases name) name

-- TIMESTAMP
abbrev pub stamp_spelled : Placed → Placed → List ℕ
stamp_spelled value pattern = codes "TIMESTAMP(" ++ quoted value.text ++ codes ", " ++ quoted pattern.text ++ codes ")"

-- what stands before the argument of an aggregate
abbrev pub all_of : List ℕ → List ℕ
all_of name = if is_counting name then codes "ALL " else []

abbrev mutual
  -- an expression as the name of its column
  pub spelled : TableColumns → List Alias → Tree → List ℕ
  spelled table aliases (tree.Integer at value) = signed_decimal value
  spelled table aliases (tree.Real at value) = printed_real value
  spelled table aliases (tree.Text at value) = quoted value
  spelled table aliases (tree.Null at) = codes "NULL"
  spelled table aliases (tree.Timestamp at value pattern) = stamp_spelled value pattern
  spelled table aliases (tree.Word at name) = word_spelled table aliases name
  spelled table aliases (tree.Call at name es) = map to_ascii_uppercase name ++ codes "(" ++ all_spelled table aliases (all_of name) es ++ codes ")"
  spelled table aliases (tree.CountAll at) = codes "COUNT(ALL *)"
  spelled table aliases (tree.PropCountAll at) = codes "PROPCOUNT(*)"
  spelled table aliases (tree.Case at subject branches otherwise) =
      codes "CASE " ++ spelled table aliases subject ++ branches_spelled table aliases branches ++ else_spelled table aliases otherwise ++ codes " END"

  -- expressions, the first behind this, the others each behind a comma and a space
  pub all_spelled : TableColumns → List Alias → List ℕ → Trees → List ℕ
  all_spelled table aliases separator no_trees = []
  all_spelled table aliases separator (more_trees e es) = separator ++ spelled table aliases e ++ all_spelled table aliases (codes ", ") es

  pub branches_spelled : TableColumns → List Alias → Whens → List ℕ
  branches_spelled table aliases no_whens = []
  branches_spelled table aliases (more_whens test value branches) =
      codes " WHEN " ++ spelled table aliases test ++ codes " THEN " ++ spelled table aliases value ++ branches_spelled table aliases branches

  pub else_spelled : TableColumns → List Alias → Otherwise → List ℕ
  else_spelled table aliases no_else = []
  else_spelled table aliases (an_else value) = codes " ELSE " ++ spelled table aliases value

-- an item is named by its alias, or else by its expression
abbrev pub item_name : TableColumns → List Alias → Option (List ℕ) → Tree → List ℕ
item_name table aliases None value = spelled table aliases value
item_name table aliases (Some name) value = name
