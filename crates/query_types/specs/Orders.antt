-- Where the expressions of ORDER BY stand among what is selected.
use Rattle.std.specs.Prelude.{ℕ, Bool, true, false, ◌&&◌, ◌==◌, List, [], ◌∷◌, Option, Some, None, Result, Ok, Err}
use Rattle.std.specs.List.{position}
use Rattle.std.specs.Ordering.{is_eq}
use Rattle.std.specs.Str.{str_eq_ignore_ascii_case}
use Rattle.grammar.specs.Trees.{Tree, place_of}
use Rattle.grammar.specs.Trees.{trees_of as listed}
use Rattle.lp_values.specs.declared.value.Value.{Value}
use Rattle.lp_values.specs.Order.{order_of}
use Rattle.lp_functions.specs.Names.{name_of}
use Rattle.query_types.specs.declared.fault.TypeFault.{TypeFault}
use Rattle.query_types.specs.declared.fault.TypeFault.TheVariants as F
use Rattle.query_types.specs.Terms.{Maker, called, branched, written, read, stated, unlisted, Term, column, constant, made, Terms, no_terms, more_terms}
use Rattle.query_types.specs.declared.alias.Alias.{Alias}
use Rattle.query_types.specs.declared.table.TableColumns.{TableColumns}
use Rattle.query_types.specs.Meanings.{added, all_meant, followed}

-- functions are equal by their names, and columns that the table doesn't list by theirs, whatever the case; what is written or read has
-- its pattern among its parts, and a stamp the texts of its TIMESTAMP
abbrev pub same_maker : Maker → Maker → Bool
same_maker (called f) (called g) = str_eq_ignore_ascii_case (name_of f) (name_of g)
same_maker branched branched = true
same_maker (written p) (written q) = true
same_maker (read p) (read q) = true
same_maker (stated v) (stated w) = is_eq (order_of v w)
same_maker (unlisted n) (unlisted m) = str_eq_ignore_ascii_case n m
same_maker a b = false

-- whether two expressions are equal by their form, once their names are replaced: columns by place, constants by kind and value, and what
-- is made of others by how it is made and by its parts
abbrev mutual
  pub same_term : Term → Term → Bool
  same_term (column k) (column n) = k == n
  same_term (constant v) (constant w) = is_eq (order_of v w)
  same_term (made kind by of) (made other_kind other_by others) = same_maker by other_by && same_terms of others
  same_term a b = false

  pub same_terms : Terms → Terms → Bool
  same_terms no_terms no_terms = true
  same_terms (more_terms a of) (more_terms b others) = same_term a b && same_terms of others
  same_terms of others = false

abbrev pub place_found : ℕ → Option ℕ → Result ℕ TypeFault
place_found at None = Err (F.NotInSelect at)
place_found at (Some place) = Ok place

-- the place of the first item that an expression equals
abbrev pub place_among : List Term → Term → ℕ → Result ℕ TypeFault
place_among items term at = place_found at (position (same_term term) items)

-- the places of the items that expressions equal, whose meanings stand beside them; or the first that equals none
abbrev pub order_places : List Term → List Tree → List Term → Result (List ℕ) TypeFault
order_places items (e ∷ es) (term ∷ terms) = added (place_among items term (place_of e)) (order_places items es terms)
order_places items es terms = Ok []

-- the places of the items that the expressions of ORDER BY equal: first what they mean, then where that stands
abbrev pub places_asked : TableColumns → Value → List Alias → List Term → List Tree → Result (List ℕ) TypeFault
places_asked table moment aliases items es = followed (all_meant table moment aliases (listed es)) (order_places items es)
