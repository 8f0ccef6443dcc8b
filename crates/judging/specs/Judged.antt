-- Whether what a query asks of its groups is there in each of them.
use Rattle.std.specs.Prelude.{ℕ, Bool, true, false, not, ◌||◌, List, [], ◌∷◌, if◌then◌else◌, Option, Some, None, option_map, Result, Ok, Err}
use Rattle.std.specs.List.{position}
use Rattle.std.specs.Option.{option_or}
use Rattle.grammar.specs.Trees.{Tree, Test, Parts, place_of, test_place}
use Rattle.query_types.specs.declared.fault.TypeFault.{TypeFault}
use Rattle.query_types.specs.declared.fault.TypeFault.TheVariants as F
use Rattle.query_types.specs.Meanings.{added}
use Rattle.query_types.specs.Orders.{place_found}
use Rattle.senses.specs.Senses.{Sense, Senses, field, fixed, formed, aggregate, grouping, no_senses, more_senses, senses_of, same_sense, is_key}
use Rattle.senses.specs.Checks.{Check, either, both, opposite, compared, null, like, between, within, contained}
use Rattle.senses.specs.Clauses.{Clauses}

-- the place of the first field that may not stand, or GROUPING of what is no key; `free` tells that fields may stand here, as they
-- may within what equals a key. In an aggregate fields may stand, and GROUPING may not
abbrev mutual
  pub misplaced : List Sense → Bool → Sense → Option ℕ
  misplaced keys free (field at term) = if free || is_key keys (field at term) then None else Some at
  misplaced keys free (fixed term) = None
  misplaced keys free (formed kind by of) = all_misplaced keys (free || is_key keys (formed kind by of)) of
  misplaced keys free (aggregate at how of) = misplaced [] true of
  misplaced keys free (grouping at of) = if is_key keys of then None else Some at

  pub all_misplaced : List Sense → Bool → Senses → Option ℕ
  all_misplaced keys free no_senses = None
  all_misplaced keys free (more_senses sense senses) = option_or (misplaced keys free sense) (all_misplaced keys free senses)

module _ (keys : List Sense) (free : Bool) where
  abbrev pub list_misplaced : List Sense → Option ℕ
  list_misplaced senses = all_misplaced keys free (senses_of senses)

  -- the same in a condition
  abbrev pub misplaced_in : Check → Option ℕ
  misplaced_in (either a b) = option_or (misplaced_in a) (misplaced_in b)
  misplaced_in (both a b) = option_or (misplaced_in a) (misplaced_in b)
  misplaced_in (opposite a) = misplaced_in a
  misplaced_in (compared how left right) = option_or (misplaced keys free left) (misplaced keys free right)
  misplaced_in (null value negated) = misplaced keys free value
  misplaced_in (like value pattern negated) = misplaced keys free value
  misplaced_in (between value low high negated) = option_or (misplaced keys free value) (option_or (misplaced keys free low) (misplaced keys free high))
  misplaced_in (within value items negated) = option_or (misplaced keys free value) (list_misplaced items)
  misplaced_in (contained value values negated) = misplaced keys free value

  abbrev pub maybe_misplaced : Option Check → Option ℕ
  maybe_misplaced None = None
  maybe_misplaced (Some check) = misplaced_in check

-- HAVING, which may not stand at all without groups
abbrev pub having_misplaced : Bool → List Sense → Option Test → Option Check → Option ℕ
having_misplaced grouped keys test check = if grouped then maybe_misplaced keys false check else option_map test_place test

-- the first that is misplaced before ORDER BY. Without groups fields may stand everywhere, and GROUPING nowhere
abbrev pub misplaced_before : Bool → Option Test → Clauses → Option ℕ
misplaced_before grouped having clauses =
    option_or (list_misplaced [] true clauses.using)
    (option_or (list_misplaced clauses.keys (not grouped) clauses.items)
    (option_or (maybe_misplaced [] true clauses.condition)
    (option_or (list_misplaced [] true clauses.keys)
    (having_misplaced grouped clauses.keys having clauses.having))))

-- so much, unless something is misplaced
abbrev pub unless : {A : Type 0} → Option ℕ → Result A TypeFault → Result A TypeFault
unless None result = result
unless (Some at) result = Err (F.NotGrouped at)

-- the place of the first item that an expression of ORDER BY at this place equals, or its fault
abbrev pub place_sensed : List Sense → Bool → List Sense → ℕ → Sense → Result ℕ TypeFault
place_sensed keys free items at sense = unless (misplaced keys free sense) (place_found at (position (same_sense sense) items))

-- the places of the items that expressions equal, whose senses stand beside them
abbrev pub places_sensed : List Sense → Bool → List Sense → List Tree → List Sense → Result (List ℕ) TypeFault
places_sensed keys free items (e ∷ es) (sense ∷ senses) = added (place_sensed keys free items (place_of e) sense) (places_sensed keys free items es senses)
places_sensed keys free items es senses = Ok []

-- the second pass over the clauses: the first fault, or the places of the items that the expressions of ORDER BY equal
abbrev pub judged : Bool → Parts → Clauses → Result (List ℕ) TypeFault
judged grouped parts clauses = unless (misplaced_before grouped parts.having clauses) (places_sensed clauses.keys (not grouped) clauses.items parts.order clauses.order)
