-- A term as a list of the steps that make it, by which terms are told apart.
use Rattle.std.specs.Prelude.{◌≡◌, ◌⊎◌, ℕ, List, [], ◌∷◌, refl}
use Rattle.std.proofs.Common.{◌∙◌, ap}
use mathlib.Core.Logic.{inl, inr}
use Rattle.lp_values.specs.declared.kind.Kind.{Kind}
use Rattle.lp_values.specs.declared.value.Value.{Value}
use Rattle.lp_values.specs.declared.value.Value.TheVariants.{Null}
use Rattle.query_types.specs.Terms.{Maker, Term, column, constant, made, Terms, no_terms, more_terms}

-- a step puts a term or an empty list on what was made, or takes terms off it and makes one of them
pub data Step : Type 0 where
  a_column : ℕ → Step
  a_constant : Value → Step
  none : Step
  one_more : Step
  a_made : Kind → Maker → Step

abbrev mutual
  -- the steps of a term in front of others
  pub steps_of : Term → List Step → List Step
  steps_of (column k) rest = a_column k ∷ rest
  steps_of (constant value) rest = a_constant value ∷ rest
  steps_of (made kind by of) rest = all_steps of (a_made kind by ∷ rest)

  pub all_steps : Terms → List Step → List Step
  all_steps no_terms rest = none ∷ rest
  all_steps (more_terms term terms) rest = steps_of term (all_steps terms (one_more ∷ rest))

abbrev pub Stack : Type 0
Stack = List (Term ⊎ Terms)

abbrev pub taken : Step → Stack → Stack
taken (a_column k) stack = inl (column k) ∷ stack
taken (a_constant value) stack = inl (constant value) ∷ stack
taken none stack = inr no_terms ∷ stack
taken one_more (inr terms ∷ inl term ∷ stack) = inr (more_terms term terms) ∷ stack
taken one_more stack = stack
taken (a_made kind by) (inr terms ∷ stack) = inl (made kind by terms) ∷ stack
taken (a_made kind by) stack = stack

abbrev pub all_taken : List Step → Stack → Stack
all_taken [] stack = stack
all_taken (step ∷ steps) stack = all_taken steps (taken step stack)

abbrev pub top_of : Stack → Term
top_of (inl term ∷ stack) = term
top_of stack = constant Null

abbrev pub term_made : List Step → Term
term_made steps = top_of (all_taken steps [])

mutual
  steps_make : (term : Term) (rest : List Step) (stack : Stack) → all_taken (steps_of term rest) stack ≡ all_taken rest (inl term ∷ stack)
  steps_make (column k) rest stack = refl
  steps_make (constant value) rest stack = refl
  steps_make (made kind by of) rest stack = all_steps_make of (a_made kind by ∷ rest) stack

  all_steps_make : (terms : Terms) (rest : List Step) (stack : Stack) → all_taken (all_steps terms rest) stack ≡ all_taken rest (inr terms ∷ stack)
  all_steps_make no_terms rest stack = refl
  all_steps_make (more_terms term terms) rest stack = steps_make term (all_steps terms (one_more ∷ rest)) stack ∙ all_steps_make terms (one_more ∷ rest) (inl term ∷ stack)

abbrev pub steps_in : Term → List Step
steps_in term = steps_of term []

-- the steps of a term make it
pub made_back : (term : Term) → term_made (steps_in term) ≡ term
made_back term = ap top_of (steps_make term [] [])
