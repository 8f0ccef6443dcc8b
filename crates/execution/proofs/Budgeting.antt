-- Bad lines beside those of subqueries.
use Rattle.std.proofs.Common.{◌≡◌, ◌∙◌, ◌+◌, ◌≤◌, ℕ, List, length, Option, Some, None, IfSome, unwrap_or, ap, sym, arith}
use Rattle.grammar.specs.Filled.{given_bad}
use Rattle.grammar.specs.Trees.{Query}
use Rattle.lp_model.specs.Outside.{Folder, Told}
use Rattle.query_run.specs.declared.executing.Counts.{Counts}
use Rattle.log_reading.specs.Page.{IsTooMany, IsWithin}
use Rattle.execution.specs.Budgets.{IsBudget}
use Rattle.execution.specs.declared.errors.BadBudget.{BadBudget}

-- one too many beside those is one too many of all
pub beside : {B : Type 0} (errors : Option ℕ) (before most : ℕ) (budget : BadBudget) (lines : List B) (line : B) → errors ≡ Some most → IsBudget errors before budget → IsTooMany (Some budget.most) 0 lines line → IsTooMany errors before lines line
beside errors before most budget lines line are is many =
    let sum : IfSome (Some most) (λ m. budget.before + budget.most ≡ m) = rw are at is.sum in
    let here : budget.most ≡ 0 + length many.front = ap (λ (o : Option ℕ). unwrap_or o 0) many.most in
    let met = is.met in
    let total : most ≡ before + length many.front = omega (arith, sum, met, here) in
    record {
      front = many.front;
      rest = many.rest;
      stands = many.stands;
      most = are ∙ ap (λ (n : ℕ). Some n) total;
    }

-- with those before there are no more than there may be
pub all_within : (errors : Option ℕ) (before : ℕ) (budget : BadBudget) (bad total : ℕ) → IsBudget errors before budget → IsWithin (Some budget.most) bad → total ≡ budget.before + bad → IsWithin errors total
all_within None before budget bad total is within total_is = tt
all_within (Some most) before budget bad total is within total_is =
    let sum = is.sum in
    omega (arith, sum, within, total_is)

-- and so of those of all lines
pub all_of : (errors : Option ℕ) (before : ℕ) (budget : BadBudget) (bad : ℕ) → IsBudget errors before budget → IsWithin (Some budget.most) bad → IsWithin errors (before + bad)
all_of errors before budget bad is within = all_within errors before budget bad (before + bad) is within (ap (λ (n : ℕ). n + bad) (sym is.met))

-- the counts of a run, and the same with the bad lines of its query's subqueries
pub record AreAll (q : Query) (run counts : Counts) : Type 0 where
  pub processed : counts.processed ≡ run.processed
  pub output : counts.output ≡ run.output
  pub bad : counts.bad ≡ given_bad q + run.bad

pub are_all : (q : Query) (errors : Option ℕ) (budget : BadBudget) (run counts : Counts) → IsBudget errors (given_bad q) budget → counts.processed ≡ run.processed → counts.output ≡ run.output → counts.bad ≡ budget.before + run.bad → AreAll q run counts
are_all q errors budget run counts is processed output bad = record { processed = processed; output = output; bad = bad ∙ ap (λ (n : ℕ). n + run.bad) is.met }

pub told_beside : {B : Type 0} (told : Option Folder) (errors : Option ℕ) (before most : ℕ) (budget : BadBudget) (Kept : Folder → Type 0) (lines : Folder → List B) (line : B) → errors ≡ Some most → IsBudget errors before budget
    → Told told (λ folder. Kept folder → IsTooMany (Some budget.most) 0 (lines folder) line) → Told told (λ folder. Kept folder → IsTooMany errors before (lines folder) line)
told_beside None errors before most budget Kept lines line are is exceeds = tt
told_beside (Some folder) errors before most budget Kept lines line are is exceeds = λ kept. beside errors before most budget (lines folder) line are is (exceeds kept)
