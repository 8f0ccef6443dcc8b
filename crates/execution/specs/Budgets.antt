-- How many bad lines a run may have beside those of its subqueries.
use Rattle.std.specs.Prelude.{◌≡◌, ◌+◌, ◌≤◌, ◌^◌, ℕ, Option, IfSome}
use Rattle.execution.specs.declared.errors.BadBudget.{BadBudget}

-- so many were met before, and together they are what the words allow; where these allow any number, as many as no run has
pub record IsBudget (errors : Option ℕ) (before : ℕ) (budget : BadBudget) : Type 0 where
  pub met : budget.before ≡ before
  pub few : budget.before + budget.most ≤ 2 ^ 62
  pub sum : IfSome errors (λ most. budget.before + budget.most ≡ most)
