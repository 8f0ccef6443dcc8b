-- How many bytes a run reads.
use Rattle.std.specs.Prelude.{ℕ, ◌+◌, ◌≤◌, Option}
use Rattle.grammar.specs.Trees.{Query}
use Rattle.lp_model.specs.Outside.{Folder, OnlyGrow}
use Rattle.run_entry.specs.Giving.{subqueries_of}
use Rattle.run_entry.specs.SubqueriesReading.{ReadsAll}

-- first no more than the logs of the subqueries had at some moment, then no more than so many bytes
pub record ReadsThen (now : Option Folder) (q : Query) (size before later : ℕ) : Type 0 where
  pub seen : Option Folder
  pub grows : OnlyGrow seen now
  pub between : ℕ
  pub subqueries : ReadsAll seen (subqueries_of q) before between
  pub most : later ≤ between + size
