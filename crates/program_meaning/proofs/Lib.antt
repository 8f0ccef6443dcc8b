pub mod Ends
pub mod Meant
pub mod Options
pub mod Kept
pub mod OneMeaning
pub mod Widened
pub mod Listed
pub mod Keeping
pub mod Filled
pub use Rattle.subqueries.proofs.FormatLemmas
pub use Rattle.subqueries.proofs.AtOnce
pub use Rattle.subqueries.proofs.InTurns
pub use Rattle.subqueries.proofs.Clashing
pub use Rattle.subqueries.proofs.Read
pub use Rattle.subqueries.proofs.Steps as SubqueriesSteps
