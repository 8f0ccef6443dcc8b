pub mod Answering
pub mod Since
pub mod Stepping
pub mod Naming
mod Files
mod OnDisk
mod Commanding
pub use Rattle.checkpointed_run.proofs.FormatLemmas
pub use Rattle.checkpointed_run.proofs.AtOnce
pub use Rattle.checkpointed_run.proofs.InTurns
pub use Rattle.checkpointed_run.proofs.Options
pub use Rattle.checkpointed_run.proofs.Clashing
pub use Rattle.checkpointed_run.proofs.SubqueriesSteps
