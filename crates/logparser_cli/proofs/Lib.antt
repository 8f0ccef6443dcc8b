pub mod Given
pub mod Wholes
pub mod Prepared
pub mod Answering
mod Mapping
mod Filed
mod Written
mod Building
mod Worded
mod Keeping
mod Templating
pub mod Streamed
mod LinesUpTo
mod Passed
mod OnePasses
pub use Rattle.checkpointed_command.proofs.Answering as CheckpointedCommandAnswering
pub use Rattle.checkpointed_command.proofs.Options
