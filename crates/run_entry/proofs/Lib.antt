mod Telling
mod Fitting
pub use Rattle.program_meaning.proofs.FormatLemmas
pub use Rattle.program_meaning.proofs.AtOnce
pub use Rattle.program_meaning.proofs.InTurns
pub use Rattle.program_meaning.proofs.Ends
pub use Rattle.program_meaning.proofs.Filled
pub use Rattle.program_meaning.proofs.Keeping
pub use Rattle.program_meaning.proofs.Listed
pub use Rattle.program_meaning.proofs.Meant
pub use Rattle.program_meaning.proofs.OneMeaning
pub use Rattle.program_meaning.proofs.Options
pub use Rattle.program_meaning.proofs.Clashing
pub use Rattle.program_meaning.proofs.Read
pub use Rattle.program_meaning.proofs.SubqueriesSteps
