pub mod Clauses
pub mod Groups
pub mod Subquery
pub use Rattle.senses.specs.Senses
pub use Rattle.sensing.specs.Sensing
pub use Rattle.sensing.specs.Checked
pub use Rattle.judging.specs.Asked
