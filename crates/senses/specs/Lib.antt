pub mod Senses
pub mod Checks
pub mod Clauses
