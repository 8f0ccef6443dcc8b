pub mod Sorts
pub mod Answers
pub mod Conditions
pub mod Clauses
pub mod Queries
pub mod Parsed
