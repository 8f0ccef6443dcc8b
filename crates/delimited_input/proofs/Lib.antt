pub mod Searching
pub mod Cutting
pub mod Places
pub mod Machine
pub mod Agreeing
pub mod Keeping
pub mod Rows
pub mod Naming
pub mod First
pub mod Carrying
pub mod Sampling
pub mod Telling
pub mod Written
mod PieceLemmas
