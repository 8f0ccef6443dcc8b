pub mod Puts
pub mod Fresh
pub mod Faults
mod Ran
