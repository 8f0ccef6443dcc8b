pub mod Names
pub mod Standing
pub mod Distinct
pub mod Splits
