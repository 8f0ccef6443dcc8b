pub mod Meeting
pub mod Parts
pub mod Depths
pub mod Growing
pub mod Faults
