pub mod Rows
pub mod Faults
pub mod Writer
pub mod Writing
pub mod Ahead
pub mod InTurn
