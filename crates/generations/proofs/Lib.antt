pub mod Numbers
pub mod Sets
pub mod Patterns
pub mod Rotated
