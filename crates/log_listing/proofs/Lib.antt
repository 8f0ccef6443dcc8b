pub mod FirstNames
pub mod Grown
pub mod LengthLemmas
