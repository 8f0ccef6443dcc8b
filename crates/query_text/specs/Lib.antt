pub mod Stdin
pub mod Texts
pub mod Refusals
