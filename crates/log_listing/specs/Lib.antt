pub mod Firsts
pub mod Listed
pub mod Lengths
