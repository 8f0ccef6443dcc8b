pub mod Fields
pub mod PutLemmas
pub mod Picked
mod PartedLemmas
