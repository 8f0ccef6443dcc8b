pub mod StampLemmas
pub mod Texts
pub mod NameLemmas
pub mod Numbers
