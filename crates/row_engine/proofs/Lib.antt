pub mod Agreeing
mod Comparing
mod Forms
mod Likeness
mod SettledLemmas
mod Truths
mod Uses
