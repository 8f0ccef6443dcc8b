pub mod Steps
pub mod Answered
mod KeptRecords
pub mod SetsOnce
pub mod Delimited
pub mod Behind
mod Beginnings
mod Records
mod Noted
pub mod Taken
pub mod UpTo
pub mod InTurn
