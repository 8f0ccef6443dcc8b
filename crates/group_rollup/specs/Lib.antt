pub mod Columns
pub mod Groups
pub mod HandedOut
pub mod Tables
