pub mod Answering
pub mod Arguments
mod Existing
pub mod Forms
pub mod Lists
mod ExpressionsMeant
mod Placing
pub mod Parts
pub mod Spellings
pub mod Steps
pub mod Using
pub mod Whole
