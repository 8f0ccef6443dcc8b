pub mod Parts
pub mod LastPart
pub mod Few
pub mod Places
pub mod Refusals
