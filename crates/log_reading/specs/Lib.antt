pub mod Found
pub mod Parts
pub mod Page
pub mod Spans
pub mod UpTo
