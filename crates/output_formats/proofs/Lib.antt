pub mod Quoting
pub mod Stopping
