pub mod Formats
pub mod Wanted
