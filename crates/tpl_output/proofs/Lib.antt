pub mod Scanning
pub mod Digits
pub mod Replacing
