pub mod Existing
pub mod Stamps
pub mod Slots
pub mod Names
