pub mod Status
pub mod Messages
