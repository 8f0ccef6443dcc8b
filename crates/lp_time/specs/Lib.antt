pub mod CommonLog
pub mod Days
pub mod Patterns
pub mod Readings
pub mod ReadsBack
pub mod Writings
