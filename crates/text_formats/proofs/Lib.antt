pub mod Breaking
pub mod Stopping
pub mod Tabling
pub mod Piecing
pub mod Blocks
pub mod Searching
pub mod Noting
