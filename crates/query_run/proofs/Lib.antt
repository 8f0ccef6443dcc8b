pub mod Puts
pub mod Reasons
pub mod WholeRun
pub mod ReadAhead
pub mod OnePass
