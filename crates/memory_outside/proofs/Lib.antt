pub mod OneFile
pub mod Listings
pub mod MemorySteps
pub mod Replayed
pub mod DiskCalls
