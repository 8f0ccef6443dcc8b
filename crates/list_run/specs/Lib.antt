pub mod Lists
pub mod Keeping
pub mod Gathering
pub mod Collected
pub mod Faults
pub mod Rules
pub mod Made
