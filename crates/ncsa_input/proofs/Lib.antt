pub mod Taking
pub mod Rows
pub mod Fitting
pub mod Spelling
pub mod Forming
pub mod Parting
