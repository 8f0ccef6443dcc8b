pub mod Output
pub mod Gaining
pub mod Fronts
