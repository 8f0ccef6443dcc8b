pub mod Sensing
pub mod Checked
