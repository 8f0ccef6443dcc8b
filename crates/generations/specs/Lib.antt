pub mod Numbers
pub mod There
pub mod Ranges
pub mod Files
