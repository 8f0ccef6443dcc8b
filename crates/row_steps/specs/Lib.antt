pub mod Grouped
pub mod Widths
pub mod Gathered
pub mod Rows
