pub mod Table
pub mod Shapes
pub mod Lines
pub mod Pieces
pub mod Form
pub mod Stepping
