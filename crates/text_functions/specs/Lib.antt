pub mod Pieces
pub mod Positions
pub mod Replacing
pub mod Tokens
pub mod Edges
pub mod Likes
pub mod Fronts
pub mod Runs
