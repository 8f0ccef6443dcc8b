mod Moves
mod Handed
mod Puts
mod Taken
pub mod Ends
