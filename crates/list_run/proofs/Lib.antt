pub mod Taken
pub mod Same
pub mod Alike
pub mod Spanning
pub mod Sampled
