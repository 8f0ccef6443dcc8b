pub mod Generations
pub mod Spans
pub mod Growing
pub mod Chains
pub mod Phases
pub mod OneSettled
pub mod Settling
