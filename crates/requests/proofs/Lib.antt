pub mod Growing
pub mod Templates
pub mod Given
mod Cutting
mod Naming
mod Refusing
