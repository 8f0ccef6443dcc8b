pub mod Classes
pub mod Trees
pub mod Filled
pub mod Forms
pub mod Rules
pub mod Derivations
pub mod Reading
pub mod Whole
