pub mod Keywords
pub mod Symbols
pub mod Lexed
pub mod Bytes
pub mod Numbers
pub mod Standing
pub mod Reading
