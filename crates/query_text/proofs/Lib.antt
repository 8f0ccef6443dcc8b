mod Placing
mod Refusing
