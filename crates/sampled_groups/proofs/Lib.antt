mod Opens
mod Puts
mod Fresh
mod Ran
