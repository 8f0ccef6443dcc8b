mod Terms
mod Steps
