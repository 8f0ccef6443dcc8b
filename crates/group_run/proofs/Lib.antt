pub mod GroupRuns
mod Reached
