mod Refused
mod Turning
mod Answered
mod Example
