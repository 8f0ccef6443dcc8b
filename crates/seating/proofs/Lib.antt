mod Gathers
mod Seats
mod Widths
