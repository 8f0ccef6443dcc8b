mod Having
mod Misplaced
