pub mod Calendar
pub mod OrderLemmas
pub mod ReadingLemmas
pub mod SameLemmas
pub mod StampLemmas
