pub mod BackLemmas
pub mod DayLemmas
pub mod DigitLemmas
pub mod PatternLemmas
pub mod PieceLemmas
pub mod ReadingLemmas
pub mod ReadsBackLemmas
