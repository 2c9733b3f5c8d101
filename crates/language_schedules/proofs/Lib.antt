mod Examples
pub mod ScheduleLemmas
pub mod WritingLemmas
pub mod ReadingBack
pub mod Offered
