pub mod Decided
pub mod Judged
pub mod Offered
