pub mod Callers
pub mod Stamps
pub mod Tries
pub mod Clears
