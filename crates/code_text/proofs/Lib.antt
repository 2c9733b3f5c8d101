mod Leading
mod Guessing
mod Unique
mod Lines
mod Readings
pub mod Offered
