pub mod Weakening
pub mod Begun
pub mod Fitting
pub mod Utf8
pub mod Backwards
pub mod Tails
pub mod Rows
