pub mod Tries
pub mod Parts
pub mod Counting
