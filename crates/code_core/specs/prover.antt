pub mod Passing
pub mod Coding
