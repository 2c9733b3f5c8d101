pub mod Guess
pub mod Writing
