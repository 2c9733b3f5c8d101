pub mod Checking
pub mod Comparing
pub mod Wording
pub mod Listening
pub mod Words
pub mod prover
