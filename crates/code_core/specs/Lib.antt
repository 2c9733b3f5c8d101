pub mod Instructions
pub mod Heights
pub mod Verified
pub mod Words
pub mod prover
