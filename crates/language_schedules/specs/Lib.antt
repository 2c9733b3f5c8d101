pub mod Schedule
pub mod Moves
pub mod Written
pub mod Laws
pub mod prover
