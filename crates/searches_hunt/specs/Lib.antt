pub mod Draws
pub mod Hunts
pub mod Never
pub mod Tallies
pub mod Times
pub mod prover
