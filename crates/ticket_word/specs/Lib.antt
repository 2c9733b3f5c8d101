pub mod Standing
pub mod Faults
pub mod Changes
pub mod Laws
pub mod prover
