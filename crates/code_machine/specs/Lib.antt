pub mod Machine
pub mod Safety
pub mod Laws
pub mod Process
pub mod prover
