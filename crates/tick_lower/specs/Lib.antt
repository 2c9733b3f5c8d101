pub mod Lowered
pub mod Commits
pub mod Laws
pub mod prover
