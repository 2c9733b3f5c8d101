pub mod CodeText
pub mod Laws
pub mod prover
