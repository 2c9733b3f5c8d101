pub mod prover
