pub mod Local
pub mod LocalLaws
pub mod Ran
pub mod Runs
pub mod Merged
pub mod Laws
pub mod Refusals
pub mod prover
