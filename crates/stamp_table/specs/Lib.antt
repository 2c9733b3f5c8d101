pub mod Passes
pub mod Ordered
pub mod Swapped
pub mod Cleared
pub mod Rule
pub mod prover
