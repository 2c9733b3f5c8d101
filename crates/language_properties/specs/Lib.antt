pub mod Properties
pub mod Values
pub mod Seen
pub mod Laws
pub mod Asking
pub mod prover
