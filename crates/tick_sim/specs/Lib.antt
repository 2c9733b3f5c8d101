pub mod Maps
pub mod Laws
pub mod Properties
pub mod Ends
pub mod prover
