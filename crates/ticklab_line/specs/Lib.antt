pub mod CommandLine
pub mod Found
pub mod Commands
pub mod Conflicts
pub mod Slips
pub mod Lines
pub mod Laws
pub mod prover
