pub mod Heads
pub mod Links
pub mod SoFar
pub mod Runs
