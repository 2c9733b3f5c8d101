pub mod Machines
pub mod Moves
pub mod Walkers
