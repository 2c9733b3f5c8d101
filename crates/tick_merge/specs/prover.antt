pub mod Standing
pub mod Held
pub mod Reached
