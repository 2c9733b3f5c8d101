pub mod Remaining
pub mod Steps
pub mod Machine
