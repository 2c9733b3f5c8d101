pub mod Steps
pub mod Closed
