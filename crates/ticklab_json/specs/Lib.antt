pub mod Members
pub mod Events
pub mod Steps
pub mod Hunts
pub mod Checks
pub mod Explanations
pub mod Found
