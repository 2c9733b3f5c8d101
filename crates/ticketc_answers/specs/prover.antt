pub mod Responses
pub mod Faults
