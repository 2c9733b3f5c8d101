pub mod Calls
pub mod Host
pub mod Reading
pub mod Writing
