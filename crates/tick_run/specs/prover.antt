pub mod Turns
pub mod Rows
pub mod Alone
pub mod Work
