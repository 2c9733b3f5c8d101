pub mod Calling
pub mod Offered
