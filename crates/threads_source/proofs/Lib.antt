mod Shown
mod Examples
pub mod Offered
