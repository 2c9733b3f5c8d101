mod Examples
mod Lists
mod Known
mod Faultless
mod Passing
mod Kept
mod Coding
pub mod Offered
