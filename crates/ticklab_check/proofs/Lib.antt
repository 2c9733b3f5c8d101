pub mod Asked
pub mod Finding
pub mod Listing
pub mod Offered
