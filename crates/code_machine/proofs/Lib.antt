pub mod Offered
mod Examples
mod Fine
mod Words
mod Safe
mod Runs
mod Found
mod Kept
mod Served
mod Steps
