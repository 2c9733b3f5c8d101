pub mod Offered
mod Examples
mod Along
mod Fine
mod Standing
mod Emitted
