mod Examples
pub mod Steps
pub mod Counted
pub mod Open
pub mod StandsFor
pub mod Makes
