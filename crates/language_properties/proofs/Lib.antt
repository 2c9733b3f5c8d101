pub mod Alike
pub mod Counting
mod Examples
pub mod Offered
pub mod ValueLaws
pub mod Asking
