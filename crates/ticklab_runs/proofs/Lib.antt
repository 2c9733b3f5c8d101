pub mod Alike
pub mod Breaks
pub mod Kept
pub mod Pictured
pub mod Ran
