pub mod Examples
pub mod Letters
mod LineExamples
pub mod LineLemmas
pub mod Scopes
pub mod Told
