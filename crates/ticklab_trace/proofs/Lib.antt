pub mod Slices
pub mod HeadTokens
pub mod Cutting
pub mod Passing
pub mod Linked
pub mod Followed
pub mod Running
pub mod Offered
pub mod Rows
mod FoldExamples
