pub mod ValuedTokens
pub mod Extents
pub mod Reading
pub mod Printing
