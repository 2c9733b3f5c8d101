pub mod Faulted
pub mod LinesAsked
pub mod ProgramFiles
pub mod Refusals
pub mod Responding
