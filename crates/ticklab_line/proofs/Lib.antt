pub mod CommandLines
pub mod Numbers
pub mod Askings
pub mod Subcommands
