pub mod Refusals
pub mod RefusalLine
