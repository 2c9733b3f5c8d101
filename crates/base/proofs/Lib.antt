pub mod Blocks
pub mod DigitValues
pub mod NumberLemmas
pub mod Offered
pub mod RowLemmas
