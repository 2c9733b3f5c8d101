pub mod Checked
pub mod Table
