pub mod Numbers
pub mod Packing
