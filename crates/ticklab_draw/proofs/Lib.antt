pub mod Offered
pub mod Tabled
pub mod Markup
pub mod Counted
pub mod Shown
