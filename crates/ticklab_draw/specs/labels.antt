pub mod Captions
pub mod Figures
pub mod Frames
pub mod Laws
pub mod Layout
pub mod Pictures
pub mod Shapes
