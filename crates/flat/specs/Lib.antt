pub mod Blocks
pub mod Pages
pub mod Flat
pub mod Shape
