pub mod Blocks
pub mod Back
pub mod Made
pub mod Pages
pub mod Laws
