pub mod Over
pub mod Numbers
pub mod Pages
