-- The numbers that document 01 gives to what the code has as cases, and numbers side by side.
pub mod Numbers
pub mod Rows
