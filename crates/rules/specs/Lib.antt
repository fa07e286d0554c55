-- Document 01, as C-11 of document 02 changes it, as definitions, from the ground up. The theorems over them are in proofs/.
pub mod Conditions
pub mod Clock
pub mod Parts
pub mod Ranges
pub mod Views
pub mod Answers
pub mod Order
pub mod Messages
pub mod Server
pub mod Client
pub mod Steps
pub mod Examples
pub mod Edges
pub mod Effects
