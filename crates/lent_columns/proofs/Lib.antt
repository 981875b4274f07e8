pub mod Taken
pub mod Groups
pub mod Laws
pub mod Examples
pub mod Parts
pub mod Frames
pub mod Outcome
