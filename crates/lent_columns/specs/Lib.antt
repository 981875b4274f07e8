pub mod Check
pub mod Laws
pub mod Frames
pub mod Examples
