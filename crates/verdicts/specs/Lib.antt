pub mod Table
pub mod Finished
pub mod FrameLaws
pub mod Laws
