pub mod Delay
pub mod Inverse
pub mod Laws
pub mod Naturals
