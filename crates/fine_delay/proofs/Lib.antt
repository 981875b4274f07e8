pub mod Integers
pub mod Naturals
pub mod Inverse
pub mod Laws
