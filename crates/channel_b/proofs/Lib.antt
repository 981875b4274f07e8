pub mod TakeBit
pub mod Bits
pub mod Laws
