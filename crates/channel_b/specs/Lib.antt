pub mod TakeBit
pub mod Laws
