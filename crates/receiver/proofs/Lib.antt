pub mod Unchecked
pub mod Keep
mod Advance
pub mod Laws
