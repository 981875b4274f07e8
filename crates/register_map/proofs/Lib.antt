pub mod Keep
pub mod Stored
pub mod Laws
