pub mod Digits
pub mod ReadWritten
pub mod Laws
