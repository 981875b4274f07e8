pub mod Digits
pub mod Read
pub mod Write
pub mod ReadWritten
pub mod Laws
