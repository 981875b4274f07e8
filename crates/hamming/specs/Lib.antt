pub mod Code
pub mod Columns
pub mod Correction
pub mod Place
pub mod Uses
