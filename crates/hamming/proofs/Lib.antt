pub mod Linear
pub mod Search
pub mod Loops
pub mod Correction
pub mod Place
pub mod Columns
pub mod Uses
