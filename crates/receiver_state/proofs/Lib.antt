pub mod WellFormed
pub mod HeldBits
pub mod States
pub mod Shown
pub mod Changes
