pub mod State
pub mod Shown
pub mod WellFormed
pub mod States
pub mod Changes
