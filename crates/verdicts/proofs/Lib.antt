pub mod Keep
pub mod Rows
pub mod Counts
mod Stored
mod Cleared
mod Verdicts
mod Executed
pub mod Named
pub mod Laws
