pub mod Filled
pub mod InRange
mod FiveNumbers
pub mod Run
mod Rest
pub mod Refused
