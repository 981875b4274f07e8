pub mod Record
pub mod Filled
pub mod Block
pub mod Run
