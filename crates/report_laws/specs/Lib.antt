pub mod EachLine
pub mod Cuts
pub mod Example
