pub mod EachLine
pub mod Cuts
pub mod Longest
pub mod Example
