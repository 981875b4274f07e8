mod HeldBits
mod OneCall
mod Beside
mod LastClock
mod CleanLast
mod ChannelB
mod EveryList
mod Ending
pub mod Demand3
pub mod Flips
pub mod BadStop
pub mod FineDelays
pub mod Existence
pub mod Examples
pub mod Blocks
pub mod WithColumns
