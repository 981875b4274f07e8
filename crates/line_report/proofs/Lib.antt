pub mod Write
pub mod Decimal
pub mod Word
pub mod LineSoFar
pub mod Bounds
mod Ones
pub mod Keep
pub mod EndLength
pub mod Feed
pub mod Work
pub mod Turn
