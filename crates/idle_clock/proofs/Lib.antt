mod BusSequence
mod Keep
pub mod Laws
pub mod AtRest
