pub mod IdleClock
pub mod AtRest
pub mod Laws
