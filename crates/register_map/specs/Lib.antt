pub mod Map
pub mod Change
pub mod Laws
