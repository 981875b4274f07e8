pub mod Clock
pub mod Laws
