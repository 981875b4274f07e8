pub mod WithColumns
pub mod Laws
