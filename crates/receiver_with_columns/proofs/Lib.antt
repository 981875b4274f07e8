pub mod Before
pub mod Laws
