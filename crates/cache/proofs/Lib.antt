pub mod Laws
pub mod After
