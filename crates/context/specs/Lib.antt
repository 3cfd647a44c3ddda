pub mod Context
pub mod Laws
pub mod State
