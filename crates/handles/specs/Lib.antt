pub mod Handles
pub mod Making
pub mod Laws
pub mod After
pub mod Fresh
pub mod Vectors
