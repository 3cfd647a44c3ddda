pub mod Engine
pub mod Laws
pub mod Vectors
