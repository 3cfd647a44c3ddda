pub mod Reader
pub mod Laws
pub mod Vectors
