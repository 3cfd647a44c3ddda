pub mod Direct
pub mod Laws
pub mod Vectors
