pub mod Word
pub mod Laws
pub mod Vectors
