pub mod After
pub mod Cache
pub mod Vectors
