pub mod Wording
pub mod Vectors
