pub mod Fields
pub mod Request
pub mod Laws
pub mod Vectors
