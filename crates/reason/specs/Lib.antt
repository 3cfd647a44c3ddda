pub mod Reason
pub mod Exactly
pub mod Vectors
