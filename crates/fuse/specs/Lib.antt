pub mod Fuse
pub mod Charge
pub mod Vectors
