pub mod Chksum
pub mod Laws
pub mod Vectors
