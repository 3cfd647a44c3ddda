pub mod Map
pub mod Image
pub mod Laws
pub mod Guides
pub mod Vectors
